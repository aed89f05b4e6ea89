-- The tie of the operations that wait to the last begin calls that were answered with a wait, and how calls keep it. Assumes nothing.
use Prim.Native.Nat.{ℕ, suc, ◌<◌}
use mathlib.Core.Logic.{◌⊎◌, inl, inr, ◌≢◌}
use mathlib.Core.Path.{◌≡◌, sym, ap, ◌∙◌}
use native.Mathlib.Omega.{arith}
use Rattle.words.specs.declared.LaneNo.{LaneNo}
use Rattle.words.specs.declared.WordNo.{WordNo}
use Rattle.words.specs.declared.Op.{Op}
use Rattle.machine.specs.Claims.Attribution.{Begun, Of, begun_at, LastWaits, no_waits}
use Rattle.machine.proofs.List.Owes.{Pending, Rests, upd, none_pending}
use Rattle.machine.proofs.Laws.Sets.{same?}
use Rattle.machine.proofs.Laws.Updates.{upd_same, upd_other}
use Rattle.machine.proofs.Bounds.KeepsLane.{clash}

-- lanes of one number are one lane
lane_same : (j k : LaneNo) → j.0 ≡ k.0 → j ≡ k
lane_same j k e = λ i. record { 0 = e i }

-- an outstanding operation: its lane waits for it, and its begin call is the lane's last that was answered with a wait
pub record Outstanding (p : ℕ → Pending) (last : LastWaits) (b : Begun) : Type 0 where
  pub waits : p b.lane.0 ≡ Pending.StillWaits b.op b.word
  pub is_last : last b.lane.0 ≡ Of b

-- the tie before the call of index i, where P holds of the operations begun
pub record Tied (P : Begun → Type 0) (p : ℕ → Pending) (last : LastWaits) (i : ℕ) : Type 0 where
  -- what a lane waits for is outstanding
  pub held : (k : LaneNo) (op : Op) (w : WordNo) → p k.0 ≡ Pending.StillWaits op w → (j : ℕ) × Outstanding p last (begun_at j k op w)
  pub before : (b : Begun) → Outstanding p last b → b.index < i
  pub was_begun : (b : Begun) → Outstanding p last b → P b
  -- the index tells an outstanding operation from all others
  pub apart : (a b : Begun) → Outstanding p last a → Outstanding p last b → a.index ≡ b.index → a ≡ b

-- one lane has at most one outstanding operation
pub one_each : (p : ℕ → Pending) (last : LastWaits) (a b : Begun) → Outstanding p last a → Outstanding p last b → a.lane.0 ≡ b.lane.0 → a ≡ b
one_each p last a b x y e = let u : Of a ≡ Of b = sym x.is_last ∙ ap last e ∙ y.is_last in cc

-- any call: the next one has the next index
pub tied_later : (P : Begun → Type 0) (p : ℕ → Pending) (last : LastWaits) (i : ℕ) → Tied P p last i → Tied P p last (suc i)
tied_later P p last i t = record { held = t.held; before = λ b x. let h = t.before b x in omega arith; was_begun = t.was_begun; apart = t.apart }

-- nothing waits, so nothing is outstanding
pub tied_none : (P : Begun → Type 0) → Tied P none_pending no_waits 0
tied_none P = record {
  held = λ k op w e. clash (cc);
  before = λ b x. absurd (none b x);
  was_begun = λ b x. absurd (none b x);
  apart = λ a b x y e. absurd (none a x);
}
  where
    none : (b : Begun) → Outstanding none_pending no_waits b → ⊥
    none b x = let e : Rests ≡ Pending.StillWaits b.op b.word = x.waits in clash (cc)

-- lane k's operation completes
module _ (p : ℕ → Pending) (last : LastWaits) (k : ℕ) where
  -- the others are outstanding still
  pub still_waits : (b : Begun) → b.lane.0 ≢ k → Outstanding p last b → Outstanding (upd p k Rests) last b
  still_waits b n x = record { waits = upd_other p k Rests b.lane.0 n ∙ x.waits; is_last = x.is_last }

  -- the lane has none
  pub rests_now : (j : ℕ) (op : Op) (w : WordNo) → upd p k Rests j ≡ Pending.StillWaits op w → (j ≢ k) × (p j ≡ Pending.StillWaits op w)
  rests_now j op w e = go (same? j k)
    where
      go : (j ≡ k) ⊎ (j ≢ k) → (j ≢ k) × (p j ≡ Pending.StillWaits op w)
      go (inl q) = let u : Rests ≡ Pending.StillWaits op w = sym (upd_same p k Rests) ∙ ap (upd p k Rests) (sym q) ∙ e in clash (cc)
      go (inr n) = (n, sym (upd_other p k Rests j n) ∙ e)

  -- what is outstanding now was so before
  pub waited_too : (b : Begun) → Outstanding (upd p k Rests) last b → (b.lane.0 ≢ k) × Outstanding p last b
  waited_too b x = let r = rests_now b.lane.0 b.op b.word x.waits in (r.0, record { waits = r.1; is_last = x.is_last })

  -- so the tie is kept
  pub tied_done : (P : Begun → Type 0) (i : ℕ) → Tied P p last i → Tied P (upd p k Rests) last i
  tied_done P i t = record {
    held = held;
    before = λ b x. t.before b (waited_too b x).1;
    was_begun = λ b x. t.was_begun b (waited_too b x).1;
    apart = λ a b x y. t.apart a b (waited_too a x).1 (waited_too b y).1;
  }
    where
      held : (j : LaneNo) (op : Op) (w : WordNo) → upd p k Rests j.0 ≡ Pending.StillWaits op w → (z : ℕ) × Outstanding (upd p k Rests) last (begun_at z j op w)
      held j op w e =
          let r = rests_now j.0 op w e in
          let h = t.held j op w r.1 in
          (h.0, still_waits (begun_at h.0 j op w) r.0 h.1)

-- lane k waits for an operation
abbrev pub waiting : (ℕ → Pending) → LaneNo → Op → WordNo → ℕ → Pending
waiting p k op w = upd p k.0 (Pending.StillWaits op w)

-- .. which the call of index i began
abbrev pub last_is : LastWaits → ℕ → LaneNo → Op → WordNo → LastWaits
last_is last i k op w = upd last k.0 (Of (begun_at i k op w))

-- the call of index i is answered with a wait
module _ (p : ℕ → Pending) (last : LastWaits) (i : ℕ) (k : LaneNo) (op : Op) (w : WordNo) where
  -- it is outstanding
  pub waits_now : Outstanding (waiting p k op w) (last_is last i k op w) (begun_at i k op w)
  waits_now = record { waits = upd_same p k.0 (Pending.StillWaits op w); is_last = upd_same last k.0 (Of (begun_at i k op w)) }

  -- those on other lanes are so still
  pub others_wait : (b : Begun) → b.lane.0 ≢ k.0 → Outstanding p last b → Outstanding (waiting p k op w) (last_is last i k op w) b
  others_wait b n x = record {
    waits = upd_other p k.0 (Pending.StillWaits op w) b.lane.0 n ∙ x.waits;
    is_last = upd_other last k.0 (Of (begun_at i k op w)) b.lane.0 n ∙ x.is_last;
  }

  -- .. and where the lane rested these are all
  pub all_wait : p k.0 ≡ Rests → (b : Begun) → Outstanding p last b → Outstanding (waiting p k op w) (last_is last i k op w) b
  all_wait r b x = others_wait b (λ e. let u : Rests ≡ Pending.StillWaits b.op b.word = sym r ∙ ap p (sym e) ∙ x.waits in clash (cc)) x

  -- what is outstanding now is the new one, or was so before
  pub new_or_old : (b : Begun) → Outstanding (waiting p k op w) (last_is last i k op w) b → (b ≡ begun_at i k op w) ⊎ Outstanding p last b
  new_or_old b x = go (same? b.lane.0 k.0)
    where
      go : (b.lane.0 ≡ k.0) ⊎ (b.lane.0 ≢ k.0) → (b ≡ begun_at i k op w) ⊎ Outstanding p last b
      go (inl e) = inl (one_each (waiting p k op w) (last_is last i k op w) b (begun_at i k op w) x waits_now e)
      go (inr n) = inr (record {
        waits = sym (upd_other p k.0 (Pending.StillWaits op w) b.lane.0 n) ∙ x.waits;
        is_last = sym (upd_other last k.0 (Of (begun_at i k op w)) b.lane.0 n) ∙ x.is_last;
      })

  -- what a lane waits for is outstanding still
  held_then : (P : Begun → Type 0) → Tied P p last i → (j : LaneNo) (o : Op) (v : WordNo) → waiting p k op w j.0 ≡ Pending.StillWaits o v →
      (z : ℕ) × Outstanding (waiting p k op w) (last_is last i k op w) (begun_at z j o v)
  held_then P t j o v e = go (same? j.0 k.0)
    where
      go : (j.0 ≡ k.0) ⊎ (j.0 ≢ k.0) → (z : ℕ) × Outstanding (waiting p k op w) (last_is last i k op w) (begun_at z j o v)
      go (inl q) =
          let u : Pending.StillWaits op w ≡ Pending.StillWaits o v = sym (upd_same p k.0 (Pending.StillWaits op w)) ∙ ap (waiting p k op w) (sym q) ∙ e in
          let s : j ≡ k = lane_same j k q in
          let b : begun_at i k op w ≡ begun_at i j o v = cc in
          (i, rw (← b) waits_now)
      go (inr n) =
          let h = t.held j o v (sym (upd_other p k.0 (Pending.StillWaits op w) j.0 n) ∙ e) in
          (h.0, others_wait (begun_at h.0 j o v) n h.1)

  -- so the tie is kept
  pub tied_wait : (P : Begun → Type 0) → Tied P p last i → P (begun_at i k op w) → Tied P (waiting p k op w) (last_is last i k op w) (suc i)
  tied_wait P t new = record {
    held = held_then P t;
    before = λ b x. before b (new_or_old b x);
    was_begun = λ b x. was_begun b (new_or_old b x);
    apart = λ a b x y. apart a b (new_or_old a x) (new_or_old b y);
  }
    where
      before : (b : Begun) → (b ≡ begun_at i k op w) ⊎ Outstanding p last b → b.index < suc i
      before b (inl e) = let h : b.index ≡ i = ap (λ (r : Begun). r.index) e in omega arith
      before b (inr x) = let h = t.before b x in omega arith

      was_begun : (b : Begun) → (b ≡ begun_at i k op w) ⊎ Outstanding p last b → P b
      was_begun b (inl e) = rw e new
      was_begun b (inr x) = t.was_begun b x

      apart : (a b : Begun) → (a ≡ begun_at i k op w) ⊎ Outstanding p last a → (b ≡ begun_at i k op w) ⊎ Outstanding p last b → a.index ≡ b.index → a ≡ b
      apart a b (inl x) (inl y) e = x ∙ sym y
      apart a b (inl x) (inr y) e = let h : a.index ≡ i = ap (λ (r : Begun). r.index) x in let u = t.before b y in absurd (omega arith)
      apart a b (inr x) (inl y) e = let h : b.index ≡ i = ap (λ (r : Begun). r.index) y in let u = t.before a x in absurd (omega arith)
      apart a b (inr x) (inr y) e = t.apart a b x y e
