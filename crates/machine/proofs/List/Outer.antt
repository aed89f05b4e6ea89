-- Demand 3's induction over a list of calls, of no machine: a list of calls that paid what they owe (Owes.antt) completes each operation
-- once, with flat memory's value, in the order of the completions. Assumes nothing.
use Prim.Native.Nat.{ℕ, suc, ◌≤◌}
use mathlib.Core.Logic.{◌⊎◌, inl, inr, ◌≢◌}
use mathlib.Core.Path.{◌≡◌, refl, sym, ap}
use mathlib.Core.List.Memᴰ
use mathlib.Core.List.{List, [], ◌∷◌, ◌++◌, map, Memᴰ}
use native.Mathlib.Omega.{arith}
use Rattle.words.specs.declared.LaneNo.{LaneNo}
use Rattle.words.specs.declared.WordNo.{WordNo}
use Rattle.words.specs.declared.Op.{Op}
use Rattle.answers.specs.declared.Answer.{Answer}
use Rattle.answers.specs.declared.Answer.TheVariants.{Opened, Done, Wait, Step}
use Rattle.answers.specs.declared.Completion.{Completion}
use Rattle.machine.specs.Machine.Calls.{Call, Begin, Serve, Return, Deliver, Settle, Reply, Answers, SettledWith, Entry, completions_of, is_wait, is_refused}
use Rattle.machine.specs.Claims.Attribution.{Begun, Of, Attributed, begun_at, LastWaits, no_waits, waits_after, origin_of, attribute, begun_by, begun_from, operations_of}
use Rattle.machine.specs.Claims.Flat.{flat_of, flat_value, flat_after, flat_values, flat_end}
use Rattle.machine.specs.Claims.Demand3.{completed, operations, begun, Distinct, Owned}
use Rattle.machine.proofs.List.Owes.{Pending, Rests, upd, fed, Completes, BeginOwes, Owes, Paid, none_pending}
use Rattle.machine.proofs.Laws.Sets.{same?}
use Rattle.machine.proofs.Bounds.KeepsLane.{clash}
use Rattle.machine.proofs.List.OuterTie.{Outstanding, Tied, one_each, tied_none, tied_later, still_waits, waited_too, tied_done, waiting, last_is, waits_now, all_wait, new_or_old, tied_wait}
use Rattle.std.specs.Prelude.{Result, Ok, Err}
use Rattle.answers.specs.declared.Refusal.{Refusal}

-- what a list of calls that paid tells, with the operations that wait (q) and flat memory (g) after it
pub record Told (m : ℕ) (h : List Entry) (q : ℕ → Pending) (g : List ℕ) : Type 0 where
  pub owned : (x : Attributed) → Memᴰ x (completed h) → Owned h x
  pub once : Distinct (map (λ (b : Begun). b.index) (operations h))
  pub values : map (λ (x : Attributed). x.completion.value) (completed h) ≡ flat_values (flat_of m) (operations h)
  pub end : g ≡ flat_end (flat_of m) (operations h)
  pub all_completed : ((k : ℕ) → q k ≡ Rests) → (b : Begun) → Memᴰ b (begun h) → Memᴰ b (operations h)
  -- what a lane waits for was begun there, and has not completed
  pub not_yet : (k : LaneNo) (op : Op) (w : WordNo) → q k.0 ≡ Pending.StillWaits op w →
      (i : ℕ) × Memᴰ (begun_at i k op w) (begun h) × (Memᴰ (begun_at i k op w) (operations h) → ⊥)

-- an operation is one of those begun
abbrev In : List Entry → Begun → Type 0
In h b = Memᴰ b (begun h)

-- the indices of operations
abbrev indices : List Begun → List ℕ
indices bs = map (λ (b : Begun). b.index) bs

-- an index that none of them has is not among them
new_index : (i : ℕ) (bs : List Begun) → ((b : Begun) → Memᴰ b bs → b.index ≢ i) → Memᴰ i (indices bs) → ⊥
new_index i bs n m = let r = Memᴰ.of_map (λ (b : Begun). b.index) bs m in n r.0 r.1 r.2

-- a completion of b
abbrev attributed : Completion → Begun → Attributed
attributed x b = record { completion = x; origin = Of b }

-- a completion of its lane's last wait
abbrev by_lane : LastWaits → Completion → Attributed
by_lane last x = record { completion = x; origin = last x.lane.0 }

-- an operation of index i, then those of later ones
from_index : (i : ℕ) (b : Begun) (bs : List Begun) → b.index ≡ i → ((a : Begun) → Memᴰ a bs → suc i ≤ a.index) → (a : Begun) → Memᴰ a (b ∷ bs) → i ≤ a.index
from_index i b bs e later a m = go (Memᴰ.cases_cons m)
  where
    go : (a ≡ b) ⊎ Memᴰ a bs → i ≤ a.index
    go (inl d) = let z : a.index ≡ b.index = ap (λ (c : Begun). c.index) d in omega arith
    go (inr n) = let z = later a n in omega arith

-- h is the whole history; q is what waits after it, and g flat memory
module _ (h : List Entry) (q : ℕ → Pending) (g : List ℕ) where
  -- from the call of index i on, where xs are the completions to come and bs the operations to be begun
  record Tells (p : ℕ → Pending) (last : LastWaits) (i : ℕ) (f : List ℕ) (xs : List Attributed) (bs : List Begun) : Type 0 where
    owned : (x : Attributed) → Memᴰ x xs → Owned h x
    -- what completes is outstanding, or is yet to begin
    from : (b : Begun) → Memᴰ b (operations_of xs) → Outstanding p last b ⊎ (i ≤ b.index)
    once : Distinct (indices (operations_of xs))
    values : map (λ (x : Attributed). x.completion.value) xs ≡ flat_values f (operations_of xs)
    end : g ≡ flat_end f (operations_of xs)
    all_completed : ((k : ℕ) → q k ≡ Rests) → (b : Begun) → Outstanding p last b ⊎ Memᴰ b bs → Memᴰ b (operations_of xs)
    -- what is yet to begin has a later index
    later : (b : Begun) → Memᴰ b bs → i ≤ b.index
    -- what a lane waits for in the end is outstanding, or is yet to begin, and does not complete
    not_yet : (k : LaneNo) (op : Op) (w : WordNo) → q k.0 ≡ Pending.StillWaits op w →
        (j : ℕ) × (Outstanding p last (begun_at j k op w) ⊎ Memᴰ (begun_at j k op w) bs) × (Memᴰ (begun_at j k op w) (operations_of xs) → ⊥)

  -- no call is left
  tells_none : (last : LastWaits) (i : ℕ) (p : ℕ → Pending) (f : List ℕ) → Tied (In h) p last i → q ≡ p → g ≡ f → Tells p last i f [] []
  unfolding operations_of flat_values flat_end
  tells_none last i p f t e e' = record {
    owned = λ x m. absurd (Memᴰ.not-nil m);
    from = λ b m. absurd (Memᴰ.not-nil m);
    once = tt;
    values = refl;
    end = e';
    all_completed = all;
    later = λ b m. absurd (Memᴰ.not-nil m);
    not_yet = λ k op w d. let o = t.held k op w (rw e at d) in (o.0, inl o.1, λ m. Memᴰ.not-nil m);
  }
    where
      all : ((k : ℕ) → q k ≡ Rests) → (b : Begun) → Outstanding p last b ⊎ Memᴰ b [] → Memᴰ b []
      all quiet b (inl x) = let u : q b.lane.0 ≡ Pending.StillWaits b.op b.word = rw e x.waits in let v = quiet b.lane.0 in clash (cc)
      all quiet b (inr m) = m

  -- a call that tells nothing
  tells_later : (p : ℕ → Pending) (last : LastWaits) (i : ℕ) (f : List ℕ) (xs : List Attributed) (bs : List Begun) →
      Tells p last (suc i) f xs bs → Tells p last i f xs bs
  tells_later p last i f xs bs r = record {
    owned = r.owned;
    from = λ b m. from b (r.from b m);
    once = r.once;
    values = r.values;
    end = r.end;
    all_completed = r.all_completed;
    later = λ b m. let l = r.later b m in omega arith;
    not_yet = r.not_yet;
  }
    where
      from : (b : Begun) → Outstanding p last b ⊎ (suc i ≤ b.index) → Outstanding p last b ⊎ (i ≤ b.index)
      from b (inl x) = inl x
      from b (inr l) = inr (omega arith)

  -- a first completion, of an operation begun on its lane
  owned_first : (x : Completion) (b : Begun) (xs : List Attributed) → b.lane ≡ x.lane → In h b → ((y : Attributed) → Memᴰ y xs → Owned h y) →
      (y : Attributed) → Memᴰ y (attributed x b ∷ xs) → Owned h y
  owned_first x b xs l m r y n = go (Memᴰ.cases_cons n)
    where
      go : (y ≡ attributed x b) ⊎ Memᴰ y xs → Owned h y
      go (inl e) = rw e (record { operation = b; found = refl; lane = l; was_begun = m })
      go (inr n') = r y n'

  -- a lane completes the operation that it waits for
  tells_done : (p : ℕ → Pending) (last : LastWaits) (i : ℕ) (f : List ℕ) (x : Completion) (b : Begun) (xs : List Attributed) (bs : List Begun) →
      Tied (In h) p last i → Outstanding p last b → b.lane ≡ x.lane → x.value ≡ flat_value f b →
      Tells (upd p b.lane.0 Rests) last i (flat_after f b) xs bs → Tells p last i f (attributed x b ∷ xs) bs
  unfolding operations_of flat_values flat_end
  tells_done p last i f x b xs bs t o l v r = record {
    owned = owned_first x b xs l (t.was_begun b o) r.owned;
    from = λ a m. from a (Memᴰ.cases_cons m);
    once = (new_index b.index (operations_of xs) (λ a m. new a (r.from a m)), r.once);
    values = rw (v, r.values);
    end = r.end;
    all_completed = λ quiet a s. all quiet a (same? a.lane.0 b.lane.0) s;
    later = r.later;
    not_yet = λ k op w d. let n = r.not_yet k op w d in (n.0, earlier _ n.1, λ m. left _ n.1 n.2 (Memᴰ.cases_cons m));
  }
    where
      before : (a : Begun) → Outstanding (upd p b.lane.0 Rests) last a → (a.lane.0 ≢ b.lane.0) × Outstanding p last a
      before a y = waited_too p last b.lane.0 a y

      from : (a : Begun) → (a ≡ b) ⊎ Memᴰ a (operations_of xs) → Outstanding p last a ⊎ (i ≤ a.index)
      from a (inl e) = inl (rw e o)
      from a (inr m) = elim (r.from a m) [ inl y ↦ inl (before a y).1 | inr y ↦ inr y ]

      earlier : (a : Begun) → Outstanding (upd p b.lane.0 Rests) last a ⊎ Memᴰ a bs → Outstanding p last a ⊎ Memᴰ a bs
      earlier a (inl y) = inl (before a y).1
      earlier a (inr m) = inr m

      left : (a : Begun) → Outstanding (upd p b.lane.0 Rests) last a ⊎ Memᴰ a bs → (Memᴰ a (operations_of xs) → ⊥) → (a ≡ b) ⊎ Memᴰ a (operations_of xs) → ⊥
      left a (inl y) n (inl e) = (before a y).0 (ap (λ (c : Begun). c.lane.0) e)
      left a (inr m) n (inl e) = let z = t.before b o in let l = r.later a m in let d = ap (λ (c : Begun). c.index) e in omega arith
      left a s n (inr m) = n m

      new : (a : Begun) → Outstanding (upd p b.lane.0 Rests) last a ⊎ (i ≤ a.index) → a.index ≢ b.index
      new a (inl y) e = (before a y).0 (ap (λ (c : Begun). c.lane.0) (t.apart a b (before a y).1 o e))
      new a (inr y) e = let z = t.before b o in omega arith

      all : ((k : ℕ) → q k ≡ Rests) → (a : Begun) → (a.lane.0 ≡ b.lane.0) ⊎ (a.lane.0 ≢ b.lane.0) → Outstanding p last a ⊎ Memᴰ a bs → Memᴰ a (b ∷ operations_of xs)
      all quiet a (inl e) (inl y) = Memᴰ.head (one_each p last a b y o e)
      all quiet a (inr n) (inl y) = Memᴰ.tail (r.all_completed quiet a (inl (still_waits p last b.lane.0 a n y)))
      all quiet a c (inr m) = Memᴰ.tail (r.all_completed quiet a (inr m))

  -- a begin call completes what it begins. What its lane waits for (p) and the lane's last wait (last) stay: the operation that completes was never waited
  -- for, so the two cannot be taken for each other (02, W5)
  tells_hit : (p : ℕ → Pending) (last : LastWaits) (i : ℕ) (f : List ℕ) (x : Completion) (b : Begun) (xs : List Attributed) (bs : List Begun) →
      Tied (In h) p last i → b.index ≡ i → In h b → b.lane ≡ x.lane → x.value ≡ flat_value f b →
      Tells p last (suc i) (flat_after f b) xs bs → Tells p last i f (attributed x b ∷ xs) (b ∷ bs)
  unfolding operations_of flat_values flat_end
  tells_hit p last i f x b xs bs t e m l v r = record {
    owned = owned_first x b xs l m r.owned;
    from = λ a n. from a (Memᴰ.cases_cons n);
    once = (new_index b.index (operations_of xs) (λ a n. new a (r.from a n)), r.once);
    values = rw (v, r.values);
    end = r.end;
    all_completed = all;
    later = from_index i b bs e r.later;
    not_yet = λ k op w d. let n = r.not_yet k op w d in (n.0, earlier _ n.1, λ m. left _ n.1 n.2 (Memᴰ.cases_cons m));
  }
    where
      earlier : (a : Begun) → Outstanding p last a ⊎ Memᴰ a bs → Outstanding p last a ⊎ Memᴰ a (b ∷ bs)
      earlier a (inl y) = inl y
      earlier a (inr n) = inr (Memᴰ.tail n)

      left : (a : Begun) → Outstanding p last a ⊎ Memᴰ a bs → (Memᴰ a (operations_of xs) → ⊥) → (a ≡ b) ⊎ Memᴰ a (operations_of xs) → ⊥
      left a (inl y) n (inl d) = let z = t.before a y in let u : a.index ≡ b.index = ap (λ (c : Begun). c.index) d in omega arith
      left a (inr m) n (inl d) = let z = r.later a m in let u : a.index ≡ b.index = ap (λ (c : Begun). c.index) d in omega arith
      left a s n (inr m) = n m

      from : (a : Begun) → (a ≡ b) ⊎ Memᴰ a (operations_of xs) → Outstanding p last a ⊎ (i ≤ a.index)
      from a (inl d) = inr (let z : a.index ≡ b.index = ap (λ (c : Begun). c.index) d in omega arith)
      from a (inr n) = elim (r.from a n) [ inl y ↦ inl y | inr y ↦ inr (omega arith) ]

      new : (a : Begun) → Outstanding p last a ⊎ (suc i ≤ a.index) → a.index ≢ b.index
      new a (inl y) d = let z = t.before a y in omega arith
      new a (inr y) d = omega arith

      all : ((k : ℕ) → q k ≡ Rests) → (a : Begun) → Outstanding p last a ⊎ Memᴰ a (b ∷ bs) → Memᴰ a (b ∷ operations_of xs)
      all quiet a (inl y) = Memᴰ.tail (r.all_completed quiet a (inl y))
      all quiet a (inr n) = elim (Memᴰ.cases_cons n) [ inl d ↦ Memᴰ.head d | inr y ↦ Memᴰ.tail (r.all_completed quiet a (inr y)) ]

  -- a begin call on a lane that rests is answered with a wait
  tells_wait : (p : ℕ → Pending) (last : LastWaits) (i : ℕ) (f : List ℕ) (k : LaneNo) (op : Op) (w : WordNo) (xs : List Attributed) (bs : List Begun) → p k.0 ≡ Rests →
      Tells (waiting p k op w) (last_is last i k op w) (suc i) f xs bs → Tells p last i f xs (begun_at i k op w ∷ bs)
  tells_wait p last i f k op w xs bs e r = record {
    owned = r.owned;
    from = λ a n. from a (r.from a n);
    once = r.once;
    values = r.values;
    end = r.end;
    all_completed = all;
    later = from_index i (begun_at i k op w) bs refl r.later;
    not_yet = λ k' op' w' d. let n = r.not_yet k' op' w' d in (n.0, earlier _ n.1, n.2);
  }
    where
      earlier : (a : Begun) → Outstanding (waiting p k op w) (last_is last i k op w) a ⊎ Memᴰ a bs → Outstanding p last a ⊎ Memᴰ a (begun_at i k op w ∷ bs)
      earlier a (inl y) = elim (new_or_old p last i k op w a y) [ inl d ↦ inr (Memᴰ.head d) | inr o ↦ inl o ]
      earlier a (inr n) = inr (Memᴰ.tail n)

      from : (a : Begun) → Outstanding (waiting p k op w) (last_is last i k op w) a ⊎ (suc i ≤ a.index) → Outstanding p last a ⊎ (i ≤ a.index)
      from a (inl y) = elim (new_or_old p last i k op w a y) [ inl d ↦ inr (let z : a.index ≡ i = ap (λ (c : Begun). c.index) d in omega arith) | inr o ↦ inl o ]
      from a (inr y) = inr (omega arith)

      all : ((k : ℕ) → q k ≡ Rests) → (a : Begun) → Outstanding p last a ⊎ Memᴰ a (begun_at i k op w ∷ bs) → Memᴰ a (operations_of xs)
      all quiet a (inl y) = r.all_completed quiet a (inl (all_wait p last i k op w e a y))
      all quiet a (inr n) = elim (Memᴰ.cases_cons n) [ inl d ↦ r.all_completed quiet a (inl (rw d (waits_now p last i k op w))) | inr y ↦ r.all_completed quiet a (inr y) ]

  -- completions one after another keep the tie
  completes_tied : (p : ℕ → Pending) (last : LastWaits) (i : ℕ) (f : List ℕ) (cs : List Completion) (p₁ : ℕ → Pending) (f₁ : List ℕ) →
      Tied (In h) p last i → Completes p f cs p₁ f₁ → Tied (In h) p₁ last i
  completes_tied p last i f [] p₁ f₁ t s = rw s.0 t
  completes_tied p last i f (x ∷ cs) p₁ f₁ t s =
      completes_tied (upd p x.lane.0 Rests) last i (flat_after f (fed s.0 s.1)) cs p₁ f₁ (tied_done p last x.lane.0 (In h) i t) s.4

  -- a first completion of its lane's last wait
  tells_first : (p : ℕ → Pending) (last : LastWaits) (i : ℕ) (f : List ℕ) (x : Completion) (b : Begun) (xs : List Attributed) (bs : List Begun) →
      last x.lane.0 ≡ Of b → Tells p last i f (attributed x b ∷ xs) bs → Tells p last i f (by_lane last x ∷ xs) bs
  tells_first p last i f x b xs bs e r = rw e r

  -- completions one after another, each of its lane's last wait
  tells_completes : (p : ℕ → Pending) (last : LastWaits) (i : ℕ) (f : List ℕ) (cs : List Completion) (p₁ : ℕ → Pending) (f₁ : List ℕ) (xs : List Attributed) (bs : List Begun) →
      Tied (In h) p last i → Completes p f cs p₁ f₁ → Tells p₁ last i f₁ xs bs → Tells p last i f (map (by_lane last) cs ++ xs) bs
  tells_completes p last i f [] p₁ f₁ xs bs t s r = rw (s.0, s.1) at r
  tells_completes p last i f (x ∷ cs) p₁ f₁ xs bs t s r =
      let o = t.held x.lane s.0 s.1 s.2 in
      tells_first p last i f x (begun_at o.0 x.lane s.0 s.1) (map (by_lane last) cs ++ xs) bs o.1.is_last
      (tells_done p last i f x (begun_at o.0 x.lane s.0 s.1) (map (by_lane last) cs ++ xs) bs t o.1 refl s.3
      (tells_completes (upd p x.lane.0 Rests) last i (flat_after f (fed s.0 s.1)) cs p₁ f₁ xs bs (tied_done p last x.lane.0 (In h) i t) s.4 r))

  -- one call with its answer, then xs and bs
  abbrev Follows : (ℕ → Pending) → LastWaits → ℕ → List ℕ → Call → Reply → (ℕ → Pending) → List ℕ → List Attributed → List Begun → Type 0
  Follows p last i f c r p₁ f₁ xs bs =
      Tied (In h) p₁ (waits_after i last c (is_wait r)) (suc i) ×
      (Tells p₁ (waits_after i last c (is_wait r)) (suc i) f₁ xs bs →
      Tells p last i f (map (λ (x : Completion). record { completion = x; origin = origin_of i last c x }) (completions_of r) ++ xs) (begun_by i c (is_refused r) ++ bs))

  module _ (p : ℕ → Pending) (last : LastWaits) (i : ℕ) (f : List ℕ) (t : Tied (In h) p last i) (p₁ : ℕ → Pending) (f₁ : List ℕ) (xs : List Attributed) (bs : List Begun) where
    -- a begin call
    follows_begin : (k : LaneNo) (op : Op) (w : WordNo) (a : Result Answer Refusal) → ((b : Begun) → Memᴰ b (begun_by i (Begin k op w) (is_refused (Answers a))) → In h b) →
        BeginOwes p f k op w a p₁ f₁ → Follows p last i f (Begin k op w) (Answers a) p₁ f₁ xs bs
    unfolding waits_after origin_of begun_by
    follows_begin k op w (Ok Opened) new s = absurd s
    follows_begin k op w (Ok (Done x)) new s = (
      rw s.2 (tied_later (In h) p last i t),
      λ r. tells_hit p last i f x (begun_at i k op w) xs bs t refl (new (begun_at i k op w) (Memᴰ.head refl)) (sym s.0) s.1 (rw (s.2, s.3) at r),
    )
    follows_begin k op w (Ok Wait) new s = (
      rw s.1 (tied_wait p last i k op w (In h) t (new (begun_at i k op w) (Memᴰ.head refl))),
      λ r. tells_wait p last i f k op w xs bs s.0 (rw (s.1, s.2) at r),
    )
    follows_begin k op w (Ok Step) new s = absurd s
    follows_begin k op w (Err n) new s = (rw s.0 (tied_later (In h) p last i t), λ r. tells_later p last i f xs bs (rw (s.0, s.1) at r))

    -- any other call: its completions are of their lanes' last waits
    abbrev Lately : Reply → Type 0
    Lately r = Tied (In h) p₁ last (suc i) × (Tells p₁ last (suc i) f₁ xs bs → Tells p last i f (map (by_lane last) (completions_of r) ++ xs) bs)

    lately : (r : Reply) → Completes p f (completions_of r) p₁ f₁ → Lately r
    lately r s = (
      tied_later (In h) p₁ last i (completes_tied p last i f (completions_of r) p₁ f₁ t s),
      λ z. tells_completes p last i f (completions_of r) p₁ f₁ xs bs t s (tells_later p₁ last i f₁ xs bs z),
    )

    -- any call
    follows : (c : Call) (r : Reply) → ((b : Begun) → Memᴰ b (begun_by i c (is_refused r)) → In h b) → Owes p f c r p₁ f₁ → Follows p last i f c r p₁ f₁ xs bs
    unfolding waits_after origin_of begun_by
    follows (Begin k op w) (Answers a) new s = follows_begin k op w a new s
    follows (Begin k op w) (SettledWith a cs) new s = absurd s
    follows (Serve k) r new s = lately r s
    follows (Return k) r new s = lately r s
    follows (Deliver k) r new s = lately r s
    follows Settle r new s = lately r s

  -- the whole list
  tells : (es : List Entry) (p : ℕ → Pending) (last : LastWaits) (i : ℕ) (f : List ℕ) → Tied (In h) p last i → ((b : Begun) → Memᴰ b (begun_from i es) → In h b) →
      Paid p f es q g → Tells p last i f (attribute i last es) (begun_from i es)
  unfolding attribute begun_from
  tells [] p last i f t new s = tells_none last i p f t s.0 s.1
  tells (e ∷ es) p last i f t new s =
      let last₁ = waits_after i last e.call (is_wait e.reply) in
      let one = follows p last i f t s.0 s.1 (attribute (suc i) last₁ es) (begun_from (suc i) es) e.call e.reply (λ b m. new b (Memᴰ.append_left (begun_from (suc i) es) m)) s.2 in
      one.1 (tells es s.0 last₁ (suc i) s.1 one.0 (λ b m. new b (Memᴰ.append_right (begun_by i e.call (is_refused e.reply)) m)) s.3)

-- the outer induction
pub outer : (m : ℕ) (h : List Entry) (q : ℕ → Pending) (g : List ℕ) → Paid none_pending (flat_of m) h q g → Told m h q g
outer m h q g s =
    let r = tells h q g h none_pending no_waits 0 (flat_of m) (tied_none (In h)) (λ b n. n) s in
    record {
      owned = r.owned;
      once = r.once;
      values = r.values;
      end = r.end;
      all_completed = λ quiet b n. r.all_completed quiet b (inr n);
      not_yet = λ k op w e. let n = r.not_yet k op w e in (n.0, begun_one _ n.1, n.2);
    }
  where
    -- nothing is outstanding before the first call
    begun_one : (b : Begun) → Outstanding none_pending no_waits b ⊎ Memᴰ b (begun h) → Memᴰ b (begun h)
    begun_one b (inl o) = let e : Rests ≡ Pending.StillWaits b.op b.word = o.waits in clash (cc)
    begun_one b (inr m) = m
