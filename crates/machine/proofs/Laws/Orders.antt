-- A use of a line and a fill keep a use order one: each turn changes two places over. Assumes nothing.
use Prim.Native.Nat.{ℕ, ◌+◌, ◌-◌, ◌<◌, ◌≤◌}
use mathlib.Core.Logic.{◌⊎◌, inl, inr, ◌≢◌}
use mathlib.Core.Path.{◌≡◌, refl, ap, sym, ◌∙◌}
use mathlib.Core.Bool.{cond}
use mathlib.Core.List.{List}
use lib.Dec.{eqb}
use lib.ListN.{length, set, length-set}
use lib.Seq.{get_or-set_same, get_or-set_other}
use borrow.Author.Tests.{eq-eqb, ne_eqb}
use native.Mathlib.Omega.{arith}
use Rattle.words.specs.declared.LineNo.{LineNo}
use Rattle.words.specs.declared.Op.{Op}
use Rattle.words.specs.Operations.{is_load}
use Rattle.words.proofs.Folds.{by_cond, pick, up_to_keeps, down_to_keeps}
use Rattle.lanes.specs.UseOrder.{Insertion, Newest, LoadsOldest, place_at, carry_of, used_of, oldest_of, inserted_of}
use Rattle.machine.proofs.Laws.Sets.{same?}
use Rattle.machine.proofs.Bounds.Sound.{Ordered}

-- places k and k + 1 change over
abbrev pub swapped : ℕ → List LineNo → List LineNo
swapped k o = set (set o k (place_at o (k + 1))) (k + 1) (place_at o k)

-- where the place j was before
abbrev was : ℕ → ℕ → ℕ
was k j = cond (eqb j k) (k + 1) (cond (eqb j (k + 1)) k j)

pub first : (k : ℕ) → was k k ≡ k + 1
first k = rw (eq-eqb k k refl)

pub second : (k : ℕ) → was k (k + 1) ≡ k
second k = rw (ne_eqb (k + 1) k (λ e. omega arith), eq-eqb (k + 1) (k + 1) refl)

pub other : (k j : ℕ) → j ≢ k → j ≢ k + 1 → was k j ≡ j
other k j p q = rw (ne_eqb j k p, ne_eqb j (k + 1) q)

-- .. is one of the first c again
was_below : (c k j : ℕ) → k + 1 < c → j < c → was k j < c
was_below c k j h l = go (same? j k) (same? j (k + 1))
  where
    go : (j ≡ k) ⊎ (j ≢ k) → (j ≡ k + 1) ⊎ (j ≢ k + 1) → was k j < c
    go (inl e) r = rw (e, first k) h
    go (inr n) (inl e) = rw (e, second k) (omega arith)
    go (inr n) (inr e) = rw (other k j n e) l

was_was : (k j : ℕ) → was k (was k j) ≡ j
was_was k j = go (same? j k) (same? j (k + 1))
  where
    go : (j ≡ k) ⊎ (j ≢ k) → (j ≡ k + 1) ⊎ (j ≢ k + 1) → was k (was k j) ≡ j
    go (inl e) r = rw (e, first k, second k)
    go (inr n) (inl e) = rw (e, second k, first k)
    go (inr n) (inr e) = rw (other k j n e, other k j n e)

pub swapped_place : (o : List LineNo) (k j : ℕ) → k + 1 < length o → place_at (swapped k o) j ≡ place_at o (was k j)
swapped_place o k j h = go (same? j k) (same? j (k + 1))
  where
    go : (j ≡ k) ⊎ (j ≢ k) → (j ≡ k + 1) ⊎ (j ≢ k + 1) → place_at (swapped k o) j ≡ place_at o (was k j)
    go (inl e) r =
        let p : k < length o = omega arith in
        rw (e, first k, get_or-set_other (set o k (place_at o (k + 1))) (k + 1) k (place_at o k) (record { 0 = 0 }) (λ q. omega arith), get_or-set_same o k (place_at o (k + 1)) (record { 0 = 0 }) p)
    go (inr n) (inl e) =
        let p : k + 1 < length (set o k (place_at o (k + 1))) = rw (length-set o k (place_at o (k + 1))) h in
        rw (e, second k, get_or-set_same (set o k (place_at o (k + 1))) (k + 1) (place_at o k) (record { 0 = 0 }) p)
    go (inr n) (inr e) =
        rw (other k j n e, get_or-set_other (set o k (place_at o (k + 1))) (k + 1) j (place_at o k) (record { 0 = 0 }) e, get_or-set_other o k j (place_at o (k + 1)) (record { 0 = 0 }) n)

swap_keeps : (c k : ℕ) (o : List LineNo) → k + 1 < c → c ≤ length o → Ordered c o → Ordered c (swapped k o)
swap_keeps c k o h l g =
    record {
      named = λ j b. rw (swapped_place o k j (omega arith)) (g.named (was k j) (was_below c k j h b));
      once = λ i j a b e.
          let p = swapped_place o k i (omega arith) in
          let q = swapped_place o k j (omega arith) in
          let same = g.once (was k i) (was k j) (was_below c k i h a) (was_below c k j h b) (ap (λ (x : LineNo). x.0) (sym p) ∙ e ∙ ap (λ (x : LineNo). x.0) q) in
          sym (was_was k i) ∙ ap (was k) same ∙ was_was k j;
    }

pub swapped_length : (k : ℕ) (o : List LineNo) → length (swapped k o) ≡ length o
swapped_length k o = length-set (set o k (place_at o (k + 1))) (k + 1) (place_at o k) ∙ length-set o k (place_at o (k + 1))

carry_keeps : (c j k : ℕ) (i : LineNo) (o : List LineNo) → k + 1 < c → c ≤ length o → Ordered c o → Ordered c (carry_of i j k o)
carry_keeps c j k i o h l g = pick (Ordered c) (eqb (place_at o j).0 i.0) (swapped k o) o (λ _. swap_keeps c k o h l g) (λ _. g)

pub carry_length : (j k : ℕ) (i : LineNo) (o : List LineNo) → length (carry_of i j k o) ≡ length o
carry_length j k i o =
    pick (λ (r : List LineNo). length r ≡ length o) (eqb (place_at o j).0 i.0) (swapped k o) o (λ _. swapped_length k o) (λ _. refl)

-- what a use order keeps in every change of it: its length, and that it is one
abbrev pub Kept : ℕ → List LineNo → List LineNo → Type 0
Kept c o r = (length r ≡ length o) × (1 ≤ c → c ≤ length o → Ordered c o → Ordered c r)

carry_kept : (c j k : ℕ) (i : LineNo) (o r : List LineNo) → k < c - 1 → Kept c o r → Kept c o (carry_of i j k r)
carry_kept c j k i o r h p =
    let e = p.0 in
    (carry_length j k i r ∙ e, λ a b g. carry_keeps c j k i r (omega arith) (omega arith) (p.1 a b g))

pub used_kept : (c : ℕ) (i : LineNo) (o : List LineNo) → Kept c o (used_of c i o)
used_kept c i o = up_to_keeps (Kept c o) (λ k. carry_of i k k) (c - 1) o (λ k r h. carry_kept c k k i o r h) (refl, λ _ _ g. g)

oldest_kept : (c : ℕ) (i : LineNo) (o : List LineNo) → Kept c o (oldest_of c i o)
oldest_kept c i o = down_to_keeps (Kept c o) (λ k. carry_of i (k + 1) k) (c - 1) o (λ k r h. carry_kept c (k + 1) k i o r h) (refl, λ _ _ g. g)

pub inserted_kept : (ins : Insertion) (op : Op) (c : ℕ) (i : LineNo) (o : List LineNo) → Kept c o (inserted_of ins op c i o)
inserted_kept Newest op c i o = used_kept c i o
inserted_kept LoadsOldest op c i o = by_cond (Kept c o) (is_load op) (oldest_of c i o) (used_of c i o) (oldest_kept c i o) (used_kept c i o)
