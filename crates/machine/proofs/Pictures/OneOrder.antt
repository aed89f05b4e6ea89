-- No free order is left: the valid lines of a store have one sorted list, and so one list of records. Assumes nothing.
use Prim.Native.Nat.{ℕ, ◌<◌}
use native.Mathlib.Omega.{arith}
use mathlib.Core.Logic.{◌⊎◌, inl, inr}
use mathlib.Core.Bool.{Bool, true, false}
use mathlib.Core.Path.{◌≡◌, refl, sym, ◌∙◌}
use mathlib.Core.List.Memᴰ
use mathlib.Core.List.{List, [], ◌∷◌, Memᴰ}
use lib.Dec.{eqb}
use borrow.Author.Tests.{eqb-true}
use Rattle.store.specs.declared.Store.{Store}
use Rattle.machine.specs.Claims.PictureOrder.{Copy, Before, Sorted, times_in, InOrder, OneOrder}
use Rattle.machine.proofs.Bounds.KeepsLane.{clash}

-- no copy comes before another and after it
before_not : (x y : Copy) → Before x y → Before y x → ⊥
before_not x y (inl p) (inl q) = omega arith
before_not x y (inl p) (inr q) = let e = q.0 in omega arith
before_not x y (inr p) (inl q) = let e = p.0 in omega arith
before_not x y (inr p) (inr q) = go p.1 q.1
  where
    go : (x.lane < y.lane) ⊎ ((x.lane ≡ y.lane) × (x.line < y.line)) → (y.lane < x.lane) ⊎ ((y.lane ≡ x.lane) × (y.line < x.line)) → ⊥
    go (inl a) (inl b) = omega arith
    go (inl a) (inr b) = let e = b.0 in omega arith
    go (inr a) (inl b) = let e = a.0 in omega arith
    go (inr a) (inr b) = let d = a.1 in let e = b.1 in omega arith

-- two sorted lists of the same copies have the same first one
first_same : (x y : Copy) (xs ys : List Copy) → Sorted (x ∷ xs) → Sorted (y ∷ ys) → Memᴰ x (y ∷ ys) → Memᴰ y (x ∷ xs) → x ≡ y
first_same x y xs ys a b m n = go (Memᴰ.cases_cons m) (Memᴰ.cases_cons n)
  where
    go : (x ≡ y) ⊎ Memᴰ x ys → (y ≡ x) ⊎ Memᴰ y xs → x ≡ y
    go (inl e) _ = e
    go (inr p) (inl e) = sym e
    go (inr p) (inr q) = absurd (before_not y x (b.0 x p) (a.0 y q))

-- .. and the same copies behind it
rest_has : (x y z : Copy) (xs ys : List Copy) → x ≡ y → Sorted (x ∷ xs) → Memᴰ z xs → Memᴰ z (y ∷ ys) → Memᴰ z ys
rest_has x y z xs ys e a m n = go (Memᴰ.cases_cons n)
  where
    go : (z ≡ y) ⊎ Memᴰ z ys → Memᴰ z ys
    go (inl q) = let h = a.0 z m in let r : z ≡ x = q ∙ sym e in absurd (before_not x z h (rw r (rw r at h)))
    go (inr p) = p

-- .. so they are one list
sorted_same : (xs ys : List Copy) → Sorted xs → Sorted ys → ((z : Copy) → Memᴰ z xs → Memᴰ z ys) → ((z : Copy) → Memᴰ z ys → Memᴰ z xs) →
    xs ≡ ys
sorted_same [] [] a b f g = refl
sorted_same [] (y ∷ ys) a b f g = absurd (Memᴰ.not-nil (g y (Memᴰ.head refl)))
sorted_same (x ∷ xs) [] a b f g = absurd (Memᴰ.not-nil (f x (Memᴰ.head refl)))
sorted_same (x ∷ xs) (y ∷ ys) a b f g =
    let e = first_same x y xs ys a b (f x (Memᴰ.head refl)) (g y (Memᴰ.head refl)) in
    let r = sorted_same xs ys a.1 b.1
    (λ z m. rest_has x y z xs ys e a m (f z (Memᴰ.tail m)))
    (λ z m. rest_has y x z ys xs (sym e) b m (g z (Memᴰ.tail m))) in
    λ i. e i ∷ r i

-- a line that stands in a list once stands in it
record Stands (k i : ℕ) (xs : List Copy) : Type 0 where
  copy : Copy
  found : Memᴰ copy xs
  lane : copy.lane ≡ k
  line : copy.line ≡ i

once_stands : (k i : ℕ) (xs : List Copy) → times_in k i xs ≡ 1 → Stands k i xs
unfolding times_in
once_stands k i [] e = clash e
once_stands k i (x ∷ xs) e = go (eqb x.lane k) refl (eqb x.line i) refl (λ h. once_stands k i xs h)
  where
    later : Stands k i xs → Stands k i (x ∷ xs)
    later h = record { copy = h.copy; found = Memᴰ.tail h.found; lane = h.lane; line = h.line }

    go : (b : Bool) → eqb x.lane k ≡ b → (d : Bool) → eqb x.line i ≡ d → (times_in k i xs ≡ 1 → Stands k i xs) → Stands k i (x ∷ xs)
    go true p true q _ = record { copy = x; found = Memᴰ.head refl; lane = eqb-true _ _ p; line = eqb-true _ _ q }
    go true p false q r = let h = rw (p, q) at e in later (r (omega arith))
    go false p d q r = let h = rw p at e in later (r (omega arith))

-- a copy of one list stands in the other too
other_has : (s : Store) (p q : List ℕ) (a : InOrder s p) (b : InOrder s q) (x : Copy) → Memᴰ x a.copies → Memᴰ x b.copies
other_has s p q a b x m =
    let v = a.only x m in
    let t = once_stands x.lane x.line b.copies (b.each x.lane x.line v.lane v.line v.valid) in
    let w = b.only t.copy t.found in
    let e : t.copy.block ≡ x.block = sym w.block ∙ (rw (t.lane, t.line) v.block) in
    let c : t.copy ≡ x = λ i. record { block = e i; lane = t.lane i; line = t.line i } in
    Memᴰ.cast (sym c) t.found

pub one_order : OneOrder
one_order s p q a b =
    let e = sorted_same a.copies b.copies a.sorted b.sorted (other_has s p q a b) (other_has s q p b a) in
    a.records ∙ (rw e (sym b.records))
