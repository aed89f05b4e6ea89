-- A walk of the set bits of a byte, the lowest first. Assumes nothing.
use Prim.Native.Nat.{ℕ, ◌+◌, ◌-◌, ◌<◌, ◌≤◌}
use native.Mathlib.Omega.{arith}
use mathlib.Core.Logic.{◌⊎◌, inl, inr}
use mathlib.Core.Path.{◌≡◌, refl, sym, ◌∙◌}
use mathlib.Core.Bool.{Bool, true, false, not, cond, ◌&&◌, ◌||◌}
use lib.Dec.{eqb, ltb, leb}
use lib.Bits.{bit_and}
use lib.Count.{count_trailing_zeros}
use borrow.Author.Tests.{eqb-true, ne_eqb, ltb-true, lt-ltb, le-ltb, leb-true, le-leb, lt-leb}
use Rattle.words.specs.Folds.{any_to, lowest_to}
use Rattle.words.proofs.Folds.{below?, any_false}
use Rattle.machine.specs.Machine.LaneBytes.{bit_of}
use Rattle.machine.proofs.Laws.LaneBytes.{each}
use Rattle.machine.proofs.Laws.Tests.{and_both, not_false, not_true}
use Rattle.store_commit.specs.Bits.{lowest_bit, without_lowest}

-- ---- the two operations
pub trailing_lowest : (x : ℕ) → x < 256 → count_trailing_zeros 8 x ≡ lowest_bit x
unfolding any_to lowest_to count_trailing_zeros lowest_bit
trailing_lowest x h = eqb-true (count_trailing_zeros 8 x) (lowest_bit x) (each (λ y. eqb (count_trailing_zeros 8 y) (lowest_bit y)) refl x h)

pub and_without : (x : ℕ) → x < 256 → bit_and x (x - 1) ≡ without_lowest x
unfolding any_to lowest_to lowest_bit without_lowest
and_without x h = eqb-true (bit_and x (x - 1)) (without_lowest x) (each (λ y. eqb (bit_and y (y - 1)) (without_lowest y)) refl x h)

-- ---- the lowest set bit of a byte that isn't 0
-- a test of every number but 0
abbrev unless_zero : ℕ → Bool → Bool
unless_zero x b = eqb x 0 || b

not_zero : (x : ℕ) (b : Bool) → 0 < x → unless_zero x b ≡ true → b ≡ true
not_zero x b h e = rw (ne_eqb x 0 (λ q. omega arith)) at e

-- two tests that agree
agree : Bool → Bool → Bool
agree a b = cond a b (not b)

agree_same : (a b : Bool) → agree a b ≡ true → a ≡ b
unfolding agree
agree_same true b e = sym e
agree_same false true e = e
agree_same false false e = refl

module _ (x : ℕ) (f : x < 256) where
  pub lowest_below : 0 < x → lowest_bit x < 8
  unfolding any_to lowest_to lowest_bit
  lowest_below h = ltb-true (lowest_bit x) 8 (not_zero x (ltb (lowest_bit x) 8) h (each (λ y. unless_zero y (ltb (lowest_bit y) 8)) refl x f))

  pub lowest_set : 0 < x → bit_of x (lowest_bit x) ≡ true
  unfolding any_to lowest_to lowest_bit
  lowest_set h = not_zero x (bit_of x (lowest_bit x)) h (each (λ y. unless_zero y (bit_of y (lowest_bit y))) refl x f)

  pub lowest_first : (i : ℕ) → i < lowest_bit x → bit_of x i ≡ false
  unfolding any_to lowest_to lowest_bit
  lowest_first i h = any_false (bit_of x) (lowest_bit x) i (not_false _ (each (λ y. not (any_to (bit_of y) (lowest_bit y))) refl x f)) h

  pub fewer : 0 < x → without_lowest x < x
  unfolding any_to lowest_to lowest_bit without_lowest
  fewer h = ltb-true (without_lowest x) x (not_zero x (ltb (without_lowest x) x) h (each (λ y. unless_zero y (ltb (without_lowest y) y)) refl x f))

  -- the other bits stay
  pub rest_bit : (i : ℕ) → i < 8 → bit_of (without_lowest x) i ≡ (ltb (lowest_bit x) i && bit_of x i)
  unfolding any_to lowest_to lowest_bit without_lowest agree
  rest_bit i h =
      agree_same _ _ (not_true _ (any_false (λ j. not (agree (bit_of (without_lowest x) j) (ltb (lowest_bit x) j && bit_of x j))) 8 i
      (not_false _ (each (λ y. not (any_to (λ j. not (agree (bit_of (without_lowest y) j) (ltb (lowest_bit y) j && bit_of y j))) 8)) refl x f)) h))

-- ---- a byte's bits at j and above, which are left when those below are done
abbrev pub Left : ℕ → ℕ → ℕ → Type 0
Left to left j = (i : ℕ) → i < 8 → bit_of left i ≡ (leb j i && bit_of to i)

pub left_all : (to : ℕ) → Left to to 0
left_all to i h = rw (le-leb 0 i (omega arith)) refl

-- .. at or above j where none is left
pub left_none : (to j : ℕ) → Left to 0 j → (i : ℕ) → j ≤ i → i < 8 → bit_of to i ≡ false
unfolding any_to
left_none to j l i h f = sym (rw (le-leb j i h) at (sym (any_false (bit_of 0) 8 i refl f) ∙ l i f))

-- the lowest of those that are left: none stands between j and it, and the others are those above it
module _ (to left j : ℕ) (l : Left to left j) (h : 0 < left) (f : left < 256) where
  set_left : (leb j (lowest_bit left) && bit_of to (lowest_bit left)) ≡ true
  set_left = sym (l (lowest_bit left) (lowest_below left f h)) ∙ lowest_set left f h

  pub next_above : j ≤ lowest_bit left
  next_above = leb-true j (lowest_bit left) (and_both _ _ set_left).0

  pub next_set : bit_of to (lowest_bit left) ≡ true
  next_set = (and_both (leb j (lowest_bit left)) _ set_left).1

  pub next_first : (i : ℕ) → j ≤ i → i < lowest_bit left → bit_of to i ≡ false
  next_first i a b =
      let z = lowest_below left f h in
      let g : i < 8 = omega arith in
      rw (le-leb j i a) at (sym (l i g) ∙ lowest_first left f i b)

  pub next_left : Left to (without_lowest left) (lowest_bit left + 1)
  next_left i g = rest_bit left f i g ∙ go (below? (lowest_bit left) i)
    where
      go : (lowest_bit left < i) ⊎ (i ≤ lowest_bit left) → (ltb (lowest_bit left) i && bit_of left i) ≡ (leb (lowest_bit left + 1) i && bit_of to i)
      go (inl q) =
          let a = next_above in
          let p : j ≤ i = omega arith in
          let u : lowest_bit left + 1 ≤ i = omega arith in
          rw (lt-ltb (lowest_bit left) i q, le-leb (lowest_bit left + 1) i u, l i g, le-leb j i p) refl
      go (inr q) = let u : i < lowest_bit left + 1 = omega arith in rw (le-ltb (lowest_bit left) i q, lt-leb (lowest_bit left + 1) i u) refl
