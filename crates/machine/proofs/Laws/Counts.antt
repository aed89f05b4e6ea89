-- Counts over the numbers below n. Assumes nothing.
use Prim.Native.Nat.{ℕ, zero, suc, ◌+◌, ◌<◌, ◌≤◌}
use mathlib.Core.Logic.{◌⊎◌, inl, inr}
use mathlib.Core.Path.{◌≡◌, refl, ◌∙◌}
use mathlib.Core.Bool.{Bool, true, false, cond}
use native.Mathlib.Omega.{arith}
use native.Mathlib.Nat.{eq-or-lt_of_le}
use Rattle.words.specs.Folds.{count_to}
use Rattle.words.proofs.Folds.{count_most}

-- what one test adds to a count
pub step_most : (b : Bool) → cond b 1 0 ≤ 1
step_most true = omega arith
step_most false = omega arith

-- one of them fails the test, so fewer than n pass
pub count_less : (p : ℕ → Bool) (n k : ℕ) → k < n → p k ≡ false → count_to p n < n
unfolding count_to
count_less p zero k h e = absurd (omega arith)
count_less p (suc n) k h e = let l : k ≤ n = omega arith in go (eq-or-lt_of_le l) (λ q. count_less p n k q e)
  where
    go : (k ≡ n) ⊎ (k < n) → (k < n → count_to p n < n) → count_to p n + cond (p n) 1 0 < suc n
    go (inl q) r = let f : p n ≡ false = rw q at e in let z = count_most p n in rw f (omega arith)
    go (inr q) r = let i = r q in let z = step_most (p n) in omega arith

count_suc : (p : ℕ → Bool) (t : ℕ) → count_to p (suc t) ≡ count_to p t + cond (p t) 1 0
unfolding count_to
count_suc p t = refl

-- those from n on fail the test, so they count for nothing
pub count_past : (p : ℕ → Bool) (n t : ℕ) → n ≤ t → ((j : ℕ) → n ≤ j → j < t → p j ≡ false) → count_to p t ≡ count_to p n
count_past p n zero h f = let e : n ≡ 0 = omega arith in rw e
count_past p n (suc t) h f = go (eq-or-lt_of_le h) (λ q. count_past p n t q (λ j a b. f j a (omega arith)))
  where
    go : (n ≡ suc t) ⊎ (n < suc t) → (n ≤ t → count_to p t ≡ count_to p n) → count_to p (suc t) ≡ count_to p n
    go (inl q) r = rw q
    go (inr q) r = let i = r (omega arith) in let z = f t (omega arith) (omega arith) in count_suc p t ∙ rw z (omega arith)
