-- Sums over the numbers below n, and counts as sums. Assumes nothing.
use Prim.Native.Nat.{ℕ, zero, suc, ◌+◌, ◌*◌, ◌<◌, ◌≤◌}
use mathlib.Core.Logic.{◌⊎◌, inl, inr, ◌≢◌}
use mathlib.Core.Path.{◌≡◌, refl, sym, ap, ◌∙◌}
use mathlib.Core.Bool.{Bool, true, false, cond, ◌&&◌}
use mathlib.Core.List.{List}
use lib.Dec.{eqb}
use lib.ListN.{length, get_or, set}
use lib.Seq.{get_or-set_same, get_or-set_other}
use borrow.Author.Tests.{eq-eqb}
use native.Mathlib.Omega.{arith}
use native.Mathlib.Nat.{add-zero, mul-add, mul-zero, mul-one, mul-suc}
use Rattle.words.specs.Folds.{count_to, sum_to}
use Rattle.words.proofs.Folds.{count_none}
use Rattle.store.proofs.Services.{never}
use Rattle.machine.proofs.Laws.Sets.{same?}
use Rattle.machine.proofs.Laws.Counts.{count_past}

-- one term more of a product with a count
count_times : (u c : ℕ) (b : Bool) → u * (c + cond b 1 0) ≡ u * c + cond b u 0
count_times u c true = mul-add u c 1 ∙ ap (λ (x : ℕ). u * c + x) (mul-one u)
count_times u c false = ap (λ (x : ℕ). u * x) (add-zero c) ∙ sym (add-zero (u * c))

pub sum_same : (f g : ℕ → ℕ) (n : ℕ) → ((j : ℕ) → j < n → g j ≡ f j) → sum_to g n ≡ sum_to f n
unfolding sum_to
sum_same f g zero e = refl
sum_same f g (suc n) e = let a = e n (omega arith) in let b = sum_same f g n (λ j l. e j (omega arith)) in omega arith

-- one term changes
pub sum_change : (f g : ℕ → ℕ) (n k : ℕ) → k < n → ((j : ℕ) → j ≢ k → g j ≡ f j) → sum_to g n + f k ≡ sum_to f n + g k
unfolding sum_to
sum_change f g zero k l e = absurd (omega arith)
sum_change f g (suc n) k l e = go (same? k n) (λ m. sum_change f g n k m e)
  where
    go : (k ≡ n) ⊎ (k ≢ n) → (k < n → sum_to g n + f k ≡ sum_to f n + g k) → sum_to g n + g n + f k ≡ sum_to f n + f n + g k
    go (inl q) r = let d = sum_same f g n (λ j m. e j (λ y. omega arith)) in rw q (omega arith)
    go (inr q) r = let d = r (omega (arith, q)) in let z = e n (λ y. q (sym y)) in omega arith

-- .. of a list in which one element is replaced
pub set_sum : {A : Type 0} (w : A → ℕ) (xs : List A) (none : A) (k n : ℕ) (x : A) → k < n → k < length xs →
    sum_to (λ j. w (get_or (set xs k x) j none)) n + w (get_or xs k none) ≡ sum_to (λ j. w (get_or xs j none)) n + w x
set_sum w xs none k n x h g =
    let a = sum_change (λ j. w (get_or xs j none)) (λ j. w (get_or (set xs k x) j none)) n k h (λ j m. ap w (get_or-set_other xs k j x none m)) in
    let b = ap w (get_or-set_same xs k x none g) in
    omega arith

-- a term is at most the sum
pub sum_part : (g : ℕ → ℕ) (n k : ℕ) → k < n → g k ≤ sum_to g n
unfolding sum_to
sum_part g zero k l = absurd (omega arith)
sum_part g (suc n) k l = go (same? k n) (λ m. sum_part g n k m)
  where
    go : (k ≡ n) ⊎ (k ≢ n) → (k < n → g k ≤ sum_to g n) → g k ≤ sum_to g n + g n
    go (inl q) r = rw q (omega arith)
    go (inr q) r = let z = r (omega (arith, q)) in omega arith

-- a sum of 0 has no other terms
pub sum_zero : (g : ℕ → ℕ) (n : ℕ) → sum_to g n ≡ 0 → (k : ℕ) → k < n → g k ≡ 0
unfolding sum_to
sum_zero g zero z k l = absurd (omega arith)
sum_zero g (suc n) z k l = go (same? k n) (λ m y. sum_zero g n y k m)
  where
    go : (k ≡ n) ⊎ (k ≢ n) → (k < n → sum_to g n ≡ 0 → g k ≡ 0) → g k ≡ 0
    go (inl q) r = rw q (omega arith)
    go (inr u) r = r (omega arith) (omega arith)

-- terms of 0 sum to 0
pub zero_sum : (g : ℕ → ℕ) (n : ℕ) → ((j : ℕ) → j < n → g j ≡ 0) → sum_to g n ≡ 0
unfolding sum_to
zero_sum g zero e = refl
zero_sum g (suc n) e = let a = e n (omega arith) in let b = zero_sum g n (λ j l. e j (omega arith)) in omega arith

-- the terms that pass a test grow by u each
pub sum_grown : (f g : ℕ → ℕ) (p : ℕ → Bool) (u n : ℕ) → ((j : ℕ) → j < n → g j ≡ f j + cond (p j) u 0) → sum_to g n ≡ sum_to f n + u * count_to p n
unfolding sum_to count_to
sum_grown f g p u zero e = omega arith
sum_grown f g p u (suc n) e =
    let a = e n (omega arith) in
    let b = sum_grown f g p u n (λ j l. e j (omega arith)) in
    let c = count_times u (count_to p n) (p n) in
    omega arith

-- a sum of sums, and sums over two numbers in either order
sum_plus : (f g : ℕ → ℕ) (n : ℕ) → sum_to (λ j. f j + g j) n ≡ sum_to f n + sum_to g n
unfolding sum_to
sum_plus f g zero = refl
sum_plus f g (suc n) = let a = sum_plus f g n in omega arith

pub sum_swap : (f : ℕ → ℕ → ℕ) (m n : ℕ) → sum_to (λ a. sum_to (f a) n) m ≡ sum_to (λ k. sum_to (λ a. f a k) m) n
unfolding sum_to
sum_swap f zero n = sym (zero_sum (λ _. 0) n (λ _ _. refl))
sum_swap f (suc m) n = let a = sum_swap f m n in let b = sum_plus (λ k. sum_to (λ a. f a k) m) (f m) n in omega arith

-- a factor of all terms
pub sum_times : (u : ℕ) (f : ℕ → ℕ) (n : ℕ) → sum_to (λ j. u * f j) n ≡ u * sum_to f n
unfolding sum_to
sum_times u f zero = sym (mul-zero u)
sum_times u f (suc n) = let a = sum_times u f n in let b = mul-add u (sum_to f n) (f n) in omega arith

-- all terms but one are 0
pub sum_only : (g : ℕ → ℕ) (n k : ℕ) → k < n → ((j : ℕ) → j ≢ k → g j ≡ 0) → sum_to g n ≡ g k
sum_only g n k h e = let a = sum_change (λ _. 0) g n k h e in let z = zero_sum (λ _. 0) n (λ _ _. refl) in omega arith

-- a count is a sum
pub count_sum : (p : ℕ → Bool) (n : ℕ) → count_to p n ≡ sum_to (λ k. cond (p k) 1 0) n
unfolding sum_to count_to
count_sum p zero = refl
count_sum p (suc n) = let a = count_sum p n in omega arith

-- each term is at most b
pub sum_most : (f : ℕ → ℕ) (b n : ℕ) → ((j : ℕ) → j < n → f j ≤ b) → sum_to f n ≤ b * n
unfolding sum_to
sum_most f b zero e = omega arith
sum_most f b (suc n) e = let a = e n (omega arith) in let c = sum_most f b n (λ j l. e j (omega arith)) in let d = mul-suc b n in omega arith

-- none passes the test
pub count_zero : (p : ℕ → Bool) (n : ℕ) → ((j : ℕ) → j < n → p j ≡ false) → count_to p n ≡ 0
count_zero p n e = count_past p 0 n (omega arith) (λ j _ l. e j l) ∙ count_none p

-- k alone passes the test
pub count_one : (p : ℕ → Bool) (n k : ℕ) → k < n → p k ≡ true → ((j : ℕ) → j < n → j ≢ k → p j ≡ false) → count_to p n ≡ 1
unfolding count_to
count_one p zero k h t e = absurd (omega arith)
count_one p (suc n) k h t e = go (same? k n) (λ l. count_one p n k l t (λ j m. e j (omega arith)))
  where
    go : (k ≡ n) ⊎ (k ≢ n) → (k < n → count_to p n ≡ 1) → count_to p n + cond (p n) 1 0 ≡ 1
    go (inl q) r = let z = count_zero p n (λ j l. e j (omega arith) (λ y. omega arith)) in rw (rw q at t) (omega arith)
    go (inr q) r = let z = r (omega (arith, q)) in rw (e n (omega arith) (λ y. q (sym y))) (omega arith)

-- sums with factors, and a count, as one sum
pub sum_weights : (f g h : ℕ → ℕ) (p : ℕ → Bool) (u n : ℕ) →
    sum_to f n + sum_to g n + 2 * sum_to h n + u * count_to p n ≡ sum_to (λ k. f k + (g k + 2 * h k) + cond (p k) u 0) n
unfolding sum_to count_to
sum_weights f g h p u zero = let z = mul-zero u in omega arith
sum_weights f g h p u (suc n) = let a = sum_weights f g h p u n in let c = count_times u (count_to p n) (p n) in omega arith

-- no term of a sum is more than one of another
pub sum_up : (f g : ℕ → ℕ) (n : ℕ) → ((j : ℕ) → j < n → f j ≤ g j) → sum_to f n ≤ sum_to g n
unfolding sum_to
sum_up f g zero e = omega arith
sum_up f g (suc n) e = let a = sum_up f g n (λ j l. e j (omega arith)) in let b = e n (omega arith) in omega arith

-- .. and one is Less
pub sum_less : (f g : ℕ → ℕ) (n k : ℕ) → k < n → ((j : ℕ) → f j ≤ g j) → f k + 1 ≤ g k → sum_to f n + 1 ≤ sum_to g n
unfolding sum_to
sum_less f g zero k l h e = absurd (omega arith)
sum_less f g (suc n) k l h e = go (same? k n) (λ m. sum_less f g n k m h e)
  where
    go : (k ≡ n) ⊎ (k ≢ n) → (k < n → sum_to f n + 1 ≤ sum_to g n) → sum_to f n + f n + 1 ≤ sum_to g n + g n
    go (inl q) r = let a = sum_up f g n (λ j _. h j) in let b : f n + 1 ≤ g n = rw (← q) e in omega arith
    go (inr q) r = let a = r (omega (arith, q)) in let b = h n in omega arith

-- no term of two sums together is more than one of a third
pub sums_up : (f g h : ℕ → ℕ) (n : ℕ) → ((j : ℕ) → j < n → f j + g j ≤ h j) → sum_to f n + sum_to g n ≤ sum_to h n
sums_up f g h n e = let a = sum_plus f g n in let b = sum_up (λ j. f j + g j) h n e in omega arith

-- those that pass a test, by a number that each has
pub count_by : (p : ℕ → Bool) (f : ℕ → ℕ) (m n : ℕ) → ((i : ℕ) → i < n → p i ≡ true → f i < m) → count_to p n ≤ sum_to (λ j. count_to (λ i. p i && eqb (f i) j) n) m
unfolding count_to
count_by p f m zero h = omega arith
count_by p f m (suc n) h = go (p n) refl (count_by p f m n (λ i l. h i (omega arith)))
  where
    more : (j : ℕ) → count_to (λ i. p i && eqb (f i) j) n ≤ count_to (λ i. p i && eqb (f i) j) n + cond (p n && eqb (f n) j) 1 0
    more j = omega arith

    go : (b : Bool) → p n ≡ b → count_to p n ≤ sum_to (λ j. count_to (λ i. p i && eqb (f i) j) n) m →
        count_to p n + cond (p n) 1 0 ≤ sum_to (λ j. count_to (λ i. p i && eqb (f i) j) n + cond (p n && eqb (f n) j) 1 0) m
    go false e r = let a = sum_up (λ j. count_to (λ i. p i && eqb (f i) j) n) (λ j. count_to (λ i. p i && eqb (f i) j) n + cond (p n && eqb (f n) j) 1 0) m (λ j _. more j) in
        let z : ◌≡◌ {A = ℕ} (cond (p n) 1 0) 0 = rw e in omega arith
    go true e r =
        let here : ◌≡◌ {A = ℕ} (cond (p n && eqb (f n) (f n)) 1 0) 1 = rw (e, eq-eqb (f n) (f n) refl) in
        let a = sum_less (λ j. count_to (λ i. p i && eqb (f i) j) n) (λ j. count_to (λ i. p i && eqb (f i) j) n + cond (p n && eqb (f n) j) 1 0) m (f n) (h n (omega arith) e) more (omega arith) in
        let z : ◌≡◌ {A = ℕ} (cond (p n) 1 0) 1 = rw e in
        omega arith

-- at most one passes
pub count_unique : (p : ℕ → Bool) (n : ℕ) → ((i j : ℕ) → i < n → j < n → p i ≡ true → p j ≡ true → i ≡ j) → count_to p n ≤ 1
unfolding count_to
count_unique p zero h = omega arith
count_unique p (suc n) h = go (p n) refl (count_unique p n (λ i j l m. h i j (omega arith) (omega arith)))
  where
    go : (b : Bool) → p n ≡ b → count_to p n ≤ 1 → count_to p n + cond (p n) 1 0 ≤ 1
    go false e r = rw e (omega arith)
    go true e r =
        let z = count_zero p n (λ j l. never (p j) (λ q. let y = h j n (omega arith) (omega arith) q e in absurd (omega arith))) in
        rw e (omega arith)
