-- The loops as definitions, over the places of a list: what `any`, `position` and `count` give is said by them. Assumes nothing.
use Rattle.std.proofs.Common.{◌≡◌, ℕ, zero, suc, ◌<◌, ◌≤◌, length, Bool, true, false, cond, not, ◌||◌, ◌&&◌, ltb, List, sym, refl, ap, ◌∙◌, add-one, zero-add, arith}
use lib.ListN.{get_or, take}
use Rattle.std.specs.Prelude.{Some, None}
use Rattle.std.specs.List.{list_any, list_all, filter, position_or_len, range_with_len}
use Rattle.std.proofs.lemmas.List.{take_all}
use Rattle.std.proofs.lemmas.List.Folds.{list_any_more, list_all_more}
use Rattle.std.proofs.lemmas.List.Filters.{length-filter_more}
use Rattle.std.proofs.lemmas.List.Sums.{position_or_len_is}
use Rattle.std.proofs.lemmas.List.FromFn.{length-range_with_len, get_or-range_with_len}
use Rattle.words.specs.Folds.{any_to, count_to, lowest_to}
use Rattle.words.proofs.Folds.{lowest_passes, lowest_most, lowest_least}

-- some number below n passes, or some of the first n elements
pub any_taken : {X : Type 0} (p : X → Bool) (xs : List X) (d : X) (n : ℕ) → n ≤ length xs → any_to (λ i. p (get_or xs i d)) n ≡ list_any p (take n xs)
unfolding any_to
any_taken p xs d zero h = refl
any_taken p xs d (suc n) h = rw (any_taken p xs d n (omega arith)) (sym (rw add-one at (list_any_more p xs n d (omega arith))))

-- .. of all
pub any_places : {X : Type 0} (p : X → Bool) (xs : List X) (d : X) (n : ℕ) → length xs ≡ n → any_to (λ i. p (get_or xs i d)) n ≡ list_any p xs
any_places p xs d n e = any_taken p xs d n (omega arith) ∙ ap (list_any p) (take_all n xs (omega arith))

-- how many numbers below n pass, or how many of the first n elements
pub count_taken : {X : Type 0} (p : X → Bool) (xs : List X) (d : X) (n : ℕ) → n ≤ length xs → count_to (λ i. p (get_or xs i d)) n ≡ length (filter p (take n xs))
unfolding count_to
count_taken p xs d zero h = refl
count_taken p xs d (suc n) h = rw (count_taken p xs d n (omega arith)) (sym (rw add-one at (length-filter_more p xs n d (omega arith))))

-- .. of all
pub count_places : {X : Type 0} (p : X → Bool) (xs : List X) (d : X) (n : ℕ) → length xs ≡ n → count_to (λ i. p (get_or xs i d)) n ≡ length (filter p xs)
count_places p xs d n e = count_taken p xs d n (omega arith) ∙ ap (λ ys. length (filter p ys)) (take_all n xs (omega arith))

-- none below the lowest that passes does
pub lowest_before : (p : ℕ → Bool) (n k : ℕ) → k < lowest_to p n → p k ≡ false
lowest_before p n k h = go (p k) refl
  where
    go : (b : Bool) → p k ≡ b → p k ≡ false
    go false e = e
    go true e = let m = lowest_most p n in let l = lowest_least p n k e (omega arith) in absurd (omega arith)

-- the lowest number that passes, or the first place
pub lowest_places : {X : Type 0} (p : X → Bool) (xs : List X) (d : X) → lowest_to (λ i. p (get_or xs i d)) (length xs) ≡ position_or_len p xs
lowest_places {X} p xs d = sym (position_or_len_is p xs (lowest_to test (length xs)) d (lowest_most test (length xs)) (lowest_before test (length xs)) (lowest_passes test (length xs)))
  where
    test : ℕ → Bool
    test i = p (get_or xs i d)

-- what `position` gives of n elements
pub position_places : {X : Type 0} (p : X → Bool) (xs : List X) (d : X) (n : ℕ) → length xs ≡ n →
    cond (ltb (position_or_len p xs) (length xs)) (Some (position_or_len p xs)) None ≡ cond (ltb (lowest_to (λ i. p (get_or xs i d)) n) n) (Some (lowest_to (λ i. p (get_or xs i d)) n)) None
position_places p xs d n e = rw (← e, lowest_places p xs d)

-- every number below n passes, or every one of the first n elements
pub all_taken : {X : Type 0} (p : X → Bool) (xs : List X) (d : X) (n : ℕ) → n ≤ length xs → not (any_to (λ i. not (p (get_or xs i d))) n) ≡ list_all p (take n xs)
unfolding any_to
all_taken p xs d zero h = refl
all_taken p xs d (suc n) h =
    not_or (any_to (λ i. not (p (get_or xs i d))) n) (p (get_or xs n d)) ∙
    ap (λ b. b && p (get_or xs n d)) (all_taken p xs d n (omega arith)) ∙
    sym (rw add-one at (list_all_more p xs n d (omega arith)))
  where
    not_or : (a b : Bool) → not (a || not b) ≡ (not a && b)
    not_or true b = refl
    not_or false true = refl
    not_or false false = refl

-- .. of all
pub all_places : {X : Type 0} (p : X → Bool) (xs : List X) (d : X) (n : ℕ) → length xs ≡ n → not (any_to (λ i. not (p (get_or xs i d))) n) ≡ list_all p xs
all_places p xs d n e = all_taken p xs d n (omega arith) ∙ ap (list_all p) (take_all n xs (omega arith))

-- two tests that agree below n
pub any_same : (p q : ℕ → Bool) (n : ℕ) → ((j : ℕ) → j < n → p j ≡ q j) → any_to p n ≡ any_to q n
unfolding any_to
any_same p q zero h = refl
any_same p q (suc n) h = rw (any_same p q n (λ j l. h j (omega arith)), h n (omega arith))

-- some number below n passes, or some of the range up to n
pub any_range : (p : ℕ → Bool) (n : ℕ) → any_to p n ≡ list_any p (range_with_len 0 n)
any_range p n =
    any_same p (λ i. p (get_or (range_with_len 0 n) i 0)) n (λ j l. ap p (sym (get_or-range_with_len 0 n j 0 l ∙ zero-add j))) ∙
    any_places p (range_with_len 0 n) 0 n (length-range_with_len 0 n)
