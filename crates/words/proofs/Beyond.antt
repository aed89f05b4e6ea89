-- The loops as definitions over more places than a list has, where what a read past the end gives does not pass. Assumes nothing.
use Rattle.std.proofs.Common.{◌≡◌, ℕ, zero, suc, ◌<◌, ◌≤◌, ◌⊎◌, length, Bool, true, false, ◌||◌, List, refl, arith, inl, inr}
use lib.ListN.{get_or, take, get_or-eq_default}
use Rattle.std.specs.List.{list_any, filter}
use Rattle.std.proofs.lemmas.List.{take_all}
use Rattle.words.specs.Folds.{any_to, count_to}
use Rattle.words.proofs.Folds.{below?}
use Rattle.words.proofs.Arrays.{any_taken, count_taken}

-- how many numbers below n pass, or how many of the first n elements there are
pub count_beyond : {X : Type 0} (p : X → Bool) (xs : List X) (d : X) (n : ℕ) → p d ≡ false → count_to (λ i. p (get_or xs i d)) n ≡ length (filter p (take n xs))
unfolding count_to
count_beyond p xs d zero f = refl
count_beyond {X} p xs d (suc n) f = go (below? n (length xs)) (count_beyond p xs d n f)
  where
    go : (n < length xs) ⊎ (length xs ≤ n) → count_to (λ i. p (get_or xs i d)) n ≡ length (filter p (take n xs)) →
        count_to (λ i. p (get_or xs i d)) (suc n) ≡ length (filter p (take (suc n) xs))
    go (inl l) e = count_taken p xs d (suc n) (omega arith)
    go (inr l) e =
        let past : get_or xs n d ≡ d = get_or-eq_default xs d l in
        let all : take (suc n) xs ≡ xs = take_all (suc n) xs (omega arith) in
        rw (past, f, e, take_all n xs l, all) (omega arith)

-- some number below n passes, or some of the first n elements there are
pub any_beyond : {X : Type 0} (p : X → Bool) (xs : List X) (d : X) (n : ℕ) → p d ≡ false → any_to (λ i. p (get_or xs i d)) n ≡ list_any p (take n xs)
unfolding any_to
any_beyond p xs d zero f = refl
any_beyond {X} p xs d (suc n) f = go (below? n (length xs)) (any_beyond p xs d n f)
  where
    or_none : (b : Bool) → (b || false) ≡ b
    or_none true = refl
    or_none false = refl

    go : (n < length xs) ⊎ (length xs ≤ n) → any_to (λ i. p (get_or xs i d)) n ≡ list_any p (take n xs) →
        any_to (λ i. p (get_or xs i d)) (suc n) ≡ list_any p (take (suc n) xs)
    go (inl l) e = any_taken p xs d (suc n) (omega arith)
    go (inr l) e =
        let past : get_or xs n d ≡ d = get_or-eq_default xs d l in
        let all : take (suc n) xs ≡ xs = take_all (suc n) xs (omega arith) in
        rw (past, f, e, take_all n xs l, all) (or_none (list_any p xs))
