-- Sums and counts over the numbers below n as those over the first n parts of a list. Assumes nothing.
use Rattle.std.proofs.Common.{◌≡◌, ◌∙◌, ap, refl, ℕ, zero, suc, ◌+◌, ◌≤◌, ◌<◌, min, Bool, true, false, cond, ◌&&◌, ltb, List, length, get_or, take, add-one, arith}
use Rattle.std.specs.List.{sum_by, count_by}
use Rattle.std.proofs.lemmas.Bool.{ltb-true, ltb-false}
use Rattle.std.proofs.lemmas.List.Sums.{sum_by_more}
use Rattle.words.specs.Folds.{count_to, sum_to}

pub sum_taken : {A : Type 0} (f : A → ℕ) (xs : List A) (d : A) (n : ℕ) → n ≤ length xs → sum_by f (take n xs) ≡ sum_to (λ k. f (get_or xs k d)) n
unfolding sum_to
sum_taken f xs d zero h = refl
sum_taken f xs d (suc n) h =
    let e = sum_taken f xs d n (omega arith) in
    let m = rw add-one at (sum_by_more f xs n d (omega arith)) in
    cc

pub count_taken : {A : Type 0} (p : A → Bool) (xs : List A) (d : A) (n : ℕ) → n ≤ length xs → count_by p (take n xs) ≡ count_to (λ k. p (get_or xs k d)) n
unfolding count_to
count_taken p xs d zero h = refl
count_taken p xs d (suc n) h =
    let e = count_taken p xs d n (omega arith) in
    let m = rw add-one at (sum_by_more (λ x. cond (p x) 1 0) xs n d (omega arith)) in
    cc

-- one place more of a queue of len messages
place : {A : Type 0} (p : A → Bool) (xs : List A) (d : A) (len n c : ℕ) (b : Bool) → n < length xs → ltb n len ≡ b → count_by p (take (min len n) xs) ≡ c
    → count_by p (take (min len (suc n)) xs) ≡ c + cond (b && p (get_or xs n d)) 1 0
place p xs d len n c true h t e =
    let lt = ltb-true n len t in
    let now : min len n ≡ n = omega arith in
    let then : min len (suc n) ≡ n + 1 = omega arith in
    rw (then, sum_by_more (λ x. cond (p x) 1 0) xs n d h) (ap (λ k. k + cond (p (get_or xs n d)) 1 0) (rw now at e))
place p xs d len n c false h t e =
    let ge = ltb-false n len t in
    let same : min len (suc n) ≡ min len n = omega arith in
    rw same (e ∙ omega arith)

-- the messages of a queue that pass a test
pub queue_taken : {A : Type 0} (p : A → Bool) (xs : List A) (d : A) (len n : ℕ) → n ≤ length xs → count_by p (take (min len n) xs) ≡ count_to (λ i. ltb i len && p (get_or xs i d)) n
unfolding count_to
queue_taken p xs d len zero h = let e : min len 0 ≡ 0 = omega arith in rw e
queue_taken p xs d len (suc n) h = place p xs d len n _ (ltb n len) (omega arith) refl (queue_taken p xs d len n (omega arith))
