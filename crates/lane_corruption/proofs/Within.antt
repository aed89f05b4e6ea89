-- A test of the places of a queue that are in use. Assumes nothing.
use Rattle.std.proofs.Common.{◌≡◌, ℕ, zero, suc, ◌<◌, ◌≤◌, ◌⊎◌, inl, inr, Bool, true, false, ◌||◌, ◌&&◌, ltb, refl, ap, ◌∙◌, arith}
use borrow.Author.Tests.{lt-ltb, le-ltb}
use Rattle.words.specs.Folds.{any_to}
use Rattle.words.proofs.Folds.{below?}
use Rattle.words.proofs.Arrays.{any_same}

-- of n places those below len are looked at
pub any_within : (p : ℕ → Bool) (len n : ℕ) → len ≤ n → any_to (λ i. ltb i len && p i) n ≡ any_to p len
unfolding any_to
any_within p len zero h = let e : len ≡ 0 = omega arith in rw e refl
any_within p len (suc n) h = go (below? n len) (any_within p len n)
  where
    or_none : (b : Bool) → (b || false) ≡ b
    or_none true = refl
    or_none false = refl

    go : (n < len) ⊎ (len ≤ n) → (len ≤ n → any_to (λ i. ltb i len && p i) n ≡ any_to p len) → any_to (λ i. ltb i len && p i) (suc n) ≡ any_to p len
    go (inl l) before = let e : suc n ≡ len = omega arith in any_same (λ i. ltb i len && p i) p (suc n) (λ j m. rw (lt-ltb j len (omega arith)) refl) ∙ ap (any_to p) e
    go (inr l) before = rw (le-ltb n len l, before l) (or_none (any_to p len))
