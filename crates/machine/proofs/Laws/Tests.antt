-- Laws of tests and of lists of them. Assumes nothing.
use mathlib.Core.Path.{◌≡◌, refl, sym}
use mathlib.Core.Bool.{Bool, true, false, not, ◌||◌, ◌&&◌, true≢false}
use mathlib.Core.List.{List, [], ◌∷◌}
use Rattle.words.specs.Folds.{any_of}
use Rattle.words.proofs.Folds.{AllFalse}

-- a test that picks, with what it gave
pub on : {A : Type 0} (b : Bool) → (b ≡ true → A) → (b ≡ false → A) → A
on true t f = t refl
on false t f = f refl

pub and_right : (a b : Bool) → (a && b) ≡ false → a ≡ true → b ≡ false
and_right true b e h = e
and_right false b e h = absurd (true≢false (sym h))

-- both hold
pub and_both : (a b : Bool) → (a && b) ≡ true → (a ≡ true) × (b ≡ true)
and_both true b e = (refl, e)
and_both false b e = absurd (true≢false (sym e))

pub not_false : (b : Bool) → not b ≡ true → b ≡ false
not_false true e = sym e
not_false false e = refl

pub not_true : (b : Bool) → not b ≡ false → b ≡ true
not_true true e = refl
not_true false e = sym e

pub and_never : (a b : Bool) → (a ≡ true → b ≡ false) → (a && b) ≡ false
and_never true b h = h refl
and_never false b h = refl

pub or_never : (a b : Bool) → a ≡ false → b ≡ false → (a || b) ≡ false
or_never a b p q = rw (p, q)

-- no condition of a list holds
pub none_of : (l : List Bool) → AllFalse l → any_of l ≡ false
unfolding any_of
none_of [] e = refl
none_of (x ∷ []) e = e.0
none_of (x ∷ (y ∷ r)) e = or_never x (any_of (y ∷ r)) e.0 (none_of (y ∷ r) e.1)
