-- Two definitions that pick by tests which agree. Assumes nothing.
use mathlib.Core.Path.{◌≡◌, refl, sym}
use mathlib.Core.Bool.{Bool, true, false, cond, true≢false}

-- what relates the two answers of each test relates those picked
pub both : {A B : Type 0} (R : A → B → Type 0) (a b : Bool) {x y : A} {u v : B} → a ≡ b →
    (a ≡ true → R x u) → (a ≡ false → R y v) → R (cond a x y) (cond b u v)
both R true true e h g = h refl
both R true false e h g = absurd (true≢false e)
both R false true e h g = absurd (true≢false (sym e))
both R false false e h g = g refl
