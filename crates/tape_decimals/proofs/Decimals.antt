-- Laws of decimal numbers. Assumes nothing.
use Prim.Native.Nat.{ℕ, zero, suc, ◌+◌, ◌-◌, ◌/◌, ◌%◌, ◌<◌, ◌≤◌}
use native.Mathlib.Omega.{arith}
use mathlib.Core.Path.{◌≡◌, refl}
use mathlib.Core.List.{[], ◌∷◌, ◌++◌}
use borrow.Author.Tests.{lt-ltb, le-ltb}
use Rattle.machine.specs.Machine.Text.{decimal_in}

-- no digits
pub decimal_none : (n : ℕ) → decimal_in 0 n ≡ []
unfolding decimal_in
decimal_none n = refl

-- one digit
pub decimal_one : (more n : ℕ) → 0 < more → n < 10 → decimal_in more n ≡ (48 + n) ∷ []
unfolding decimal_in
decimal_one zero n h l = absurd (omega arith)
decimal_one (suc more) n h l = rw (lt-ltb n 10 l)

-- its last digit, behind those before it
pub decimal_more : (more n : ℕ) → 0 < more → 10 ≤ n → decimal_in more n ≡ decimal_in (more - 1) (n / 10) ++ ((48 + n % 10) ∷ [])
unfolding decimal_in
decimal_more zero n h l = absurd (omega arith)
decimal_more (suc more) n h l = let e : suc more - 1 ≡ more = omega arith in rw (e, le-ltb n 10 l)
