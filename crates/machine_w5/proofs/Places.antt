-- What today's definitions are on two places is what was written before W6: the shift of a queue's array, and the check of its messages. Assumes nothing.
use Prim.Native.Nat.{ℕ}
use native.Mathlib.Omega.{arith}
use mathlib.Core.Path.{◌≡◌, refl}
use mathlib.Core.Bool.{◌||◌}
use mathlib.Core.List.{List, [], ◌∷◌}
use lib.Dec.{ltb}
use lib.ListN.{length, get_or, set}
use Rattle.words.specs.Folds.{any_to}
use Rattle.queues.specs.Queues.{ReturnQueue}
use Rattle.queues.specs.Queues.{DownQueue}
use Rattle.queues.specs.Queues.{shifted, no_return, no_down}
use Rattle.machine.specs.Machine.Corruption.{bad_place, bad_returns, bad_downs}
use Rattle.machine_w5.specs.Stores.{capacity}

-- place 0 gets what place 1 has, and place 1 keeps it
pub shift_two : {A : Type 0} (none : A) (at : List A) → length at ≡ capacity → shifted at ≡ set at 0 (get_or at 1 none)
shift_two none [] e = absurd (omega (arith, e))
shift_two none (x ∷ []) e = absurd (omega (arith, e))
shift_two none (x ∷ y ∷ []) e = refl
shift_two none (x ∷ y ∷ z ∷ rest) e = absurd (omega (arith, e))

-- a queue length above 2, or a block number out of range in a queued message
pub returns_two : (m : ℕ) (q : ReturnQueue) →
    bad_returns capacity m q ≡
    (ltb capacity q.len || (bad_place m q.len 0 (get_or q.at 0 no_return).block || bad_place m q.len 1 (get_or q.at 1 no_return).block))
unfolding any_to
returns_two m q = refl

pub downs_two : (m : ℕ) (q : DownQueue) →
    bad_downs capacity m q ≡
    (ltb capacity q.len || (bad_place m q.len 0 (get_or q.at 0 no_down).block || bad_place m q.len 1 (get_or q.at 1 no_down).block))
unfolding any_to
downs_two m q = refl
