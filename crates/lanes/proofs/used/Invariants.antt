-- `lanes::used` meets its contract. Assumes nothing.
use Rattle.std.proofs.Common.{◌≡◌, ◌≤◌, ◌-◌}
use Rattle.words.specs.Folds.{up_to}
use Rattle.lanes.specs.UseOrder.{carry_of}
use Rattle.lanes.proofs.used.Given as goal

abbrev pub invariant-loop-k : goal.invariant-loop-k
invariant-loop-k l = (l.k - 1 ≤ l.fn.c - 1) × (l.o ≡ up_to (λ j. carry_of l.fn.i j j) (l.k - 1) l.fn.order)
