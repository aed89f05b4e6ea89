-- `lanes::made_oldest` meets its contract. Assumes nothing.
use Rattle.std.proofs.Common.{◌≡◌, ◌≤◌, ◌+◌, ◌-◌}
use Rattle.words.specs.Folds.{down_to}
use Rattle.lanes.specs.UseOrder.{carry_of}
use Rattle.lanes.proofs.made_oldest.Given as goal

-- what is left to do below place k gives the answer
abbrev pub invariant-loop-k : goal.invariant-loop-k
invariant-loop-k l = (l.k ≤ l.fn.c) × (down_to (λ k. carry_of l.fn.i (k + 1) k) (l.k - 1) l.o ≡ down_to (λ k. carry_of l.fn.i (k + 1) k) (l.fn.c - 1) l.fn.order)
