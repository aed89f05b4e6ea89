-- `store_settle_step::lowest` meets its contract: no lane before the loop's has something for the step. Assumes nothing.
use Rattle.std.proofs.Common.{◌≡◌}
use Rattle.words.specs.Folds.{lowest_to}
use Rattle.store.specs.Stores.{lane_at}
use Rattle.store_settle_step.specs.Kinds.{enabled_of}
use Rattle.store_settle_step.proofs.lowest.Given as goal

abbrev pub invariant-loop-k : goal.invariant-loop-k
invariant-loop-k l = lowest_to (λ i. enabled_of l.x (lane_at l.s i)) l.k ≡ l.k
