-- `store_picture::valid_lines` meets its contract. Assumes nothing.
use mathlib.Core.Path.{◌≡◌}
use Rattle.words.specs.Folds.{sum_to}
use Rattle.store_picture.specs.Records.{valid_at}
use Rattle.store_picture.proofs.valid_lines.Given as goal

abbrev pub invariant-loop-lane : goal.invariant-loop-lane
invariant-loop-lane l = l.count ≡ sum_to (valid_at l.fn.s) l.lane-index
