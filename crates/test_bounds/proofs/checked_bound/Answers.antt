-- `test_bounds::checked_bound` meets its contract. Assumes nothing.
use mathlib.Core.Path.{sym, ◌∙◌}
use Rattle.machine.proofs.Bounds.Sound.{sound}
use Rattle.test_bounds.proofs.checked_bound.Goals as goal

pub bound-requires : goal.bound-requires
bound-requires c = (sound _ (sym c.corrupt.ensures ∙ c.if-corrupt.false)).n_high
