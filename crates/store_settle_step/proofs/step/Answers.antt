-- `store_settle_step::step` meets its contract: the lowest lane that can deliver, then return, then be served; none is unexpected. Assumes nothing.
use Rattle.machine.proofs.Bounds.Sound.{sound}
use Rattle.store_settle_step.proofs.step.Goals as goal

pub lowest-requires : goal.lowest-requires
lowest-requires c = (sound _ c.requires).n_high

pub lowest-requires-2 : goal.lowest-requires-2
lowest-requires-2 c = (sound _ c.requires).n_high

pub lowest-requires-3 : goal.lowest-requires-3
lowest-requires-3 c = (sound _ c.requires).n_high
