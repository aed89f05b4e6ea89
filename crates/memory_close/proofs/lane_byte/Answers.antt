-- `memory_close::lane_byte` meets its contract. Assumes nothing.
use Rattle.machine.proofs.Laws.LaneBytes.{only_byte}
use Rattle.memory_close.proofs.lane_byte.Goals as goal

pub returns : goal.returns
returns c = only_byte c.args.k c.requires
