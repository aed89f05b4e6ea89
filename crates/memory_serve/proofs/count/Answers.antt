-- `memory_serve::count` meets its contract. Assumes nothing.
use native.Mathlib.Omega.{arith}
use Rattle.machine.proofs.Laws.LaneBytes.{ones_bits}
use Rattle.memory_serve.proofs.count.Goals as goal

pub returns : goal.returns
returns c = ones_bits c.args.x (omega arith)
