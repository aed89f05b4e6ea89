-- `memory_serve::flags_byte` meets its contract. Assumes nothing.
use Rattle.memory_serve.proofs.Bytes.{joined_byte}
use Rattle.memory_serve.proofs.flags_byte.Goals as goal

pub returns : goal.returns
returns c = joined_byte c.args.p c.well_formed.0.1.0.1
