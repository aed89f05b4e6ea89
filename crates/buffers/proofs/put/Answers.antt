-- `buffers::put` meets its contract. Assumes nothing.
use Rattle.std.proofs.Common.{refl}
use Rattle.buffers.proofs.Writing.{written_part}
use Rattle.buffers.proofs.put.Goals as goal

pub returns : goal.returns
returns c = (refl, written_part _ _ _ c.copy_from_slice.ensures.after)
