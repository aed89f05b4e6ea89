-- `tape_text::too_long_into` meets its contract. Assumes nothing.
use native.Mathlib.Omega.{arith}
use Rattle.machine.proofs.Lengths.{decimal_fits}
use Rattle.buffers.proofs.Writing.{wrote_then}
use Rattle.tape_text.proofs.too_long_into.Goals as goal

pub put-requires : goal.put-requires
put-requires c = omega (arith, decimal_fits 10 13)

pub returns : goal.returns
returns c =
    wrote_then _ _ _ _ c.refused_into-after.ensures c.put.ensures (omega (arith, decimal_fits 10 13))
