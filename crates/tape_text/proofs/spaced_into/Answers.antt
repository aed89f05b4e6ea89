-- `tape_text::spaced_into` meets its contract. Assumes nothing.
use native.Mathlib.Omega.{arith}
use Rattle.machine.proofs.Lengths.{decimal_fits}
use Rattle.buffers.proofs.Writing.{wrote_then}
use Rattle.tape_text.proofs.spaced_into.Goals as goal

pub returns : goal.returns
returns c =
    wrote_then _ _ _ _ c.put-digits.ensures c.decimal_in.ensures (omega (arith, decimal_fits 10 c.args.n))
