-- `tape_text::end_into` meets its contract. Assumes nothing.
use native.Mathlib.Omega.{arith}
use Rattle.machine.proofs.Lengths.{decimal_fits}
use Rattle.buffers.proofs.Writing.{wrote_then}
use Rattle.machine.specs.Machine.Text.{end_text}
use lib.ListN.{length-append}
use Rattle.tape_text.proofs.end_into.Goals as goal

pub put-requires : goal.put-requires
put-requires c =
    omega (arith, decimal_fits 10 c.args.count)

pub returns : goal.returns
unfolding end_text
returns c =
    let n = decimal_fits 10 c.args.count in
    wrote_then _ _ _ _ c.put-number.ensures
    (wrote_then _ _ _ _ c.spaced_into-stop.ensures c.put.ensures (omega arith))
    (simp length-append (omega arith))
