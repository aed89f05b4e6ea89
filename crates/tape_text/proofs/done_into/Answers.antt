-- `tape_text::done_into` meets its contract. Assumes nothing.
use native.Mathlib.Omega.{arith}
use Rattle.machine.proofs.Lengths.{decimal_fits}
use Rattle.buffers.proofs.Writing.{wrote_then}
use Rattle.machine.specs.Machine.Text.{answer_text}
use lib.ListN.{length-append}
use Rattle.tape_text.proofs.done_into.Goals as goal

pub spaced_into-place-requires : goal.spaced_into-place-requires
spaced_into-place-requires c =
    omega (arith, decimal_fits 10 c.from.result)

pub spaced_into-requires : goal.spaced_into-requires
spaced_into-requires c =
    omega (arith, decimal_fits 10 c.from.result, decimal_fits 10 c.args.x.value)

pub returns : goal.returns
unfolding answer_text
returns c =
    let k = decimal_fits 10 c.args.x.lane.0 in
    let v = decimal_fits 10 c.args.x.value in
    let p = decimal_fits 10 c.args.x.place in
    let first = rw c.from.ensures at c.spaced_into-value.ensures in
    wrote_then _ _ _ _ c.put-lane.ensures
    (wrote_then _ _ _ _ first
    (wrote_then _ _ _ _ c.spaced_into-place.ensures c.spaced_into.ensures (omega arith))
    (simp length-append (omega arith)))
    (simp length-append (omega arith))
