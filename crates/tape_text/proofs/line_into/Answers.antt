-- `tape_text::line_into` meets its contract. Assumes nothing.
use native.Mathlib.Omega.{arith}
use Rattle.machine.proofs.Lengths.{decimal_fits, answer_fits}
use Rattle.buffers.proofs.Writing.{wrote_then}
use Rattle.machine.specs.Machine.Text.{line_text}
use lib.ListN.{length-append}
use Rattle.tape_text.proofs.line_into.Goals as goal

pub put-answer-requires : goal.put-answer-requires
put-answer-requires c =
    omega (arith, decimal_fits 10 c.args.index)

pub answer_into-newline-requires : goal.answer_into-newline-requires
answer_into-newline-requires c =
    omega (arith, decimal_fits 10 c.args.index)

pub put-requires : goal.put-requires
put-requires c =
    omega (arith, decimal_fits 10 c.args.index, answer_fits c.args.a)

pub returns : goal.returns
unfolding line_text
returns c =
    let i = decimal_fits 10 c.args.index in
    let t = answer_fits c.args.a in
    wrote_then _ _ _ _ c.decimal_in-space.ensures
    (wrote_then _ _ _ _ c.put-answer.ensures
    (wrote_then _ _ _ _ c.answer_into-newline.ensures c.put.ensures (omega arith))
    (simp length-append (omega arith)))
    (simp length-append (omega arith))
