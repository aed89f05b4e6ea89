-- `tape_text::refused_into` meets its contract: the word, then the number. Assumes nothing.
use native.Mathlib.Omega.{arith}
use Rattle.machine.proofs.Lengths.{decimal_fits}
use Rattle.buffers.proofs.Writing.{wrote_then}
use Rattle.answers.specs.Refusals.{number_of}
use Rattle.tape_text.proofs.refused_into.Goals as goal

pub returns : goal.returns
returns c =
    let n = decimal_fits 10 (number_of c.args.x) in
    wrote_then _ _ _ _ c.put-number.ensures (rw (c.from.ensures, c.number.ensures) at c.spaced_into.ensures) (omega arith)
