-- `tape_replay::print` meets its contract: too little room is refused, a tape too long is told; else its records are printed. Assumes nothing.
use Rattle.std.proofs.Common.{refl, ap, ◌∙◌}
use native.Mathlib.Nat.{zero-add}
use Rattle.tape_replay.proofs.Prints.{print_short, print_fits, printed_long}
use Rattle.tape_replay.proofs.print.Goals as goal
use Rattle.std.specs.Prelude.{Ok}

pub returns-then-out-lt-TEXT_MOST : goal.returns-then-out-lt-TEXT_MOST
returns-then-out-lt-TEXT_MOST c = rw (print_short c.args.tape.now c.args.out.now c.if-out-lt-TEXT_MOST.true) (refl, refl)

pub returns-then-tape-gt-TAPE_MOST : goal.returns-then-tape-gt-TAPE_MOST
returns-then-tape-gt-TAPE_MOST c =
    rw (print_fits c.args.tape.now c.args.out.now c.if-out-lt-TEXT_MOST.false, printed_long c.args.tape.now c.args.out.now c.if-tape-gt-TAPE_MOST.true)
    (ap Ok (c.too_long_into.ensures.0 ∙ zero-add _), c.too_long_into.ensures.1)

pub returns : goal.returns
returns c = rw (print_fits c.args.tape.now c.args.out.now c.if-out-lt-TEXT_MOST.false) (rw c.print_records.ensures.0, c.print_records.ensures.1)
