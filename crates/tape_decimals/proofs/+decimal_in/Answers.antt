-- `tape_decimals::decimal_in` meets its contract: nothing where no room is left, a digit, or the digits of a tenth and then the last one. Assumes nothing.
use Rattle.std.proofs.Common.{◌<◌, ◌-◌, ◌/◌, arith}
use Rattle.machine.proofs.Lengths.{decimal_fits}
use Rattle.buffers.proofs.Writing.{written_none, wrote_then}
use Rattle.tape_decimals.proofs.Decimals.{decimal_none, decimal_one, decimal_more}
use Rattle.tape_decimals.proofs.+decimal_in.Goals as goal

pub returns-then-more-eq0 : goal.returns-then-more-eq0
returns-then-more-eq0 t c = rw (c.if-more-eq0.true, decimal_none) (omega arith, written_none _ _)

pub returns-then-n-lt10 : goal.returns-then-n-lt10
returns-then-n-lt10 t c = let h : 0 < c.args.more = omega arith in rw (decimal_one _ _ h c.if-n-lt10.true) c.put.ensures

pub put-requires-2 : goal.put-requires-2
put-requires-2 t c = omega (arith, decimal_fits (c.args.more - 1) (c.args.n / 10))

pub returns : goal.returns
returns t c =
    let h : 0 < c.args.more = omega arith in
    rw (decimal_more _ _ h c.if-n-lt10.false)
    (wrote_then _ _ _ _ c.decimal_in-last.ensures c.put-2.ensures (omega (arith, decimal_fits (c.args.more - 1) (c.args.n / 10))))
