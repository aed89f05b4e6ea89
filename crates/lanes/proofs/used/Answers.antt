-- `lanes::used` meets its contract. Assumes nothing.
use Rattle.std.proofs.Common.{◌≡◌, ◌+◌, ◌-◌, arith}
use Rattle.words.proofs.Folds.{up_to_none, up_to_more}
use Rattle.lanes.proofs.used.Goals as goal

pub loop-k-init : goal.loop-k-init
loop-k-init c = (omega arith, up_to_none _ _)

pub loop-k-preserved : goal.loop-k-preserved
loop-k-preserved c =
    let k = c.loop-k.k in
    let e : k + 1 - 1 ≡ k - 1 + 1 = omega arith in
    (omega arith, rw e (up_to_more _ _ _ c.loop-k.invariant.1 c.carry.ensures))

pub returns : goal.returns
returns c = let e : c.args.c - 1 ≡ c.loop-k.k - 1 = omega arith in rw e c.loop-k.invariant.1
