-- `store_settle_step::lowest` meets its contract: no lane before the loop's has something for the step. Assumes nothing.
use Rattle.std.proofs.Common.{sym, ◌∙◌, lt-ltb}
use Rattle.words.proofs.Folds.{lowest_none, lowest_more, lowest_at}
use Rattle.store_settle_step.proofs.Arrays.{arrays_sized}
use Rattle.store_settle_step.proofs.lowest.Goals as goal

pub loop-k-init : goal.loop-k-init
loop-k-init c = lowest_none _

pub returns-then-enabled-clause-sized : goal.returns-then-enabled-clause-sized
returns-then-enabled-clause-sized c =
    let known = c.type_inv.s.1 in
    arrays_sized c.args.s.now _ _ known.0.1.1.0.1.0.1 known.1.1.0 known.1.1.1.0

pub returns-then-enabled-clause-lane : goal.returns-then-enabled-clause-lane
returns-then-enabled-clause-lane c =
    let n = c.args.s.now.shape.n in
    rw (lowest_at _ n c.loop-k.k c.loop-k.invariant (sym c.enabled.ensures ∙ c.if-enabled.true) c.loop-k-test.true, lt-ltb _ _ c.loop-k-test.true)

pub loop-k-preserved : goal.loop-k-preserved
loop-k-preserved c = lowest_more _ _ c.loop-k.invariant (sym c.enabled.ensures ∙ c.if-enabled.false)
