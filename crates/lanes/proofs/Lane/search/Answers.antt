-- `lanes::Lane::search` meets its contract. Assumes nothing.
use Rattle.std.proofs.Common.{◌∙◌}
use Rattle.lanes.proofs.Firsts.{first_step, first_none}
use Rattle.lanes.proofs.Lane.search.Goals as goal

pub returns-then-holds : goal.returns-then-holds
returns-then-holds c = rw (c.loop-k.invariant, first_step _ _ _ _ c.loop-k-test.true, ← c.holds.ensures, c.if-holds.true)

pub loop-k-preserved : goal.loop-k-preserved
loop-k-preserved c = c.loop-k.invariant ∙ rw (first_step _ _ _ _ c.loop-k-test.true, ← c.holds.ensures, c.if-holds.false)

pub returns : goal.returns
returns c = rw (c.loop-k.invariant, first_none _ _ _ _ c.loop-k-test.false)
