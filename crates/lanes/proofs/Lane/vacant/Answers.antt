-- `lanes::Lane::vacant` meets its contract. Assumes nothing.
use Rattle.std.proofs.Common.{◌∙◌}
use Rattle.lanes.proofs.Firsts.{first_step, first_none}
use Rattle.lanes.proofs.Lane.vacant.Goals as goal

pub returns-then-not-self-k : goal.returns-then-not-self-k
returns-then-not-self-k c = rw (c.loop-k.invariant, first_step _ _ _ _ c.loop-k-test.true, c.if-not-self-k.true)

pub loop-k-preserved : goal.loop-k-preserved
loop-k-preserved c = c.loop-k.invariant ∙ rw (first_step _ _ _ _ c.loop-k-test.true, c.if-not-self-k.false)

pub returns : goal.returns
returns c = rw (c.loop-k.invariant, first_none _ _ _ _ c.loop-k-test.false)
