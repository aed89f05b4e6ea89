-- `memory_return::without_head` meets its contract. Assumes nothing.
use Rattle.queues.specs.Queues.{no_return}
use Rattle.memory_return.proofs.Taking.{taken, untaken}
use Rattle.memory_return.proofs.without_head.Goals as goal

pub returns-in-Some : goal.returns-in-Some
returns-in-Some c = (taken c.args.l (c.take.ensures no_return) c.in-Some.is).1.1

pub returns-in-None : goal.returns-in-None
returns-in-None c = untaken c.args.l (c.take.ensures no_return) c.in-None.is
