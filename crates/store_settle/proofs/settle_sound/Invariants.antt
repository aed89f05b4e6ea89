-- `store_settle::settle_sound` meets its contract: a turn of the loop is one step, listed and counted; a refused one gives the first store back. Assumes nothing.
use Rattle.machine.specs.Machine.Settle.{bound_of}
use Rattle.store_settle.proofs.Going.{Going}
use Rattle.store_settle.proofs.settle_sound.Given as goal

abbrev pub invariant-loop-first : goal.invariant-loop-first
invariant-loop-first l = Going l.first l.s l.done l.steps l.orders

abbrev pub decreases-loop-first : goal.decreases-loop-first
decreases-loop-first l = bound_of l.s
