-- `store_settle_step::take_step` meets its contract. Assumes nothing.
use Rattle.std.proofs.Common.{sym, ◌∙◌}
use Rattle.lanes.specs.UseOrder.{LoadsOldest}
use Rattle.machine.specs.Machine.Deliver.{deliver_of}
use Rattle.machine.specs.Machine.Return.{return_of}
use Rattle.machine.proofs.Settle.StepOrders.{deliver_queues, return_queues}
use Rattle.store_settle_step.proofs.Taken.{taken_some}
use Rattle.store_settle_step.proofs.take_step.Goals as goal

pub returns-in_ok-answer-in-Deliver-clause-step : goal.returns-in_ok-answer-in-Deliver-clause-step
returns-in_ok-answer-in-Deliver-clause-step c =
    let none = deliver_queues c.args.store.now c.requires.0 c.requires.2 c.args.k LoadsOldest in
    rw c.in-Deliver.is (taken_some c.args.store.now (deliver_of LoadsOldest c.args.store.now c.args.k) _ _ (sym c.in_ok-answer-in-Deliver.was ∙ c.deliver_sound.ensures.answer) (sym none))

pub returns-in_ok-answer-in-Return-clause-step : goal.returns-in_ok-answer-in-Return-clause-step
returns-in_ok-answer-in-Return-clause-step c =
    let none = return_queues c.args.store.now c.requires.0 c.requires.2 c.args.k in
    rw c.in-Return.is (taken_some c.args.store.now (return_of c.args.store.now c.args.k) _ _ (sym c.in_ok-answer-in-Return.was ∙ c.return_sound.ensures.answer) (sym none))
