-- What settle's search for a step and the step compute, and the orders that it queued. Assumes nothing.
use Rattle.std.specs.Prelude.{ℕ, Bool, cond, Option, Some, None, Result, Ok, Err, ltb}
use Rattle.words.specs.declared.LaneNo.{LaneNo}
use Rattle.words.specs.Units.{block_of}
use Rattle.lanes.specs.declared.Lane.{Lane}
use Rattle.lanes.specs.declared.Waiting.{Waiting}
use Rattle.lanes.specs.declared.Waiting.TheVariants.{Idle, Unserved, Served}
use Rattle.lanes.specs.Waits.{unserved_of}
use Rattle.lanes.specs.UseOrder.{LoadsOldest}
use Rattle.answers.specs.declared.Answer.{Answer}
use Rattle.answers.specs.declared.Refusal.{Refusal}
use Rattle.store.specs.declared.Store.{Store}
use Rattle.store.specs.declared.Outcome.{Outcome}
use Rattle.store.specs.declared.Control.{Control}
use Rattle.store.specs.Control.{service_of, awaited_of}
use Rattle.machine.specs.Machine.Serve.{serve_of}
use Rattle.machine.specs.Machine.Return.{return_of}
use Rattle.machine.specs.Machine.Deliver.{deliver_of}
use Rattle.machine.specs.Machine.Settle.{orders_queued}
use Rattle.store_settle_step.specs.declared.StepKind.{StepKind}
use Rattle.store_settle_step.specs.declared.StepKind.TheVariants.{Deliver, Return, Serve}
use Rattle.store_settle_step.specs.declared.TakenStep.{TakenStep}

-- whether a lane has something for the step: a filled down queue, a filled return queue, an unserved operation
abbrev pub enabled_of : StepKind → Lane → Bool
enabled_of Deliver l = ltb 0 l.downs.len
enabled_of Return l = ltb 0 l.returns.len
enabled_of Serve l = unserved_of l.waiting

-- the step on lane k
abbrev pub step_of : StepKind → Store → LaneNo → Outcome
step_of Deliver s k = deliver_of LoadsOldest s k
step_of Return s k = return_of s k
step_of Serve s k = serve_of s k

-- the lane of number k, if k is below n
abbrev pub lane_found : ℕ → ℕ → Option LaneNo
lane_found k n = cond (ltb k n) (Some (record { 0 = k })) None

-- what a step answers, with the orders that it queued; a refused one has the reason alone
abbrev pub taken_with : Result Answer Refusal → ℕ → Result TakenStep Refusal
taken_with (Ok a) orders = Ok (record { answer = a; orders = orders })
taken_with (Err r) orders = Err r

abbrev pub taken_of : Store → Outcome → Result TakenStep Refusal
taken_of s r = taken_with r.answer (orders_queued s r.store)

-- the answers that the service of what waited unserved awaits
abbrev pub sent_for : Waiting → Control → ℕ
sent_for Idle x = 0
sent_for (Unserved o) x = awaited_of (service_of x (block_of o.word))
sent_for (Served o) x = 0
