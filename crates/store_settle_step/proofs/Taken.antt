-- A step with the count of its orders: none, or what a serve's service awaits. Assumes nothing.
use Rattle.std.proofs.Common.{◌≡◌, ℕ, false, sym, ap, ◌∙◌}
use Rattle.std.specs.Prelude.{Ok}
use Rattle.words.specs.declared.LaneNo.{LaneNo}
use Rattle.lanes.specs.declared.Waiting.{Waiting}
use Rattle.answers.specs.declared.Answer.{Answer}
use Rattle.answers.specs.Refusals.{refused_of}
use Rattle.store.specs.declared.Store.{Store}
use Rattle.store.specs.declared.Outcome.{Outcome}
use Rattle.store.specs.Stores.{lane_at}
use Rattle.machine.specs.Machine.Corruption.{corrupt_of}
use Rattle.machine.specs.Machine.Serve.{serve_of}
use Rattle.machine.specs.Machine.Settle.{orders_queued}
use Rattle.machine.specs.Machine.Sized.{Sized}
use Rattle.machine.proofs.Settle.StepOrders.{serve_unserved, serve_queues}
use Rattle.store_settle_step.specs.Kinds.{taken_with, taken_of, sent_for}

-- an answer and as many orders as the step queued
pub taken_some : (s : Store) (q : Outcome) (a : Answer) (n : ℕ) → Ok a ≡ q.answer → n ≡ orders_queued s q.store → Ok (record { answer = a; orders = n }) ≡ taken_of s q
taken_some s q a n e f = λ i. taken_with (e i) (f i)

-- a serve that is not refused queues what its service awaits
pub serve_sends : (s : Store) (k : LaneNo) → corrupt_of s ≡ false → Sized s → refused_of (serve_of s k).answer ≡ false →
    sent_for (lane_at s k.0).waiting (serve_of s k).store.control ≡ orders_queued s (serve_of s k).store
serve_sends s k c z goes =
    let u = serve_unserved s c z k goes in
    ap (λ (w : Waiting). sent_for w (serve_of s k).store.control) u.1 ∙ sym (serve_queues s c z k goes u.0 u.1)
