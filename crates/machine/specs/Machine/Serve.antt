-- 01, "Serve k" and "Close"; 02, W6: a service for each block, at most L in all. Assumes nothing.
use Rattle.std.specs.Prelude.{ℕ, Bool, true, false, cond, ltb, eqb, Result, Ok, Err}
use Rattle.words.specs.declared.LaneNo.{LaneNo}
use Rattle.words.specs.Units.{block_of}
use Rattle.queues.specs.Messages.{DownMessage}
use Rattle.queues.specs.declared.DownKind.{DownKind}
use Rattle.queues.specs.declared.DownKind.TheVariants.{Update, Purge, Grant, BareGrant}
use Rattle.queues.specs.Messages.{bare_message, words_message}
use Rattle.lanes.specs.declared.Lane.{Lane}
use Rattle.lanes.specs.declared.Operation.{Operation}
use Rattle.lanes.specs.declared.Command.{Command}
use Rattle.lanes.specs.declared.Command.TheVariants.{ReadShared, ReadExclusive, Exclude}
use Rattle.lanes.specs.declared.Waiting.{Waiting}
use Rattle.lanes.specs.declared.Waiting.TheVariants.{Idle, Unserved, Served}
use Rattle.lanes.specs.Lanes.{with_waiting}
use Rattle.answers.specs.declared.Answer.TheVariants.{Step}
use Rattle.answers.specs.declared.Refusal.TheVariants.{NothingPending, ControlBusy, ReturnsPending}
use Rattle.store.specs.declared.Store.{Store}
use Rattle.store.specs.declared.Block.{Block}
use Rattle.store.specs.declared.Service.{Service}
use Rattle.store.specs.declared.Control.{Control}
use Rattle.store.specs.declared.Outcome.{Outcome}
use Rattle.store.specs.Control.{busy_for, with_service}
use Rattle.store.specs.Stores.{lane_at, block_at}
use Rattle.store.specs.Blocks.{with_present, with_modified}
use Rattle.store.specs.LaneSets.{nobody, only, goes_to, LaneSet, including, without, count_of}
use Rattle.machine.specs.Machine.Parts.{Move}
use Rattle.machine.specs.Machine.Change.{refuse, guarded, commit_move}
use Rattle.answers.specs.declared.Refusal.{Refusal}

-- READ shared sends orders if MODIFIED is set, else nothing; READ exclusive and EXCLUDE send orders
abbrev pub sends_of : Command → Bool → Bool
sends_of ReadShared modified = modified
sends_of ReadExclusive modified = true
sends_of Exclude modified = true

-- READ shared sends UPDATE; READ exclusive and EXCLUDE send PURGE
abbrev pub order_of : Command → DownKind
order_of ReadShared = Update
order_of ReadExclusive = Purge
order_of Exclude = Purge

-- .. to every other PRESENT lane
unfoldable pub ordered : Block → LaneNo → Command → LaneSet
ordered b k x = cond (sends_of x b.modified) (without k b.present) nobody

-- The grant is bare only for EXCLUDE with k's PRESENT set
abbrev pub bare_of : Command → Bool → Bool
bare_of ReadShared present = false
bare_of ReadExclusive present = false
bare_of Exclude present = present

-- Exclusive: k's PRESENT is set, every other PRESENT of the block is reset, MODIFIED is set
abbrev pub exclusively : Block → LaneNo → Block
exclusively b k = with_modified true (with_present (only k) b)

-- Shared: set k's PRESENT; exclusive as above
abbrev pub closed_block : Command → Block → LaneNo → Block
closed_block ReadShared b k = with_present (including k b.present) b
closed_block ReadExclusive b k = exclusively b k
closed_block Exclude b k = exclusively b k

-- The grant (bare, or with main memory's words)
abbrev pub grant_of : Block → Service → DownMessage
grant_of b v = cond v.bare (bare_message BareGrant v.block) (words_message Grant v.block b.words)

-- Close: the flags, the grant to the service's lane; x is the control without the service
unfoldable pub close : Service → Lane → Block → Control → Move
close v l b x =
    record { answer = Ok Step; lane = l; block = closed_block v.command b v.lane; control = x; to = only v.lane; message = grant_of b v }

-- 9, 10, 11
abbrev pub ready_with : Waiting → Lane → ℕ → Control → Result Operation Refusal
ready_with Idle l limit x = Err NothingPending
ready_with (Served o) l limit x = Err NothingPending
ready_with (Unserved o) l limit x =
    cond (busy_for limit x (block_of o.word)) (Err ControlBusy) (cond (ltb 0 l.returns.len) (Err ReturnsPending) (Ok o))

unfoldable pub ready_of : Lane → ℕ → Control → Result Operation Refusal
ready_of l limit x = ready_with l.waiting l limit x

-- the service of lane k's operation
abbrev pub service_for : LaneNo → Operation → Block → ℕ → Service
service_for k o b awaited =
    record { lane = k; block = block_of o.word; command = o.command; awaited = awaited; bare = bare_of o.command (goes_to b.present k.0) }

-- Memory takes lane k's command; the operation is then served. The count of sent orders is awaited. If none are awaited the service closes in this step
unfoldable pub serve_move : LaneNo → Operation → Lane → Block → Control → Move
serve_move k o l b x =
    let to = ordered b k o.command in
    let v : Service = service_for k o b (count_of to) in
    let t = with_waiting (Served o) l in
    cond (eqb (count_of to) 0) (close v t b x)
    (record { answer = Ok Step; lane = t; block = b; control = with_service v x; to = to; message = bare_message (order_of o.command) (block_of o.word) })

-- 12 is left to the place where the message is sent
abbrev pub serve_ready : Result Operation Refusal → Store → LaneNo → Outcome
serve_ready (Err r) s k = refuse r s
serve_ready (Ok o) s k =
    commit_move s k (block_of o.word) (serve_move k o (lane_at s k.0) (block_at s (block_of o.word).0) s.control)

-- 14, 6, 9, 10, 11, 12
unfoldable pub serve_of : Store → LaneNo → Outcome
serve_of s k = guarded s k (serve_ready (ready_of (lane_at s k.0) s.shape.limit s.control) s k)
