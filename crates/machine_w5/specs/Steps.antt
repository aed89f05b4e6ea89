-- Begin, serve, close, return and deliver before W6. A lane's part is today's with queues of two places. Assumes nothing.
use Rattle.std.specs.Prelude.{◌*◌, cond, leb, ltb, eqb, Result, Ok, Err}
use Rattle.words.specs.declared.LaneNo.{LaneNo}
use Rattle.words.specs.declared.WordNo.{WordNo}
use Rattle.words.specs.declared.Op.{Op}
use Rattle.words.specs.Units.{block_of}
use Rattle.queues.specs.Messages.{ReturnMessage}
use Rattle.queues.specs.Queues.{empty_at, head_return, after_take}
use Rattle.queues.specs.Messages.{bare_message}
use Rattle.lanes.specs.declared.Lane.{Lane}
use Rattle.lanes.specs.declared.Operation.{Operation}
use Rattle.lanes.specs.declared.Waiting.{Waiting}
use Rattle.lanes.specs.declared.Waiting.TheVariants.{Idle, Unserved, Served}
use Rattle.lanes.specs.UseOrder.{Insertion}
use Rattle.lanes.specs.Lanes.{with_waiting, with_returns}
use Rattle.answers.specs.declared.Answer.TheVariants.{Step}
use Rattle.answers.specs.declared.Refusal.TheVariants.{NoSuchWord, LaneBusy, PlacesExhausted, NothingPending, ControlBusy, ReturnsPending, Unexpected}
use Rattle.store.specs.declared.Block.{Block}
use Rattle.store.specs.declared.Service.{Service}
use Rattle.store.specs.LaneSets.{nobody, only, count_of}
use Rattle.machine.specs.Machine.Change.{no_message}
use Rattle.machine.specs.Machine.Begin.{begin_lane, admits_of}
use Rattle.machine.specs.Machine.Serve.{order_of, ordered, closed_block, grant_of, service_for}
use Rattle.machine.specs.Machine.Return.{taken_by, is_answer}
use Rattle.machine.specs.Machine.Deliver.{deliver_lane}
use Rattle.machine_w5.specs.Control.{Control, Busy, Counted, Awaits, Closes, NotAwaited, busy_of, answer_of}
use Rattle.machine_w5.specs.Stores.{Store, Outcome, capacity, lane_at, block_at}
use Rattle.machine_w5.specs.Corruption.{exhausted_of}
use Rattle.machine_w5.specs.Change.{Move, refuse, refuse_move, guarded, commit_lane, commit_move}
use Rattle.answers.specs.declared.Refusal.{Refusal}

-- begin on a lane that takes the operation: 17, then the lane's part, put back
abbrev pub begin_admitted : Store → LaneNo → Op → WordNo → Outcome
begin_admitted s k op w = cond (exhausted_of s) (refuse PlacesExhausted s) (commit_lane s k (begin_lane capacity s.shape.c op w (lane_at s k.0)))

-- 14, 6, 7, 8, 17, 12
unfoldable pub begin_of : Store → LaneNo → Op → WordNo → Outcome
begin_of s k op w =
    guarded s k
    (cond (leb (4 * s.shape.m) w.0) (refuse NoSuchWord s)
    (cond (admits_of s.shape.c op w (lane_at s k.0)) (begin_admitted s k op w) (refuse LaneBusy s)))

-- Close: the flags, the grant to the service's lane; x is the control without the service
unfoldable pub close : Service → Lane → Block → Control → Move
close v l b x =
    record { answer = Ok Step; lane = l; block = closed_block v.command b v.lane; control = x; to = only v.lane; message = grant_of b v }

-- 9, 10, 11
abbrev pub ready_with : Waiting → Lane → Control → Result Operation Refusal
ready_with Idle l x = Err NothingPending
ready_with (Served o) l x = Err NothingPending
ready_with (Unserved o) l x = cond (busy_of x) (Err ControlBusy) (cond (ltb 0 l.returns.len) (Err ReturnsPending) (Ok o))

unfoldable pub ready_of : Lane → Control → Result Operation Refusal
ready_of l x = ready_with l.waiting l x

-- Memory takes lane k's command; the operation is then served. The count of sent orders is awaited. If none are awaited the service closes in this step
unfoldable pub serve_move : LaneNo → Operation → Lane → Block → Control → Move
serve_move k o l b x =
    let to = ordered b k o.command in
    let v : Service = service_for k o b (count_of to) in
    let t = with_waiting (Served o) l in
    cond (eqb (count_of to) 0) (close v t b x)
    (record { answer = Ok Step; lane = t; block = b; control = Busy v; to = to; message = bare_message (order_of o.command) (block_of o.word) })

-- 12 is left to the place where the message is sent
abbrev pub serve_ready : Result Operation Refusal → Store → LaneNo → Outcome
serve_ready (Err r) s k = refuse r s
serve_ready (Ok o) s k =
    commit_move s k (block_of o.word) (serve_move k o (lane_at s k.0) (block_at s (block_of o.word).0) s.control)

-- 14, 6, 9, 10, 11, 12
unfoldable pub serve_of : Store → LaneNo → Outcome
serve_of s k = guarded s k (serve_ready (ready_of (lane_at s k.0) s.control) s k)

-- memory's part where nothing is sent: lane, block and control after it
abbrev pub send_nothing : Lane → Block → Control → Move
send_nothing l b x = record { answer = Ok Step; lane = l; block = b; control = x; to = nobody; message = no_message }

-- Each answer lowers the awaited count, and at 0 the service closes; 16 for an answer that is not awaited. l and b are lane and block
-- before the message is taken, t and u after it
abbrev pub counted_move : Counted → Lane → Block → Control → Lane → Block → Move
counted_move NotAwaited l b x t u = refuse_move Unexpected l b x
counted_move (Awaits y) l b x t u = send_nothing t u y
counted_move (Closes v y) l b x t u = close v t u y

-- Memory takes the head of k's return queue
unfoldable pub return_move : LaneNo → ReturnMessage → Lane → Block → Control → Move
return_move k x l b y =
    let t = with_returns (after_take l.returns) l in
    let u = taken_by x.kind x.words k b in
    cond (is_answer x.kind) (counted_move (answer_of y x.block) l b y t u) (send_nothing t u y)

-- 9, then memory's part
abbrev pub return_head : Store → LaneNo → Lane → Outcome
return_head s k l =
    let x = head_return l.returns in
    cond (empty_at l.returns.len) (refuse NothingPending s)
    (commit_move s k x.block (return_move k x l (block_at s x.block.0) s.control))

-- 14, 6, 9, 16, 12
unfoldable pub return_of : Store → LaneNo → Outcome
return_of s k = guarded s k (return_head s k (lane_at s k.0))

-- 14, 6, 9, 16, 12
unfoldable pub deliver_of : Insertion → Store → LaneNo → Outcome
deliver_of ins s k = guarded s k (commit_lane s k (deliver_lane capacity ins s.shape.c (lane_at s k.0)))
