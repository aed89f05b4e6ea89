-- 01, "Return k"; 02, W6: an answer belongs to the service of its block. Assumes nothing.
use Rattle.std.specs.Prelude.{ℕ, Bool, true, false, cond, List, Option, Some, None, Ok}
use Rattle.words.specs.declared.LaneNo.{LaneNo}
use Rattle.queues.specs.Messages.{ReturnMessage}
use Rattle.queues.specs.declared.ReturnKind.{ReturnKind}
use Rattle.queues.specs.declared.ReturnKind.TheVariants.{Eject, WriteEject, Updated, Purged, PurgedWords, Gone}
use Rattle.queues.specs.Queues.{empty_at, head_return, after_take}
use Rattle.lanes.specs.declared.Lane.{Lane}
use Rattle.lanes.specs.Lanes.{with_returns}
use Rattle.answers.specs.declared.Answer.TheVariants.{Step}
use Rattle.answers.specs.declared.Refusal.TheVariants.{NothingPending, Unexpected}
use Rattle.store.specs.declared.Store.{Store}
use Rattle.store.specs.declared.Block.{Block}
use Rattle.store.specs.declared.Control.{Control}
use Rattle.store.specs.declared.Counted.{Counted}
use Rattle.store.specs.declared.Counted.TheVariants.{Awaits, Closes}
use Rattle.store.specs.declared.Outcome.{Outcome}
use Rattle.store.specs.Control.{with_updated, without_service, answer_of}
use Rattle.store.specs.Stores.{lane_at, block_at}
use Rattle.store.specs.Blocks.{with_contents, with_present, with_modified}
use Rattle.store.specs.LaneSets.{nobody, without}
use Rattle.machine.specs.Machine.Parts.{Move}
use Rattle.machine.specs.Machine.Change.{refuse, refuse_move, guarded, commit_move, no_message}
use Rattle.machine.specs.Machine.Serve.{close}

-- resets k's PRESENT
abbrev pub absent : LaneNo → Block → Block
absent k b = with_present (without k b.present) b

-- writes the words, resets MODIFIED
abbrev pub written_back : List ℕ → Block → Block
written_back ws b = with_modified false (with_contents ws b)

-- what a message makes of its block: EJECT resets k's PRESENT, WRITE-EJECT also writes the words and resets MODIFIED; UPDATED writes its
-- words and resets MODIFIED; PURGED resets PRESENT, and if it has words writes them and resets MODIFIED; GONE resets PRESENT
abbrev pub taken_by : ReturnKind → List ℕ → LaneNo → Block → Block
taken_by Eject ws k b = absent k b
taken_by WriteEject ws k b = written_back ws (absent k b)
taken_by Updated ws k b = written_back ws b
taken_by Purged ws k b = absent k b
taken_by PurgedWords ws k b = written_back ws (absent k b)
taken_by Gone ws k b = absent k b

-- the three answers are UPDATED, PURGED and GONE
abbrev pub is_answer : ReturnKind → Bool
is_answer Eject = false
is_answer WriteEject = false
is_answer Updated = true
is_answer Purged = true
is_answer PurgedWords = true
is_answer Gone = true

-- memory's part where nothing is sent: lane, block and control after it
abbrev pub send_nothing : Lane → Block → Control → Move
send_nothing l b x = record { answer = Ok Step; lane = l; block = b; control = x; to = nobody; message = no_message }

-- Each answer lowers the awaited count, and at 0 the service closes; 16 for an answer that is not awaited. l and b are lane and block
-- before the message is taken, t and u after it
abbrev pub counted_move : Option Counted → Lane → Block → Control → Lane → Block → Move
counted_move None l b x t u = refuse_move Unexpected l b x
counted_move (Some (Awaits v)) l b x t u = send_nothing t u (with_updated v x)
counted_move (Some (Closes v)) l b x t u = close v t u (without_service v x)

-- Memory takes the head of k's return queue
unfoldable pub return_move : LaneNo → ReturnMessage → Lane → Block → Control → Move
return_move k x l b y =
    let t = with_returns (after_take l.returns) l in
    let u = taken_by x.kind x.words k b in
    cond (is_answer x.kind) (counted_move (answer_of y x.block) l b y t u) (send_nothing t u y)

-- 9, then memory's part
abbrev pub return_head : Store → LaneNo → Lane → Outcome
return_head s k l =
    let x = head_return l.returns in
    cond (empty_at l.returns.len) (refuse NothingPending s)
    (commit_move s k x.block (return_move k x l (block_at s x.block.0) s.control))

-- 14, 6, 9, 16, 12
unfoldable pub return_of : Store → LaneNo → Outcome
return_of s k = guarded s k (return_head s k (lane_at s k.0))
