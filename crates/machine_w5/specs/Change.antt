-- What every call shares, on a store before W6: a refusal leaves the store as it was; what a call changes is put back in one place. Assumes nothing.
use Rattle.std.specs.Prelude.{cond, leb, set, Result, Err}
use Rattle.words.specs.declared.LaneNo.{LaneNo}
use Rattle.words.specs.declared.BlockNo.{BlockNo}
use Rattle.queues.specs.Messages.{DownMessage}
use Rattle.lanes.specs.declared.Lane.{Lane}
use Rattle.answers.specs.declared.Answer.{Answer}
use Rattle.answers.specs.declared.Refusal.{Refusal}
use Rattle.answers.specs.declared.Refusal.TheVariants.{NoSuchLane, QueueFull, Corrupt}
use Rattle.answers.specs.Refusals.{refused_of}
use Rattle.store.specs.declared.Block.{Block}
use Rattle.store.specs.LaneSets.{LaneSet, nobody}
use Rattle.machine.specs.Machine.Parts.{LaneStep}
use Rattle.machine.specs.Machine.Change.{refused_in, counted, answer_to, no_message, some_full, post_all}
use Rattle.machine_w5.specs.Control.{Control}
use Rattle.machine_w5.specs.Stores.{Store, Outcome, capacity, with_control, with_completions, with_lanes, with_lane, with_block}
use Rattle.machine_w5.specs.Corruption.{corrupt_of}

-- memory's part of a call: the answer; what becomes of the lane, the block and the control; the message that it sends, and to which lanes
pub record Move : Type 0 where
  pub answer : Result Answer Refusal
  pub lane : Lane
  pub block : Block
  pub control : Control
  pub to : LaneSet
  pub message : DownMessage

-- A refusal gives its number alone; the store is the same as before the call
abbrev pub refuse : Refusal → Store → Outcome
refuse r s = record { answer = Err r; store = s }

-- 14, then 6: the first checks of every call on a lane
abbrev pub guarded : Store → LaneNo → Outcome → Outcome
guarded s k r = cond (corrupt_of s) (refuse Corrupt s) (cond (leb s.shape.n k.0) (refuse NoSuchLane s) r)

-- lane k and the count of completions, after the lane's part of a call
abbrev pub lane_store : Store → LaneNo → LaneStep → Store
lane_store s k r = with_completions (with_lane s k.0 r.lane) (counted r.answer s.completions)

-- the lane's part of a call put back
unfoldable pub commit_lane : Store → LaneNo → LaneStep → Outcome
commit_lane s k r =
    let t = lane_store s k r in
    record { answer = answer_to k t.completions r.answer; store = cond (refused_in r.answer) s t }

-- a refusal of memory's part
abbrev pub refuse_move : Refusal → Lane → Block → Control → Move
refuse_move r l b x = record { answer = Err r; lane = l; block = b; control = x; to = nobody; message = no_message }

-- lane k, block a, the control and the queues of those that a message goes to, after memory's part of a call
abbrev pub moved_store : Store → LaneNo → BlockNo → Move → Store
moved_store s k a v =
    with_block (with_lanes (with_control s v.control) (post_all capacity v.to v.message (set s.lanes k.0 v.lane))) a.0 v.block

-- memory's part of a call put back: its own refusal, then 12, each with the store as it was; else the store moved
unfoldable pub commit_move : Store → LaneNo → BlockNo → Move → Outcome
commit_move s k a v =
    let ls = set s.lanes k.0 v.lane in
    cond (refused_of v.answer) (record { answer = v.answer; store = s })
    (cond (some_full capacity v.to ls) (refuse QueueFull s) (record { answer = v.answer; store = moved_store s k a v }))
