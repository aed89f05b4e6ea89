-- What every call shares: a refusal leaves the store as it was; what a call changes is put back in one place (a lane's part by
-- commit_lane, memory's part by commit_move). How many places a queue has is an argument of what joins one. Assumes nothing.
use Rattle.std.specs.Prelude.{ℕ, ◌+◌, Bool, false, true, cond, ◌&&◌, List, leb, get_or, set, Result, Ok, Err}
use Rattle.words.specs.declared.LaneNo.{LaneNo}
use Rattle.words.specs.declared.BlockNo.{BlockNo}
use Rattle.words.specs.Folds.{up_to, any_to}
use Rattle.words.specs.Units.{zeros}
use Rattle.queues.specs.Messages.{DownMessage}
use Rattle.queues.specs.declared.DownKind.TheVariants.{Update}
use Rattle.queues.specs.Queues.{capacity, full_at, after_push}
use Rattle.lanes.specs.declared.Lane.{Lane}
use Rattle.lanes.specs.Lanes.{with_downs}
use Rattle.answers.specs.declared.Answer.{Answer}
use Rattle.answers.specs.declared.Answer.TheVariants.{Done, Wait, Step}
use Rattle.answers.specs.declared.Refusal.{Refusal}
use Rattle.answers.specs.declared.Refusal.TheVariants.{NoSuchLane, QueueFull, Corrupt}
use Rattle.answers.specs.Refusals.{refused_of}
use Rattle.answers.specs.Completions.{completion_of}
use Rattle.store.specs.declared.Store.{Store}
use Rattle.store.specs.declared.Block.{Block}
use Rattle.store.specs.declared.Control.{Control}
use Rattle.store.specs.declared.Outcome.{Outcome}
use Rattle.store.specs.Stores.{no_lane, with_completions, with_control, with_lanes, with_lane, with_block}
use Rattle.store.specs.LaneSets.{LaneSet, nobody, goes_to}
use Rattle.machine.specs.declared.LaneAnswer.{LaneAnswer}
use Rattle.machine.specs.declared.LaneAnswer.TheVariants.{Value, Waits, Stepped}
use Rattle.machine.specs.Machine.Parts.{LaneStep}
use Rattle.machine.specs.Machine.Parts.{Move}
use Rattle.machine.specs.declared.LanePart.{LanePart}
use Rattle.machine.specs.Machine.Corruption.{corrupt_of}

-- A refusal gives its number alone; the store is the same as before the call
abbrev pub refuse : Refusal → Store → Outcome
refuse r s = record { answer = Err r; store = s }

-- 14, then 6: the first checks of every call on a lane
abbrev pub guarded : Store → LaneNo → Outcome → Outcome
guarded s k r = cond (corrupt_of s) (refuse Corrupt s) (cond (leb s.shape.n k.0) (refuse NoSuchLane s) r)

-- a refusal of a lane's part
abbrev pub refuse_lane : Refusal → Lane → LaneStep
refuse_lane r l = record { answer = Err r; lane = l }

-- the step that the code's part of a lane stands for
abbrev pub step_of : LanePart → LaneStep
step_of p = record { answer = Ok p.answer; lane = p.lane }

-- a step as the code hands it on: of a refused one the reason alone
abbrev pub part_with : Result LaneAnswer Refusal → Lane → Result LanePart Refusal
part_with (Ok a) l = Ok (record { answer = a; lane = l })
part_with (Err r) l = Err r

abbrev pub part_of : LaneStep → Result LanePart Refusal
part_of r = part_with r.answer r.lane

-- whether a lane's part is refused
abbrev pub refused_in : Result LaneAnswer Refusal → Bool
refused_in (Ok a) = false
refused_in (Err r) = true

-- completions so far once a lane's part is counted: a completion is one more
abbrev pub counted : Result LaneAnswer Refusal → ℕ → ℕ
counted (Ok (Value v)) done = done + 1
counted (Ok Waits) done = done
counted (Ok Stepped) done = done
counted (Err r) done = done

-- the answer of a call on lane k, by what its part came to and that count: a completion's place is the count with itself in it. No other part
-- of a call makes a completion
abbrev pub answer_to : LaneNo → ℕ → Result LaneAnswer Refusal → Result Answer Refusal
answer_to k done (Ok (Value v)) = Ok (Done (completion_of k v done))
answer_to k done (Ok Waits) = Ok Wait
answer_to k done (Ok Stepped) = Ok Step
answer_to k done (Err r) = Err r

-- lane k and the count of completions, after the lane's part of a call
abbrev pub lane_store : Store → LaneNo → LaneStep → Store
lane_store s k r = with_completions (with_lane s k.0 r.lane) (counted r.answer s.completions)

-- the lane's part of a call put back
unfoldable pub commit_lane : Store → LaneNo → LaneStep → Outcome
commit_lane s k r =
    let t = lane_store s k r in
    record { answer = answer_to k t.completions r.answer; store = cond (refused_in r.answer) s t }

-- what stands where nothing is sent
abbrev pub no_message : DownMessage
no_message = record { kind = Update; block = record { 0 = 0 }; words = zeros }

-- 12 for messages to lanes: a down queue the step adds to is full
unfoldable pub some_full : ℕ → LaneSet → List Lane → Bool
some_full places to ls = any_to (λ j. goes_to to j && full_at places (get_or ls j no_lane).downs.len) 8

-- the message joins the down queue of a lane
abbrev pub posted : ℕ → DownMessage → Lane → Lane
posted places x l = with_downs (after_push places l.downs x) l

-- .. of lane j if it goes there
unfoldable pub post_to : ℕ → LaneSet → DownMessage → ℕ → List Lane → List Lane
post_to places to x j ls = cond (goes_to to j) (set ls j (posted places x (get_or ls j no_lane))) ls

-- .. of each lane that it goes to
unfoldable pub post_all : ℕ → LaneSet → DownMessage → List Lane → List Lane
post_all places to x ls = up_to (post_to places to x) 8 ls

-- a refusal of memory's part
abbrev pub refuse_move : Refusal → Lane → Block → Control → Move
refuse_move r l b x = record { answer = Err r; lane = l; block = b; control = x; to = nobody; message = no_message }

-- lane k, block a, the control and the queues of those that a message goes to, after memory's part of a call
abbrev pub moved_store : Store → LaneNo → BlockNo → Move → Store
moved_store s k a v =
    with_block (with_lanes (with_control s v.control) (post_all capacity v.to v.message (set s.lanes k.0 v.lane))) a.0 v.block

-- memory's part of a call put back: its own refusal, then 12, each with the store as it was; else the store moved
unfoldable pub commit_move : Store → LaneNo → BlockNo → Move → Outcome
commit_move s k a v =
    let ls = set s.lanes k.0 v.lane in
    cond (refused_of v.answer) (record { answer = v.answer; store = s })
    (cond (some_full capacity v.to ls) (refuse QueueFull s) (record { answer = v.answer; store = moved_store s k a v }))
