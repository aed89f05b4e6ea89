-- 01, "Deliver k"; 02, W3: the insertion policy is an argument of what fills a line, and how many places a queue has one of what answers.
-- Assumes nothing.
use Rattle.std.specs.Prelude.{ℕ, false, not, cond, eqb, Option, Some, None, Result, Ok, Err}
use Rattle.words.specs.declared.LaneNo.{LaneNo}
use Rattle.words.specs.declared.BlockNo.{BlockNo}
use Rattle.words.specs.declared.Line.{Line}
use Rattle.words.specs.declared.Op.{Op}
use Rattle.words.specs.Units.{block_of}
use Rattle.words.specs.Operations.{is_load}
use Rattle.words.specs.Lines.{invalid, with_private, filled_line}
use Rattle.queues.specs.Messages.{ReturnMessage}
use Rattle.queues.specs.declared.ReturnKind.TheVariants.{Updated, Purged, PurgedWords, Gone}
use Rattle.queues.specs.Messages.{DownMessage}
use Rattle.queues.specs.declared.DownKind.{DownKind}
use Rattle.queues.specs.declared.DownKind.TheVariants.{Update, Purge, Grant, BareGrant}
use Rattle.queues.specs.Queues.{capacity, empty_at, head_down, after_take, after_push, full_at}
use Rattle.queues.specs.Messages.{bare_message, words_message}
use Rattle.lanes.specs.declared.Lane.{Lane}
use Rattle.lanes.specs.declared.Operation.{Operation}
use Rattle.lanes.specs.declared.Waiting.{Waiting}
use Rattle.lanes.specs.declared.Waiting.TheVariants.{Idle, Unserved, Served}
use Rattle.lanes.specs.Search.{line_at, search_of, vacant_of}
use Rattle.lanes.specs.UseOrder.{Insertion, inserted_of}
use Rattle.lanes.specs.Lanes.{with_waiting, with_returns, with_downs, with_line}
use Rattle.answers.specs.declared.Refusal.TheVariants.{NothingPending, QueueFull, Unexpected}
use Rattle.store.specs.declared.Store.{Store}
use Rattle.store.specs.declared.Outcome.{Outcome}
use Rattle.store.specs.Stores.{lane_at}
use Rattle.machine.specs.declared.LaneAnswer.TheVariants.{Stepped}
use Rattle.machine.specs.Machine.Parts.{LaneStep}
use Rattle.machine.specs.Machine.Change.{refuse_lane, guarded, commit_lane, refused_in}
use Rattle.machine.specs.Machine.Begin.{complete_with, complete}
use Rattle.words.specs.declared.LineNo.{LineNo}
use Rattle.answers.specs.declared.Refusal.{Refusal}

-- an answer joins the lane's return queue; 12 where that is full
unfoldable pub reply : ℕ → ReturnMessage → Lane → LaneStep
reply places y l =
    cond (full_at places l.returns.len) (refuse_lane QueueFull l)
    (record { answer = Ok Stepped; lane = with_returns (after_push places l.returns y) l })

-- PRIVATE is reset
abbrev pub shared : Line → Line
shared x = with_private false x

-- UPDATE on a held block: UPDATED with the words, PRIVATE reset. On a block not held: GONE
abbrev pub update_at : ℕ → Option LineNo → BlockNo → Lane → LaneStep
update_at places (Some i) a l = reply places (words_message Updated a (line_at l i).words) (with_line i (shared (line_at l i)) l)
update_at places None a l = reply places (bare_message Gone a) l

-- PURGED, with words only if PRIVATE was set
abbrev pub purged_of : BlockNo → Line → ReturnMessage
purged_of a x = cond x.private (words_message PurgedWords a x.words) (bare_message Purged a)

-- PURGE on a held block: VALID reset, PURGED. On a block not held: GONE
abbrev pub purge_at : ℕ → Option LineNo → BlockNo → Lane → LaneStep
purge_at places (Some i) a l = reply places (purged_of a (line_at l i)) (with_line i (invalid (line_at l i)) l)
purge_at places None a l = reply places (bare_message Gone a) l

-- PRIVATE is set if the operation isn't load, and reset if it is
abbrev pub claimed : Op → Line → Line
claimed op x = with_private (not (is_load op)) x

-- an operation that completes waits no more: a grant is for the operation that the lane waits for
abbrev pub waits_no_more : Lane → Lane
waits_no_more l = with_waiting Idle l

-- A grant with words fills the lowest-numbered line that is not valid, which goes in by the policy, and the operation completes; 16 with no free line
abbrev pub fill_at : Insertion → Option LineNo → ℕ → DownMessage → Operation → Lane → LaneStep
fill_at ins (Some i) c x o l =
    complete_with (inserted_of ins o.op c i l.order) i (claimed o.op (filled_line x.block x.words)) o.op o.word (waits_no_more l)
fill_at ins None c x o l = refuse_lane Unexpected l

-- 16 for a grant with words on a held block
abbrev pub grant_at : Insertion → Option LineNo → ℕ → DownMessage → Operation → Lane → LaneStep
grant_at ins (Some i) c x o l = refuse_lane Unexpected l
grant_at ins None c x o l = fill_at ins (vacant_of l c) c x o l

-- a bare grant uses the held line, and the operation completes; 16 on a block not held
abbrev pub bare_at : Option LineNo → ℕ → Operation → Lane → LaneStep
bare_at (Some i) c o l = complete c i (claimed o.op (line_at l i)) o.op o.word (waits_no_more l)
bare_at None c o l = refuse_lane Unexpected l

-- the served operation on block a; 16 where there is none
abbrev pub served_on : Waiting → BlockNo → Result Operation Refusal
served_on Idle a = Err Unexpected
served_on (Unserved o) a = Err Unexpected
served_on (Served o) a = cond (eqb (block_of o.word).0 a.0) (Ok o) (Err Unexpected)

abbrev pub grant_to : Insertion → Result Operation Refusal → ℕ → DownMessage → Lane → LaneStep
grant_to ins (Err r) c x l = refuse_lane r l
grant_to ins (Ok o) c x l = grant_at ins (search_of l c x.block) c x o l

abbrev pub bare_to : Result Operation Refusal → ℕ → DownMessage → Lane → LaneStep
bare_to (Err r) c x l = refuse_lane r l
bare_to (Ok o) c x l = bare_at (search_of l c x.block) c o l

-- what a message does in a lane that has taken it
abbrev pub deliver_kind : ℕ → Insertion → DownKind → ℕ → DownMessage → Lane → LaneStep
deliver_kind places ins Update c x l = update_at places (search_of l c x.block) x.block l
deliver_kind places ins Purge c x l = purge_at places (search_of l c x.block) x.block l
deliver_kind places ins Grant c x l = grant_to ins (served_on l.waiting x.block) c x l
deliver_kind places ins BareGrant c x l = bare_to (served_on l.waiting x.block) c x l

-- on a refusal the lane is as it was, with the message still in its queue
abbrev pub or_as_before : Lane → LaneStep → LaneStep
or_as_before l r = record { answer = r.answer; lane = cond (refused_in r.answer) l r.lane }

-- 9; then lane k takes the head of its down queue
unfoldable pub deliver_lane : ℕ → Insertion → ℕ → Lane → LaneStep
deliver_lane places ins c l =
    let x = head_down l.downs in
    cond (empty_at l.downs.len) (refuse_lane NothingPending l)
    (or_as_before l (deliver_kind places ins x.kind c x (with_downs (after_take l.downs) l)))

-- 14, 6, 9, 16, 12
unfoldable pub deliver_of : Insertion → Store → LaneNo → Outcome
deliver_of ins s k = guarded s k (commit_lane s k (deliver_lane capacity ins s.shape.c (lane_at s k.0)))
