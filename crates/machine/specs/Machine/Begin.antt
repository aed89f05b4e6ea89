-- 01, "Begin": load, store v, exchange v, add v; 02, W1: 17; 02, W5: a load beside a waiting operation. How many places a queue has is an
-- argument of the lane's part. Assumes nothing.
use Rattle.std.specs.Prelude.{ℕ, ◌*◌, Bool, true, false, cond, ◌||◌, ◌&&◌, List, leb, Option, Some, None, Ok}
use Rattle.words.specs.declared.LaneNo.{LaneNo}
use Rattle.words.specs.declared.LineNo.{LineNo}
use Rattle.words.specs.declared.WordNo.{WordNo}
use Rattle.words.specs.declared.Line.{Line}
use Rattle.words.specs.declared.Op.{Op}
use Rattle.words.specs.Units.{block_of}
use Rattle.words.specs.Operations.{perform_of, is_load}
use Rattle.words.specs.Lines.{invalid}
use Rattle.queues.specs.Messages.{ReturnMessage}
use Rattle.queues.specs.declared.ReturnKind.TheVariants.{Eject, WriteEject}
use Rattle.queues.specs.Queues.{capacity, after_push, full_at}
use Rattle.queues.specs.Messages.{bare_message, words_message}
use Rattle.lanes.specs.declared.Lane.{Lane}
use Rattle.lanes.specs.declared.Command.{Command}
use Rattle.lanes.specs.declared.Command.TheVariants.{ReadShared, ReadExclusive, Exclude}
use Rattle.lanes.specs.declared.Waiting.TheVariants.{Unserved}
use Rattle.lanes.specs.Search.{line_at, search_of, vacant_of}
use Rattle.lanes.specs.UseOrder.{place_at, used_of}
use Rattle.lanes.specs.Waits.{idle_of}
use Rattle.lanes.specs.Lanes.{with_waiting, with_order, with_line, with_returns}
use Rattle.answers.specs.declared.Refusal.TheVariants.{NoSuchWord, LaneBusy, QueueFull, PlacesExhausted}
use Rattle.store.specs.declared.Store.{Store}
use Rattle.store.specs.declared.Outcome.{Outcome}
use Rattle.store.specs.Stores.{lane_at}
use Rattle.machine.specs.Machine.Begun.{exhausted_of}
use Rattle.machine.specs.declared.LaneAnswer.TheVariants.{Value, Waits}
use Rattle.machine.specs.Machine.Parts.{LaneStep}
use Rattle.machine.specs.Machine.Change.{refuse, refuse_lane, guarded, commit_lane}

-- the operation is done on a word of line i, here with the contents x
abbrev pub performed : LineNo → Line → Op → WordNo → Lane → Lane
performed i x op w l = with_line i (perform_of x op w).line l

-- Completing does the operation on that word of the line and gives the value so got; the use order is o after it. What the lane waits for is not touched
unfoldable pub complete_with : List LineNo → LineNo → Line → Op → WordNo → Lane → LaneStep
complete_with o i x op w l = record { answer = Ok (Value (perform_of x op w).value); lane = with_order o (performed i x op w l) }

-- .. and is a use of the line
abbrev pub complete : ℕ → LineNo → Line → Op → WordNo → Lane → LaneStep
complete c i x op w l = complete_with (used_of c i l.order) i x op w l

-- the lane waits with a command
abbrev pub waits : Command → Op → WordNo → Lane → LaneStep
waits x op w l = record { answer = Ok Waits; lane = with_waiting (Unserved (record { command = x; op = op; word = w })) l }

-- Load on a hit completes in that call. So do the other three on a hit with PRIVATE set. A hit with PRIVATE reset makes the lane wait with EXCLUDE
unfoldable pub hit : ℕ → LineNo → Op → WordNo → Lane → LaneStep
hit c i op w l = cond (is_load op || (line_at l i).private) (complete c i (line_at l i) op w l) (waits Exclude op w l)

-- A miss waits with READ, shared for load and exclusive otherwise
abbrev pub read_of : Op → Command
read_of op = cond (is_load op) ReadShared ReadExclusive

-- WRITE-EJECT with its words if PRIVATE, else EJECT
abbrev pub eject_of : Line → ReturnMessage
eject_of x = cond x.private (words_message WriteEject x.block x.words) (bare_message Eject x.block)

-- eviction: line i is given up and the lane waits, unless its return queue is full
unfoldable pub evict : ℕ → LineNo → Op → WordNo → Lane → LaneStep
evict places i op w l =
    cond (full_at places l.returns.len) (refuse_lane QueueFull l)
    (waits (read_of op) op w (with_returns (after_push places l.returns (eject_of (line_at l i))) (with_line i (invalid (line_at l i)) l)))

-- On a miss with all lines valid, the oldest line is given up
abbrev pub miss_with : ℕ → Option LineNo → Op → WordNo → Lane → LaneStep
miss_with places (Some i) op w l = waits (read_of op) op w l
miss_with places None op w l = evict places (place_at l.order 0) op w l

unfoldable pub miss : ℕ → ℕ → Op → WordNo → Lane → LaneStep
miss places c op w l = miss_with places (vacant_of l c) op w l

-- the lane's part of begin, by what Search finds
abbrev pub begin_at : ℕ → Option LineNo → ℕ → Op → WordNo → Lane → LaneStep
begin_at places (Some i) c op w l = hit c i op w l
begin_at places None c op w l = miss places c op w l

unfoldable pub begin_lane : ℕ → ℕ → Op → WordNo → Lane → LaneStep
begin_lane places c op w l = begin_at places (search_of l c (block_of w)) c op w l

-- whether Search has found a line
abbrev pub is_hit : Option LineNo → Bool
is_hit (Some i) = true
is_hit None = false

-- 02, W5: a lane that waits begins nothing but a load that hits; one that waits for nothing begins any operation
unfoldable pub admits_of : ℕ → Op → WordNo → Lane → Bool
admits_of c op w l = idle_of l.waiting || (is_hit (search_of l c (block_of w)) && is_load op)

-- begin on a lane that takes the operation: 17, then the lane's part, put back
abbrev pub begin_admitted : Store → LaneNo → Op → WordNo → Outcome
begin_admitted s k op w = cond (exhausted_of s) (refuse PlacesExhausted s) (commit_lane s k (begin_lane capacity s.shape.c op w (lane_at s k.0)))

-- 14, 6, 7, 8, 17, 12
unfoldable pub begin_of : Store → LaneNo → Op → WordNo → Outcome
begin_of s k op w =
    guarded s k
    (cond (leb (4 * s.shape.m) w.0) (refuse NoSuchWord s)
    (cond (admits_of s.shape.c op w (lane_at s k.0)) (begin_admitted s k op w) (refuse LaneBusy s)))
