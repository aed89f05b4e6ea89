-- 01, number 14 (spoilt), with 02, W1 and W6: the store breaks its own bounds. Looked at are the n lanes, their c lines, the m blocks, the messages
-- in the queues, the eight slots and the count of completions; what stands past them in the arrays is no part of the store. Assumes nothing.
use Rattle.std.specs.Prelude.{ℕ, Bool, false, ◌||◌, ◌&&◌, List, [], ◌∷◌, leb, ltb, eqb, get_or}
use Rattle.words.specs.declared.Line.{Line}
use Rattle.words.specs.declared.LineNo.{LineNo}
use Rattle.words.specs.declared.BlockNo.{BlockNo}
use Rattle.words.specs.declared.Shape.{Shape}
use Rattle.words.specs.Units.{block_of}
use Rattle.words.specs.Lines.{no_line}
use Rattle.words.specs.Folds.{any_to, any_of}
use Rattle.queues.specs.declared.Message.{Message}
use Rattle.queues.specs.declared.Queue.{Queue}
use Rattle.queues.specs.Queues.{ReturnQueue, DownQueue, capacity, no_return, no_down}
use Rattle.lanes.specs.declared.Lane.{Lane}
use Rattle.lanes.specs.declared.Waiting.{Waiting}
use Rattle.lanes.specs.declared.Waiting.TheVariants.{Idle, Unserved, Served}
use Rattle.lanes.specs.UseOrder.{place_at}
use Rattle.store.specs.declared.Store.{Store}
use Rattle.store.specs.declared.Block.{Block}
use Rattle.store.specs.declared.Control.{Control}
use Rattle.store.specs.declared.Service.{Service}
use Rattle.store.specs.Control.{slot_count, slot_at, is_for, open_services, is_busy, service_in}
use Rattle.store.specs.Opening.{bad_shape, bad_limit}
use Rattle.store.specs.Stores.{lane_at, block_at}
use Rattle.machine.specs.Machine.Begun.{overrun_of}
use Rattle.store.specs.LaneSets.{goes_to}

-- a block number out of range
abbrev pub bad_block : ℕ → BlockNo → Bool
bad_block m a = leb m a.0

-- .. in a valid line
abbrev pub bad_line : ℕ → Line → Bool
bad_line m l = l.valid && bad_block m l.block

abbrev pub bad_lines : ℕ → ℕ → List Line → Bool
bad_lines c m ls = any_to (λ i. bad_line m (get_or ls i no_line)) c

-- .. in the message at a place of a queue that has len messages
abbrev pub bad_place : ℕ → ℕ → ℕ → BlockNo → Bool
bad_place m len i a = ltb i len && bad_block m a

-- a queue length above its places, or a block number out of range in a queued message; the first argument is what a read past the places gives
abbrev pub bad_queue : {K : Type 0} → Message K → ℕ → ℕ → Queue K → Bool
bad_queue nothing places m q = ltb places q.len || any_to (λ i. bad_place m q.len i (get_or q.at i nothing).block) places

-- .. of either direction
abbrev pub bad_returns : ℕ → ℕ → ReturnQueue → Bool
bad_returns places m q = bad_queue no_return places m q

abbrev pub bad_downs : ℕ → ℕ → DownQueue → Bool
bad_downs places m q = bad_queue no_down places m q

-- a word number out of range in a waiting operation
abbrev pub bad_waiting : ℕ → Waiting → Bool
bad_waiting m Idle = false
bad_waiting m (Unserved o) = bad_block m (block_of o.word)
bad_waiting m (Served o) = bad_block m (block_of o.word)

-- place k of the use order names no line, or one that an earlier place names
abbrev pub bad_use : ℕ → List LineNo → ℕ → Bool
bad_use c o k = leb c (place_at o k).0 || any_to (λ j. eqb (place_at o j).0 (place_at o k).0) k

-- a use order not naming each of the c lines once
abbrev pub bad_order : ℕ → List LineNo → Bool
bad_order c o = any_to (bad_use c o) c

-- a lane
unfoldable pub bad_lane : ℕ → ℕ → ℕ → Lane → Bool
bad_lane places c m l =
    any_of
    (bad_lines c m l.lines ∷
    bad_order c l.order ∷
    bad_returns places m l.returns ∷
    bad_downs places m l.downs ∷
    bad_waiting m l.waiting ∷
    [])

-- PRESENT for lane n or above
abbrev pub bad_flag : ℕ → Block → ℕ → Bool
bad_flag n b k = leb n k && goes_to b.present k

unfoldable pub bad_flags : ℕ → Block → Bool
bad_flags n b = any_to (bad_flag n b) 8

-- a lane or block number out of range in a service, or awaited above n - 1
abbrev pub bad_service : ℕ → ℕ → Service → Bool
bad_service n m v = leb n v.lane.0 || (bad_block m v.block || leb n v.awaited)

-- .. in slot i, or an earlier slot has a service of its block
abbrev pub bad_slot : ℕ → ℕ → Control → ℕ → Bool
bad_slot n m x i =
    is_busy (slot_at x i) && (bad_service n m (service_in (slot_at x i)) || any_to (λ j. is_for (service_in (slot_at x i)).block (slot_at x j)) i)

-- 02, W6: services exceed L, two have one block; each of them as above
unfoldable pub bad_control : Shape → Control → Bool
bad_control shape x = ltb shape.limit (open_services x) || any_to (bad_slot shape.n shape.m x) slot_count

-- 14
unfoldable pub corrupt_of : Store → Bool
corrupt_of s =
    any_of
    (bad_shape s.shape ∷
    bad_limit s.shape ∷
    bad_control s.shape s.control ∷
    any_to (λ k. bad_lane capacity s.shape.c s.shape.m (lane_at s k)) s.shape.n ∷
    any_to (λ a. bad_flags s.shape.n (block_at s a)) s.shape.m ∷
    overrun_of s ∷
    [])
