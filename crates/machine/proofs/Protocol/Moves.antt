-- What a call does to a block, as the block sees it: moves of one lane, and moves of memory. Assumes nothing.
use Prim.Native.Nat.{ℕ}
use mathlib.Core.Bool.{Bool, cond}
use mathlib.Core.List.{List, [], ◌∷◌, ◌++◌}
use Rattle.words.specs.declared.LaneNo.{LaneNo}
use Rattle.words.specs.declared.BlockNo.{BlockNo}
use Rattle.words.specs.declared.WordNo.{WordNo}
use Rattle.words.specs.declared.Op.{Op}
use Rattle.words.specs.Units.{block_of}
use Rattle.words.specs.Operations.{is_load}
use Rattle.queues.specs.Messages.{ReturnMessage}
use Rattle.queues.specs.declared.ReturnKind.TheVariants.{Eject, WriteEject, Updated, Purged, PurgedWords, Gone}
use Rattle.queues.specs.Messages.{DownMessage}
use Rattle.queues.specs.Messages.{bare_message, words_message}
use Rattle.lanes.specs.declared.Operation.{Operation}
use Rattle.lanes.specs.declared.Waiting.{Waiting}
use Rattle.lanes.specs.declared.Waiting.TheVariants.{Idle, Served}
use Rattle.store.specs.declared.Service.{Service}
use Rattle.store.specs.LaneSets.{only, goes_to, count_of}
use Rattle.machine.specs.Machine.Serve.{order_of, ordered, closed_block, grant_of, service_for}
use Rattle.machine.specs.Machine.Return.{taken_by}
use Rattle.machine.proofs.List.Owes.{upd}
use Rattle.machine.proofs.Protocol.BlockState.{Status, Invalid, Shared, Modified, dirty, Seen, BlockState, words_done}
use Rattle.std.specs.Prelude.{Option, Some, None}

-- another lane k
abbrev pub put_lane : ℕ → Seen → BlockState → BlockState
put_lane k l b = record { lane = upd b.lane k l; block = b.block; service = b.service }

-- hit: the operation is done on the line
abbrev pub hit_seen : Op → WordNo → Seen → Seen
hit_seen op w l = record { line = l.line; words = words_done op w l.words; returns = l.returns; downs = l.downs; waiting = l.waiting }

-- wait: the operation waits
abbrev pub wait_seen : Waiting → Seen → Seen
wait_seen x l = record { line = l.line; words = l.words; returns = l.returns; downs = l.downs; waiting = x }

-- eviction: the line is given up
abbrev pub ejection : BlockNo → Seen → ReturnMessage
ejection a l = cond (dirty l.line) (words_message WriteEject a l.words) (bare_message Eject a)

abbrev pub evict_seen : BlockNo → Seen → Seen
evict_seen a l = record { line = Invalid; words = []; returns = l.returns ++ (ejection a l ∷ []); downs = l.downs; waiting = l.waiting }

-- an order taken: the line and its words after it, the answer, the down messages left
abbrev pub answer_seen : Status → List ℕ → ReturnMessage → List DownMessage → Seen → Seen
answer_seen x ws m rest l = record { line = x; words = ws; returns = l.returns ++ (m ∷ []); downs = rest; waiting = l.waiting }

abbrev pub update_seen : Status → BlockNo → List DownMessage → Seen → Seen
update_seen Invalid a rest l = answer_seen Invalid l.words (bare_message Gone a) rest l
update_seen Shared a rest l = answer_seen Shared l.words (words_message Updated a l.words) rest l
update_seen Modified a rest l = answer_seen Shared l.words (words_message Updated a l.words) rest l

abbrev pub purge_seen : Status → BlockNo → List DownMessage → Seen → Seen
purge_seen Invalid a rest l = answer_seen Invalid l.words (bare_message Gone a) rest l
purge_seen Shared a rest l = answer_seen Invalid [] (bare_message Purged a) rest l
purge_seen Modified a rest l = answer_seen Invalid [] (words_message PurgedWords a l.words) rest l

-- a grant taken, with the words that the line then has before the operation: the operation completes
abbrev pub grant_seen : Operation → List ℕ → List DownMessage → Seen → Seen
grant_seen o ws rest l = record {
  line = cond (is_load o.op) Shared Modified;
  words = words_done o.op o.word ws;
  returns = l.returns;
  downs = rest;
  waiting = Idle;
}

-- a message joins the down queue of each lane that it goes to
abbrev pub post_seen : DownMessage → Seen → Seen
post_seen x l = record { line = l.line; words = l.words; returns = l.returns; downs = l.downs ++ (x ∷ []); waiting = l.waiting }

abbrev pub send_all : List Bool → DownMessage → (ℕ → Seen) → ℕ → Seen
send_all to x lane j = cond (goes_to to j) (post_seen x (lane j)) (lane j)

-- serve: the operation is served, the orders are sent, the service is open, be it that it awaits none
abbrev pub serve_state : LaneNo → Operation → BlockState → BlockState
serve_state k o b = record {
  lane = send_all (ordered b.block k o.command) (bare_message (order_of o.command) (block_of o.word))
      (upd b.lane k.0 (wait_seen (Served o) (b.lane k.0)));
  block = b.block;
  service = Some (service_for k o b.block (count_of (ordered b.block k o.command)));
}

-- close: the flags, the grant; no service any more
abbrev pub close_state : Service → BlockState → BlockState
close_state s b = record {
  lane = send_all (only s.lane) (grant_of b.block s) b.lane;
  block = closed_block s.command b.block s.lane;
  service = None;
}

-- return: the head leaves the queue and memory takes it; x is the service after it
abbrev pub take_seen : List ReturnMessage → Seen → Seen
take_seen rest l = record { line = l.line; words = l.words; returns = rest; downs = l.downs; waiting = l.waiting }

abbrev pub return_state : LaneNo → ReturnMessage → List ReturnMessage → Option Service → BlockState → BlockState
return_state k m rest x b = record {
  lane = upd b.lane k.0 (take_seen rest (b.lane k.0));
  block = taken_by m.kind m.words k b.block;
  service = x;
}
