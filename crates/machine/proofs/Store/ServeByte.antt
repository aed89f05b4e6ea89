-- A serve goes by its byte: what the byte's bits say is what the lanes' down queues gain and what the service awaits. Assumes nothing.
use Prim.Native.Nat.{ℕ, ◌+◌, ◌<◌}
use mathlib.Core.Logic.{◌≢◌}
use mathlib.Core.Path.{◌≡◌, refl, sym, ap, ◌∙◌}
use mathlib.Core.Bool.{Bool, true, false, cond}
use mathlib.Core.List.{List, [], ◌∷◌, ◌++◌, append_cancel_left, head-eq_of_cons-eq}
use lib.ListN.{length, set, length-append}
use lib.Seq.{get_or-set_same, get_or-set_other}
use lib.Dec.{eqb}
use borrow.Author.Tests.{eqb-true}
use native.Mathlib.Omega.{arith}
use Rattle.words.specs.declared.LaneNo.{LaneNo}
use Rattle.words.specs.declared.BlockNo.{BlockNo}
use Rattle.words.specs.Units.{block_of}
use Rattle.words.proofs.Folds.{pick}
use Rattle.queues.specs.Queues.{capacity}
use Rattle.queues.specs.Queues.{DownQueue}
use Rattle.queues.specs.Messages.{bare_message}
use Rattle.lanes.specs.declared.Lane.{Lane}
use Rattle.lanes.specs.declared.Command.{Command}
use Rattle.lanes.specs.declared.Operation.{Operation}
use Rattle.lanes.specs.declared.Waiting.TheVariants.{Unserved, Served}
use Rattle.lanes.specs.Lanes.{with_waiting}
use Rattle.answers.specs.declared.Answer.TheVariants.{Step}
use Rattle.answers.specs.Refusals.{refused_of}
use Rattle.store.specs.declared.Store.{Store}
use Rattle.store.specs.declared.Block.{Block}
use Rattle.store.specs.declared.Service.{Service}
use Rattle.store.specs.declared.Outcome.{Outcome}
use Rattle.store.specs.Control.{with_service}
use Rattle.store.proofs.Services.{not_busy_for, opened_own}
use Rattle.store.specs.Stores.{lane_at, block_at}
use Rattle.store.specs.LaneSets.{nobody, only, goes_to, count_of}
use Rattle.machine.specs.Machine.Parts.{Move}
use Rattle.machine.specs.Machine.Change.{some_full, moved_store}
use Rattle.machine.specs.Machine.Serve.{ordered, order_of, grant_of, close, service_for, serve_move}
use Rattle.machine.specs.Machine.Settle.{is_order}
use Rattle.machine.specs.Machine.Sized.{Sized}
use Rattle.machine.specs.Machine.LaneBytes.{bit_of, bits_in, lanes_of, orders_byte}
use Rattle.machine.specs.Claims.ServeByte.{downs_at, Gains, GoesByByte, ServeByByte}
use Rattle.machine.proofs.Laws.Tests.{on}
use Rattle.machine.proofs.Laws.LaneBytes.{byte_fits, byte_bit, byte_count, byte_lanes}
use Rattle.machine.proofs.Bounds.KeepsLane.{clash}
use Rattle.machine.proofs.Rules.Rules.{ServeReady, served, serve_rule, move_rule}
use Rattle.machine.proofs.Rules.RulesMemory.{serve_move_rule}
use Rattle.machine.proofs.Protocol.Directories.{nobody_none, order_self}
use Rattle.machine.proofs.Protocol.MemoryClose.{grant_no_order}
use Rattle.machine.proofs.Protocol.MemoryServe.{order_order}
use Rattle.machine.proofs.Projection.Queued.{queued_downs, push_downs}
use Rattle.machine.proofs.Projection.Project.{Moves, goes_below, lane_sent, was, was_sized, was_room}
use Rattle.machine.proofs.Store.ServeBounds.{ordered_length, served_lane, served_entry, served_to, served_sized, served_room, served_none}
use Rattle.machine.proofs.Store.ConsistentServe.{goes_none, grant_block, only_length}
use Rattle.std.specs.Prelude.{Ok}

-- ---- the byte of a serve's orders says what `ordered` says
module _ (b : Block) (k : LaneNo) (x : Command) where
  pub orders_bit : (j : ℕ) → j < 8 → bit_of (orders_byte b k x) j ≡ goes_to (ordered b k x) j
  unfolding orders_byte
  orders_bit j h = byte_bit (ordered b k x) j h

  pub orders_count : bits_in (orders_byte b k x) ≡ count_of (ordered b k x)
  unfolding orders_byte
  orders_count = byte_count (ordered b k x)

  pub orders_lanes : length b.present ≡ 8 → lanes_of (orders_byte b k x) ≡ ordered b k x
  unfolding orders_byte
  orders_lanes e = byte_lanes (ordered b k x) (ordered_length b k x e)

-- ---- lists with one message more
-- no list is itself with one more
not_itself : {A : Type 0} (l : List A) (x : A) → l ≡ l ++ (x ∷ []) → ⊥
not_itself l x e = let p : length l ≡ length l + 1 = ap length e ∙ length-append l (x ∷ []) in absurd (omega arith)

-- two lists with the same one more
last_same : {A : Type 0} (l : List A) (x y : A) → l ++ (x ∷ []) ≡ l ++ (y ∷ []) → x ≡ y
last_same l x y e = head-eq_of_cons-eq (append_cancel_left l (x ∷ []) (y ∷ []) e)

-- ---- the lane that a grant goes to
only_self : (k : LaneNo) → k.0 < 8 → goes_to (only k) k.0 ≡ true
only_self k h = get_or-set_same nobody k.0 true false h

pub only_other : (k : LaneNo) (j : ℕ) → j ≢ k.0 → goes_to (only k) j ≡ false
only_other k j n = get_or-set_other nobody k.0 j true false n ∙ nobody_none j

-- ---- the down queues after memory's part of a call that leaves its own lane's alone
module _ (s : Store) (k : LaneNo) (a : BlockNo) (v : Move) (m : Moves s k a v) (same : v.lane.downs ≡ (lane_at s k.0).downs) where
  was_downs : (j : ℕ) → (was s k a v m j).downs ≡ (lane_at s j).downs
  unfolding was
  was_downs j = pick (λ (l : Lane). l.downs ≡ (lane_at s j).downs) (eqb j k.0) v.lane (lane_at s j) (λ e. rw (eqb-true j k.0 e) same) (λ _. refl)

  moved_downs : (j : ℕ) → downs_at (moved_store s k a v) j ≡ cond (goes_to v.to j) (downs_at s j ++ (v.message ∷ [])) (downs_at s j)
  unfolding was
  moved_downs j =
      ap (λ (l : Lane). queued_downs l.downs) (lane_sent s k.0 v.lane v.to v.message j m.to m.sized.lanes m.lane_below) ∙
      on (goes_to v.to j)
      (λ e. rw e (push_downs (was s k a v m j).downs v.message (was_sized s k a v m j (goes_below v.to j m.to e)).downs (was_room s k a v m j e) ∙
      ap (λ (q : DownQueue). queued_downs q ++ (v.message ∷ [])) (was_downs j)))
      (λ e. rw e (ap queued_downs (was_downs j)))

  -- .. of a lane that it goes to, and of another
  pub sent_downs : (j : ℕ) → goes_to v.to j ≡ true → downs_at (moved_store s k a v) j ≡ downs_at s j ++ (v.message ∷ [])
  sent_downs j e = moved_downs j ∙ rw e refl

  pub kept_downs : (j : ℕ) → goes_to v.to j ≡ false → downs_at (moved_store s k a v) j ≡ downs_at s j
  kept_downs j e = moved_downs j ∙ rw e refl

  -- a lane whose queue gained an order: the message went to it, and is that order
  pub gained : (j : ℕ) → Gains true s (moved_store s k a v) j → (goes_to v.to j ≡ true) × (is_order v.message.kind ≡ true)
  gained j g =
      on (goes_to v.to j)
      (λ e. (e, rw (last_same (downs_at s j) v.message g.message (sym (sent_downs j e) ∙ g.behind)) g.kind))
      (λ e. absurd (not_itself (downs_at s j) g.message (sym (kept_downs j e) ∙ g.behind)))

-- ---- serve
module _ (s : Store) (k : LaneNo) (o : Operation) (z : Sized s) (r : ServeReady s k o) where
  -- the operation's block, its entry, the lanes that orders go to, the service, the byte
  abbrev a : BlockNo
  a = block_of o.word

  abbrev b : Block
  b = block_at s a.0

  abbrev to : List Bool
  to = ordered b k o.command

  abbrev v : Service
  v = service_for k o b (count_of to)

  abbrev x : ℕ
  x = orders_byte b k o.command

  abbrev t : Lane
  t = with_waiting (Served o) (lane_at s k.0)

  lane_below : k.0 < 8
  lane_below = served_lane s k o r.sound z r.lane r.unserved

  to_length : length to ≡ 8
  to_length = served_to s k o r.sound z r.lane r.unserved

  bit : (j : ℕ) → j < 8 → bit_of x j ≡ goes_to to j
  bit j h = orders_bit b k o.command j h

  bits : bits_in x ≡ count_of to
  bits = orders_count b k o.command

  fits : x < 256
  unfolding orders_byte
  fits = byte_fits to

  -- what memory's part has to show, by where its message goes and what it is
  shows : (y : Move) → y.lane ≡ t → length y.to ≡ 8 → y.message.block ≡ a → some_full capacity y.to (set s.lanes k.0 y.lane) ≡ false → Moves s k a y
  shows y p n q space = record {
    sized = z;
    lane_below = lane_below;
    block_below = served_entry s k o r.sound z r.lane r.unserved;
    to = n;
    lane = rw p (served_sized s k o r.sound z r.lane r.unserved);
    space = space;
    about = λ _ _. ap (λ (i : BlockNo). i.0) q;
  }

  -- orders go out
  abbrev sending : Move
  sending = record { answer = Ok Step; lane = t; block = b; control = with_service v s.control; to = to; message = bare_message (order_of o.command) a }

  sends : count_of to ≢ 0 → some_full capacity to (set s.lanes k.0 t) ≡ false → GoesByByte s (moved_store s k a sending) k a x
  sends some space = record {
    fits = fits;
    set = λ j h e. (record { message = sending.message; behind = sent_downs s k a sending m refl j (sym (bit j h) ∙ e); kind = order_order o.command }, refl);
    gains = λ j h g. bit j h ∙ (gained s k a sending m refl j g).0;
    others = λ j h e n. kept j (sym (bit j h) ∙ e);
    awaits = λ n. (v, opened_own s.control v z.slots (served_room s a r.sound r.free) (not_busy_for s.shape.limit s.control a r.free).0, refl, sym bits, kept k.0 (order_self b k o.command));
    closed = λ e. absurd (some (sym bits ∙ e));
  }
    where
      m : Moves s k a sending
      m = shows sending refl to_length refl space

      kept : (j : ℕ) → goes_to to j ≡ false → downs_at (moved_store s k a sending) j ≡ downs_at s j
      kept = kept_downs s k a sending m refl

  -- the service closes at once
  abbrev closing : Move
  closing = close v t b s.control

  closes : count_of to ≡ 0 → some_full capacity (only k) (set s.lanes k.0 t) ≡ false → GoesByByte s (moved_store s k a closing) k a x
  unfolding close
  closes none space = record {
    fits = fits;
    set = λ j h e. clash (cc (goes_none to to_length none j, bit j h));
    gains = λ j h g. clash (cc (grant_no_order b v, (gained s k a closing m refl j g).1));
    others = λ j h e n. kept_downs s k a closing m refl j (only_other k j n);
    awaits = λ n. absurd (n (bits ∙ none));
    closed = λ e. (
      served_none s a r.free,
      record { message = grant_of b v; behind = sent_downs s k a closing m refl k.0 (only_self k lane_below); kind = grant_no_order b v },
      grant_block b v,
    );
  }
    where
      m : Moves s k a closing
      m = shows closing refl (only_length k) (grant_block b v) space

  -- memory's part of it, and that put back
  abbrev part : Move
  part = serve_move k o (lane_at s k.0) b s.control

  by_part : some_full capacity part.to (set s.lanes k.0 part.lane) ≡ false → GoesByByte s (moved_store s k a part) k a x
  unfolding close
  by_part =
      serve_move_rule (λ (y : Move). some_full capacity y.to (set s.lanes k.0 y.lane) ≡ false → GoesByByte s (moved_store s k a y) k a x)
      k o (lane_at s k.0) b s.control closes sends

  by_byte : refused_of (served s k o).answer ≡ false → GoesByByte s (served s k o).store k a x
  by_byte = move_rule (λ (y : Outcome). refused_of y.answer ≡ false → GoesByByte s y.store k a x) s k a part (λ n q. clash (cc)) (λ _ space _. by_part space)

pub serve_by_byte : ServeByByte
serve_by_byte s k z =
    serve_rule (λ (w : Outcome). refused_of w.answer ≡ false → (o : Operation) × ((lane_at s k.0).waiting ≡ Unserved o) × GoesByByte s w.store k (block_of o.word) (orders_byte (block_at s (block_of o.word).0) k o.command))
    s k (λ n q. clash (cc)) (λ o r q. (o, r.unserved, by_byte s k o z r q))
