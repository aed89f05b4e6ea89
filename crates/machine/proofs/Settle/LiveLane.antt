-- What a lane's part of a call leaves of `LaneLive`: begin and deliver keep it. Assumes nothing.
use Prim.Native.Nat.{ℕ, ◌+◌, ◌<◌, ◌≤◌}
use mathlib.Core.Path.{◌≡◌, refl, ap, sym, ◌∙◌}
use mathlib.Core.Bool.{Bool, true, false, cond, not, ◌||◌, true≢false}
use mathlib.Core.List.{List, [], ◌∷◌, ◌++◌}
use lib.Dec.{eqb}
use lib.ListN.{get_or, set}
use lib.Seq.{get_or-set_same}
use borrow.Author.Tests.{eq-eqb}
use native.Mathlib.Omega.{arith}
use Rattle.words.specs.declared.LineNo.{LineNo}
use Rattle.words.specs.declared.WordNo.{WordNo}
use Rattle.words.specs.declared.BlockNo.{BlockNo}
use Rattle.words.specs.declared.Line.{Line}
use Rattle.words.specs.declared.Op.{Op}
use Rattle.words.specs.Units.{block_of}
use Rattle.words.specs.Lines.{no_line, holds_of, invalid}
use Rattle.words.specs.Folds.{any_to}
use Rattle.words.specs.Operations.{is_load, perform_of}
use Rattle.words.proofs.Folds.{by_cond, any_true, any_false, any_never, or_left, pick}
use Rattle.queues.specs.Messages.{ReturnMessage}
use Rattle.queues.specs.Messages.{DownMessage}
use Rattle.queues.specs.declared.DownKind.{DownKind}
use Rattle.queues.specs.declared.DownKind.TheVariants.{Update, Purge, Grant, BareGrant}
use Rattle.queues.specs.Queues.{DownQueue, full_at}
use Rattle.queues.specs.Queues.{capacity, empty_at, head_down, after_take, after_push, full_at}
use Rattle.lanes.specs.declared.Lane.{Lane}
use Rattle.lanes.specs.declared.Command.{Command}
use Rattle.lanes.specs.declared.Command.TheVariants.{Exclude}
use Rattle.lanes.specs.declared.Operation.{Operation}
use Rattle.lanes.specs.declared.Waiting.{Waiting}
use Rattle.lanes.specs.declared.Waiting.TheVariants.{Idle, Unserved, Served}
use Rattle.lanes.specs.Search.{line_at, search_of, vacant_of}
use Rattle.lanes.specs.UseOrder.{Insertion, place_at, used_of}
use Rattle.lanes.specs.Waits.{unserved_of}
use Rattle.lanes.specs.Lanes.{with_downs, with_lines}
use Rattle.answers.specs.declared.Refusal.{Refusal}
use Rattle.answers.specs.declared.Refusal.TheVariants.{NothingPending, QueueFull, Unexpected}
use Rattle.machine.specs.Machine.Parts.{LaneStep}
use Rattle.machine.specs.Machine.Change.{refuse_lane, posted}
use Rattle.machine.specs.Machine.Begin.{complete_with, waits, hit, read_of, eject_of, evict, miss_with, miss, begin_at, begin_lane}
use Rattle.machine.specs.Machine.Deliver.{waits_no_more, reply, shared, update_at, purged_of, purge_at, fill_at, grant_at, bare_at, served_on, grant_to, bare_to, deliver_kind, or_as_before, deliver_lane}
use Rattle.machine.specs.Machine.Return.{is_answer}
use Rattle.machine.specs.Machine.Sized.{LaneSized}
use Rattle.machine.proofs.Laws.Tests.{on}
use Rattle.machine.proofs.Laws.Sets.{set_cases}
use Rattle.machine.proofs.Projection.Queued.{queued_returns, push_returns}
use Rattle.machine.proofs.Laws.Lines.{holds_valid}
use Rattle.machine.proofs.Projection.Searches.{found_holds, vacant_invalid}
use Rattle.machine.proofs.Projection.SeenBegin.{evicted, push_room}
use Rattle.machine.proofs.Rules.Rules.{Admitted}
use Rattle.machine.proofs.Settle.Live.{eject_count, has_room, LaneLive}
use Rattle.std.specs.Prelude.{Option, Some, None, Result, Ok, Err}

-- a grant of block a may go to the line: it is not valid, or holds the block
abbrev takes : BlockNo → Line → Bool
takes a x = not x.valid || holds_of x a

-- .. and to one of the first c lines
abbrev pub room_in : ℕ → List Line → BlockNo → Bool
room_in c ls a = any_to (λ i. takes a (get_or ls i no_line)) c

-- .. to one that is not valid, and to one that holds it
invalid_takes : (a : BlockNo) (x : Line) → x.valid ≡ false → takes a x ≡ true
invalid_takes a x e = rw e

holds_takes : (a : BlockNo) (x : Line) → holds_of x a ≡ true → takes a x ≡ true
holds_takes a x e = let v = holds_valid x a e in rw v.0 (eq-eqb _ _ v.1)

-- what passes one test passes the other, so some number does
any_map : (p q : ℕ → Bool) (n : ℕ) → ((k : ℕ) → p k ≡ true → q k ≡ true) → any_to p n ≡ true → any_to q n ≡ true
any_map p q n h e =
    on (any_to q n) (λ t. t)
    (λ f. absurd (true≢false (sym e ∙ any_never p n (λ k l. on (p k) (λ t. absurd (true≢false (sym (h k t) ∙ any_false q n k f l))) (λ g. g)))))

-- a line that takes what the one before it took leaves room
room_set : (c : ℕ) (ls : List Line) (i : ℕ) (y : Line) (a : BlockNo) → (takes a (get_or ls i no_line) ≡ true → takes a y ≡ true) → room_in c ls a ≡ true → room_in c (set ls i y) a ≡ true
room_set c ls i y a h =
    any_map (λ j. takes a (get_or ls j no_line)) (λ j. takes a (get_or (set ls i y) j no_line)) c
    (λ j t. set_cases (λ (x : Line). takes a x ≡ true) ls i j y no_line (λ e. h (rw e at t)) t)

-- room for what waits
room_waiting : (c : ℕ) (l l' : Lane) (w : Waiting) → ((a : BlockNo) → room_in c l.lines a ≡ true → room_in c l'.lines a ≡ true) → has_room c l w ≡ true → has_room c l' w ≡ true
room_waiting c l l' Idle h e = refl
room_waiting c l l' (Unserved o) h e = h (block_of o.word) e
room_waiting c l l' (Served o) h e = h (block_of o.word) e

-- what a message that joins the return queue adds to the ejections
ejects_join : (q : List ReturnMessage) (m : ReturnMessage) → eject_count (q ++ (m ∷ [])) ≡ eject_count q + cond (is_answer m.kind) 0 1
ejects_join [] m = omega arith
ejects_join (n ∷ q) m = let h = ejects_join q m in omega arith

-- .. an answer nothing, any message at most one
push_answer : (l : Lane) (m : ReturnMessage) → LaneSized l → l.returns.len < capacity → is_answer m.kind ≡ true → eject_count (queued_returns (after_push capacity l.returns m)) ≡ eject_count (queued_returns l.returns)
push_answer l m z h e =
    ap eject_count (push_returns l.returns m z.returns h) ∙ ejects_join (queued_returns l.returns) m ∙
    rw e (omega arith)

push_most : (l : Lane) (m : ReturnMessage) → LaneSized l → l.returns.len < capacity → eject_count (queued_returns l.returns) ≤ 0 → eject_count (queued_returns (after_push capacity l.returns m)) ≤ 1
push_most l m z h e = rw (push_returns l.returns m z.returns h, ejects_join (queued_returns l.returns) m) (by_cond (λ n. eject_count (queued_returns l.returns) + n ≤ 1) (is_answer m.kind) 0 1 (omega arith) (omega arith))

-- a lane that waits as before, with no more ejections and no Less room
pub stays_live : (c : ℕ) (l l' : Lane) → l'.waiting ≡ l.waiting → eject_count (queued_returns l'.returns) ≤ eject_count (queued_returns l.returns) →
    ((a : BlockNo) → room_in c l.lines a ≡ true → room_in c l'.lines a ≡ true) → LaneLive c l → LaneLive c l'
stays_live c l l' e q r h =
    record {
      ejects = rw e (let b = h.ejects in omega arith);
      room = ap (has_room c l') e ∙ room_waiting c l l' l.waiting r h.room;
    }

-- a message joins the down queue
pub posted_live : (c : ℕ) (m : DownMessage) (l : Lane) → LaneLive c l → LaneLive c (posted capacity m l)
posted_live c m l h = stays_live c l (posted capacity m l) refl (omega arith) (λ a e. e) h

-- a lane that does not wait unserved has no ejection under way
pub none_ejected : (c : ℕ) (l : Lane) → unserved_of l.waiting ≡ false → LaneLive c l → eject_count (queued_returns l.returns) ≤ 0
none_ejected c l e h = rw e at h.ejects

module _ (c : ℕ) (op : Op) (w : WordNo) (l : Lane) (z : LaneSized l) (b : c ≤ 8) (live : LaneLive c l) (admits : Admitted c op w l) where
  -- a lane that waits for nothing has ejected nothing yet
  none : l.waiting ≡ Idle → eject_count (queued_returns l.returns) ≤ 0
  none idle = none_ejected c l (ap unserved_of idle) live

  -- the lane waits, and has room
  waits_live : (x : Command) (l' : Lane) → eject_count (queued_returns l'.returns) ≤ 1 → room_in c l'.lines (block_of w) ≡ true → LaneLive c (waits x op w l').lane
  waits_live x l' e r = record { ejects = e; room = r }

  -- an operation that hits leaves its line as valid as it was, and the lane's room with it
  complete_room : (o : List LineNo) (i : LineNo) (a : BlockNo) → room_in c l.lines a ≡ true → room_in c (complete_with o i (line_at l i) op w l).lane.lines a ≡ true
  unfolding complete_with
  complete_room o i a = room_set c l.lines i.0 (perform_of (line_at l i) op w).line a (λ e. e)

  -- a hit completes, and what waits still has its room; or it waits for the line that it has
  hit_live : (i : LineNo) → search_of l c (block_of w) ≡ Some i → LaneLive c (hit c i op w l).lane
  unfolding hit complete_with
  hit_live i e =
      let f = found_holds c l (block_of w) i e in
      pick (λ (r : LaneStep). LaneLive c r.lane) (is_load op || (line_at l i).private) _ (waits Exclude op w l)
      (λ _. stays_live c l _ refl (omega arith) (complete_room (used_of c i l.order) i) live)
      (λ t.
      let n = none (admits.write (or_left (is_load op) (line_at l i).private t)) in
      waits_live Exclude l (omega arith) (any_true _ c i.0 (holds_takes (block_of w) (line_at l i) f.1) f.0))

  -- the line given up is free
  evict_live : l.waiting ≡ Idle → (i : LineNo) → i.0 < c → LaneLive c (evict capacity i op w l).lane
  unfolding evict
  evict_live idle i h =
      let n = z.lines in
      pick (λ (r : LaneStep). LaneLive c r.lane) (full_at capacity l.returns.len) (refuse_lane QueueFull l) (waits (read_of op) op w (evicted i l)) (λ _. live)
      (λ t. waits_live (read_of op) (evicted i l) (push_most l (eject_of (line_at l i)) z (push_room l.returns (eject_of (line_at l i)) t) (none idle))
      (any_true _ c i.0 (rw (get_or-set_same l.lines i.0 (invalid (line_at l i)) no_line (omega arith))) h))

  -- a miss with a line that is not valid, or with none
  miss_live : l.waiting ≡ Idle → (place_at l.order 0).0 < c → (f : Option LineNo) → vacant_of l c ≡ f → LaneLive c (miss_with capacity f op w l).lane
  miss_live idle h (Some i) e =
      let f = vacant_invalid c l i e in
      let n = none idle in
      waits_live (read_of op) l (omega arith) (any_true _ c i.0 (invalid_takes (block_of w) (line_at l i) f.1) f.0)
  miss_live idle h None e = evict_live idle (place_at l.order 0) h

  -- by what Search finds
  at_live : (place_at l.order 0).0 < c → (f : Option LineNo) → search_of l c (block_of w) ≡ f → LaneLive c (begin_at capacity f c op w l).lane
  unfolding miss
  at_live h (Some i) e = hit_live i e
  at_live h None e = miss_live (admits.miss e) h (vacant_of l c) refl

-- the lane's part of begin
pub begin_lane_live : (c : ℕ) (op : Op) (w : WordNo) (l : Lane) → LaneSized l → c ≤ 8 → (place_at l.order 0).0 < c → Admitted c op w l → LaneLive c l → LaneLive c (begin_lane capacity c op w l).lane
unfolding begin_lane
begin_lane_live c op w l z b h admits live = at_live c op w l z b live admits h (search_of l c (block_of w)) refl

module _ (ins : Insertion) (c : ℕ) (l : Lane) (z : LaneSized l) (live : LaneLive c l) (q : DownQueue) where
  -- an answer is sent from a lane whose lines leave no Less room
  reply_live : (ls : List Line) (m : ReturnMessage) → is_answer m.kind ≡ true → ((a : BlockNo) → room_in c l.lines a ≡ true → room_in c ls a ≡ true) →
      LaneLive c (or_as_before l (reply capacity m (with_downs q (with_lines ls l)))).lane
  unfolding reply
  reply_live ls m e r =
      pick (λ (x : LaneStep). LaneLive c (or_as_before l x).lane) (full_at capacity l.returns.len) _ _ (λ _. live)
      (λ t. let p = push_answer l m z (push_room l.returns m t) e in stays_live c l _ refl (omega arith) r live)

  -- the orders
  update_live : (a : BlockNo) (f : Option LineNo) → LaneLive c (or_as_before l (update_at capacity f a (with_downs q l))).lane
  update_live a (Some i) = reply_live _ _ refl (λ d. room_set c l.lines i.0 (shared (line_at l i)) d (λ e. e))
  update_live a None = reply_live l.lines _ refl (λ d e. e)

  purge_live : (a : BlockNo) (f : Option LineNo) → LaneLive c (or_as_before l (purge_at capacity f a (with_downs q l))).lane
  purge_live a (Some i) =
      reply_live _ (purged_of a (line_at l i)) (by_cond (λ (m : ReturnMessage). is_answer m.kind ≡ true) (line_at l i).private _ _ refl refl)
      (λ d. room_set c l.lines i.0 (invalid (line_at l i)) d (λ e. refl))
  purge_live a None = reply_live l.lines _ refl (λ d e. e)

  -- an operation that completes waits no more
  module _ (none : eject_count (queued_returns l.returns) ≤ 0) where
    complete_live : (o : List LineNo) (i : LineNo) (x : Line) (op : Op) (w : WordNo) → LaneLive c (or_as_before l (complete_with o i x op w (waits_no_more (with_downs q l)))).lane
    unfolding complete_with
    complete_live o i x op w = record { ejects = none; room = refl }

    -- the grants
    fill_live : (x : DownMessage) (o : Operation) (f : Option LineNo) → LaneLive c (or_as_before l (fill_at ins f c x o (with_downs q l))).lane
    fill_live x o (Some i) = complete_live _ i _ _ _
    fill_live x o None = live

    grant_live : (x : DownMessage) (o : Operation) (f : Option LineNo) → LaneLive c (or_as_before l (grant_at ins f c x o (with_downs q l))).lane
    grant_live x o (Some i) = live
    grant_live x o None = fill_live x o (vacant_of (with_downs q l) c)

    bare_live : (o : Operation) (f : Option LineNo) → LaneLive c (or_as_before l (bare_at f c o (with_downs q l))).lane
    bare_live o (Some i) = complete_live _ i _ _ _
    bare_live o None = live

  -- a grant, by what waits
  served_live : (P : Result Operation Refusal → Type 0) → ((r : Refusal) → P (Err r)) → ((o : Operation) → eject_count (queued_returns l.returns) ≤ 0 → P (Ok o)) → (a : BlockNo) (x : Waiting) → l.waiting ≡ x → P (served_on x a)
  served_live P refused go a Idle e = refused Unexpected
  served_live P refused go a (Unserved o) e = refused Unexpected
  served_live P refused go a (Served o) e =
      by_cond P (eqb (block_of o.word).0 a.0) (Ok o) (Err Unexpected) (go o (none_ejected c l (ap unserved_of e) live)) (refused Unexpected)

  -- what a message does in the lane that took it
  kind_live : (y : DownKind) (x : DownMessage) → LaneLive c (or_as_before l (deliver_kind capacity ins y c x (with_downs q l))).lane
  kind_live Update x = update_live x.block (search_of (with_downs q l) c x.block)
  kind_live Purge x = purge_live x.block (search_of (with_downs q l) c x.block)
  kind_live Grant x =
      served_live (λ (r : Result Operation Refusal). LaneLive c (or_as_before l (grant_to ins r c x (with_downs q l))).lane) (λ r. live)
      (λ o none. grant_live none x o (search_of (with_downs q l) c x.block)) x.block l.waiting refl
  kind_live BareGrant x =
      served_live (λ (r : Result Operation Refusal). LaneLive c (or_as_before l (bare_to r c x (with_downs q l))).lane) (λ r. live)
      (λ o none. bare_live none o (search_of (with_downs q l) c x.block)) x.block l.waiting refl

-- the lane's part of deliver
pub deliver_lane_live : (ins : Insertion) (c : ℕ) (l : Lane) → LaneSized l → LaneLive c l → LaneLive c (deliver_lane capacity ins c l).lane
unfolding deliver_lane
deliver_lane_live ins c l z live =
    by_cond (λ (r : LaneStep). LaneLive c r.lane) (empty_at l.downs.len) (refuse_lane NothingPending l) _ live
    (kind_live ins c l z live (after_take l.downs) (head_down l.downs).kind (head_down l.downs))
