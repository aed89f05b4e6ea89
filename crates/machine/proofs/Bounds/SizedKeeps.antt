-- An opening gives the arrays their declared lengths, and every step keeps them, whatever its answer. Assumes nothing.
use Prim.Native.Nat.{ℕ, zero, suc, ◌<◌, ◌≤◌}
use mathlib.Core.Path.{◌≡◌, refl, ◌∙◌}
use mathlib.Core.Bool.{Bool, true, false, ◌||◌}
use mathlib.Core.List.{List}
use lib.ListN.{length, get_or, set, length-set, length-replicate, get_or-replicate}
use native.Mathlib.Omega.{arith}
use Rattle.words.specs.declared.LaneNo.{LaneNo}
use Rattle.words.specs.declared.LineNo.{LineNo}
use Rattle.words.specs.declared.BlockNo.{BlockNo}
use Rattle.words.specs.declared.WordNo.{WordNo}
use Rattle.words.specs.declared.Line.{Line}
use Rattle.words.specs.declared.Op.{Op}
use Rattle.words.specs.declared.Shape.{Shape}
use Rattle.words.specs.Units.{block_of}
use Rattle.words.specs.Operations.{perform_of, is_load}
use Rattle.words.specs.Folds.{up_to}
use Rattle.words.specs.Lines.{invalid}
use Rattle.words.proofs.Folds.{by_cond}
use Rattle.queues.specs.Messages.{ReturnMessage}
use Rattle.queues.specs.declared.ReturnKind.{ReturnKind}
use Rattle.queues.specs.declared.ReturnKind.TheVariants.{Eject, WriteEject, Updated, Purged, PurgedWords, Gone}
use Rattle.queues.specs.Queues.{ReturnQueue}
use Rattle.queues.specs.Messages.{DownMessage}
use Rattle.queues.specs.declared.DownKind.{DownKind}
use Rattle.queues.specs.declared.DownKind.TheVariants.{Update, Purge, Grant, BareGrant}
use Rattle.queues.specs.Queues.{DownQueue}
use Rattle.queues.specs.Queues.{capacity, full_at, empty_at, head_return, head_down, after_push, after_take}
use Rattle.lanes.specs.declared.Lane.{Lane}
use Rattle.lanes.specs.declared.Operation.{Operation}
use Rattle.lanes.specs.declared.Command.{Command}
use Rattle.lanes.specs.declared.Command.TheVariants.{ReadShared, ReadExclusive, Exclude}
use Rattle.lanes.specs.declared.Waiting.{Waiting}
use Rattle.lanes.specs.declared.Waiting.TheVariants.{Idle, Served}
use Rattle.lanes.specs.Search.{line_at, search_of, vacant_of}
use Rattle.lanes.specs.UseOrder.{Insertion, place_at}
use Rattle.lanes.specs.Lanes.{with_waiting, with_returns, with_downs, with_line}
use Rattle.answers.specs.declared.Refusal.TheVariants.{NothingPending}
use Rattle.store.specs.declared.Store.{Store}
use Rattle.store.specs.declared.Block.{Block}
use Rattle.store.specs.declared.Control.{Control}
use Rattle.store.specs.declared.Service.{Service}
use Rattle.store.specs.Control.{slot_count, free, slot_of, free_slot, with_slot, with_service, with_updated, without_service}
use Rattle.queues.proofs.Shifts.{length_shifted}
use Rattle.store.specs.declared.Outcome.{Outcome}
use Rattle.store.specs.Opening.{blank_lane, blank_block, fresh_of}
use Rattle.store.specs.Stores.{no_lane, no_block, lane_at, block_at}
use Rattle.store.specs.LaneSets.{nobody, only, goes_to}
use Rattle.machine.specs.Machine.Parts.{LaneStep}
use Rattle.machine.specs.Machine.Parts.{Move}
use Rattle.machine.specs.Machine.Change.{refuse_lane, commit_lane, posted, post_to, post_all, commit_move, refused_in}
use Rattle.machine.specs.Machine.Begin.{complete_with, complete, waits, hit, eject_of, evict, miss_with, miss, begin_at, begin_lane, begin_of}
use Rattle.machine.specs.Machine.Serve.{closed_block, close, serve_move, serve_of}
use Rattle.machine.specs.Machine.Return.{taken_by, return_move, return_of}
use Rattle.machine.specs.Machine.Deliver.{waits_no_more, reply, shared, update_at, purge_at, fill_at, grant_at, bare_at, served_on, grant_to, bare_to, deliver_kind, deliver_lane, deliver_of}
use Rattle.machine.specs.Machine.Settle.{settle_step, lane}
use Rattle.machine.specs.Machine.Sized.{LaneSized, Sized}
use Rattle.machine.proofs.Laws.Sets.{set_cases}
use Rattle.machine.proofs.Laws.Orders.{used_kept, inserted_kept}
use Rattle.machine.proofs.Bounds.Keeps.{Whole}
use Rattle.machine.proofs.Rules.Rules.{lane_rule, move_rule, begin_rule, serve_rule, return_rule, deliver_rule}
use Rattle.machine.proofs.Rules.RulesSettle.{step_rule}
use Rattle.machine.proofs.Rules.RulesMemory.{return_move_rule, serve_move_rule}
use Rattle.std.specs.Prelude.{Option, Some, None, Result, Ok, Err}
use Rattle.answers.specs.declared.Refusal.{Refusal}

-- a message joins a queue, or the head leaves it: its places stay 2
push_return_sized : (q : ReturnQueue) (x : ReturnMessage) → length q.at ≡ capacity → length (after_push capacity q x).at ≡ capacity
push_return_sized q x e =
    by_cond (λ (r : ReturnQueue). length r.at ≡ capacity) (full_at capacity q.len) _ _ e (length-set q.at q.len x ∙ e)

push_down_sized : (q : DownQueue) (x : DownMessage) → length q.at ≡ capacity → length (after_push capacity q x).at ≡ capacity
push_down_sized q x e =
    by_cond (λ (r : DownQueue). length r.at ≡ capacity) (full_at capacity q.len) _ _ e (length-set q.at q.len x ∙ e)

take_return_sized : (q : ReturnQueue) → length q.at ≡ capacity → length (after_take q).at ≡ capacity
take_return_sized q e =
    by_cond (λ (r : ReturnQueue). length r.at ≡ capacity) (empty_at q.len) _ _ e (length_shifted q.at ∙ e)

take_down_sized : (q : DownQueue) → length q.at ≡ capacity → length (after_take q).at ≡ capacity
take_down_sized q e =
    by_cond (λ (r : DownQueue). length r.at ≡ capacity) (empty_at q.len) _ _ e (length_shifted q.at ∙ e)

module _ (l : Lane) (g : LaneSized l) where
  with_returns_sized : (q : ReturnQueue) → length q.at ≡ capacity → LaneSized (with_returns q l)
  with_returns_sized q e = record { lines = g.lines; order = g.order; returns = e; downs = g.downs }

  with_downs_sized : (q : DownQueue) → length q.at ≡ capacity → LaneSized (with_downs q l)
  with_downs_sized q e = record { lines = g.lines; order = g.order; returns = g.returns; downs = e }

  with_waiting_sized : (w : Waiting) → LaneSized (with_waiting w l)
  with_waiting_sized w = record { lines = g.lines; order = g.order; returns = g.returns; downs = g.downs }

  with_line_sized : (i : LineNo) (x : Line) → LaneSized (with_line i x l)
  with_line_sized i x = record { lines = length-set l.lines i.0 x ∙ g.lines; order = g.order; returns = g.returns; downs = g.downs }

  -- an operation completes on a line
  complete_sized : (o : List LineNo) (i : LineNo) (x : Line) (op : Op) (w : WordNo) → length o ≡ length l.order → LaneSized (complete_with o i x op w l).lane
  unfolding complete_with
  complete_sized o i x op w e =
      record {
        lines = length-set l.lines i.0 (perform_of x op w).line ∙ g.lines;
        order = e ∙ g.order;
        returns = g.returns;
        downs = g.downs;
      }

  hit_sized : (c : ℕ) (i : LineNo) (op : Op) (w : WordNo) → LaneSized (hit c i op w l).lane
  unfolding hit
  hit_sized c i op w =
      by_cond (λ (r : LaneStep). LaneSized r.lane) (is_load op || (line_at l i).private) (complete c i (line_at l i) op w l) (waits Exclude op w l)
      (complete_sized _ i (line_at l i) op w (used_kept c i l.order).0)
      (with_waiting_sized _)

  evict_sized : (i : LineNo) (op : Op) (w : WordNo) → LaneSized (evict capacity i op w l).lane
  unfolding evict
  evict_sized i op w =
      by_cond (λ (r : LaneStep). LaneSized r.lane) (full_at capacity l.returns.len) _ _ g
      (record {
        lines = length-set l.lines i.0 (invalid (line_at l i)) ∙ g.lines;
        order = g.order;
        returns = push_return_sized l.returns (eject_of (line_at l i)) g.returns;
        downs = g.downs;
      })

  miss_sized : (op : Op) (w : WordNo) (f : Option LineNo) → LaneSized (miss_with capacity f op w l).lane
  miss_sized op w (Some i) = with_waiting_sized _
  miss_sized op w None = evict_sized (place_at l.order 0) op w

  begin_at_sized : (c : ℕ) (op : Op) (w : WordNo) (f : Option LineNo) → LaneSized (begin_at capacity f c op w l).lane
  unfolding miss
  begin_at_sized c op w (Some i) = hit_sized c i op w
  begin_at_sized c op w None = miss_sized op w (vacant_of l c)

  -- the lane's part of begin
  pub begin_lane_sized : (c : ℕ) (op : Op) (w : WordNo) → LaneSized (begin_lane capacity c op w l).lane
  unfolding begin_lane
  begin_lane_sized c op w = begin_at_sized c op w (search_of l c (block_of w))

  -- a message joins the down queue
  posted_sized : (x : DownMessage) → LaneSized (posted capacity x l)
  posted_sized x = with_downs_sized (after_push capacity l.downs x) (push_down_sized l.downs x g.downs)

  reply_sized : (x : ReturnMessage) → LaneSized (reply capacity x l).lane
  unfolding reply
  reply_sized x =
      by_cond (λ (r : LaneStep). LaneSized r.lane) (full_at capacity l.returns.len) _ _ g
      (with_returns_sized (after_push capacity l.returns x) (push_return_sized l.returns x g.returns))

module _ (ins : Insertion) (c : ℕ) (l : Lane) (g : LaneSized l) where
  update_sized : (a : BlockNo) (f : Option LineNo) → LaneSized (update_at capacity f a l).lane
  update_sized a (Some i) = reply_sized (with_line i (shared (line_at l i)) l) (with_line_sized l g i (shared (line_at l i))) _
  update_sized a None = reply_sized l g _

  purge_sized : (a : BlockNo) (f : Option LineNo) → LaneSized (purge_at capacity f a l).lane
  purge_sized a (Some i) = reply_sized (with_line i (invalid (line_at l i)) l) (with_line_sized l g i (invalid (line_at l i))) _
  purge_sized a None = reply_sized l g _

  fill_sized : (x : DownMessage) (o : Operation) (f : Option LineNo) → LaneSized (fill_at ins f c x o l).lane
  fill_sized x o (Some i) = complete_sized (waits_no_more l) (with_waiting_sized l g Idle) _ i _ o.op o.word (inserted_kept ins o.op c i l.order).0
  fill_sized x o None = g

  grant_sized : (x : DownMessage) (o : Operation) (f : Option LineNo) → LaneSized (grant_at ins f c x o l).lane
  grant_sized x o (Some i) = g
  grant_sized x o None = fill_sized x o (vacant_of l c)

  bare_sized : (o : Operation) (f : Option LineNo) → LaneSized (bare_at f c o l).lane
  bare_sized o (Some i) = complete_sized (waits_no_more l) (with_waiting_sized l g Idle) _ i _ o.op o.word (used_kept c i l.order).0
  bare_sized o None = g

  grants_sized : (x : DownMessage) (r : Result Operation Refusal) → LaneSized (grant_to ins r c x l).lane
  grants_sized x (Err n) = g
  grants_sized x (Ok o) = grant_sized x o (search_of l c x.block)

  bares_sized : (x : DownMessage) (r : Result Operation Refusal) → LaneSized (bare_to r c x l).lane
  bares_sized x (Err n) = g
  bares_sized x (Ok o) = bare_sized o (search_of l c x.block)

  kind_sized : (y : DownKind) (x : DownMessage) → LaneSized (deliver_kind capacity ins y c x l).lane
  kind_sized Update x = update_sized x.block (search_of l c x.block)
  kind_sized Purge x = purge_sized x.block (search_of l c x.block)
  kind_sized Grant x = grants_sized x (served_on l.waiting x.block)
  kind_sized BareGrant x = bares_sized x (served_on l.waiting x.block)

-- the lane's part of deliver
pub deliver_lane_sized : (ins : Insertion) (c : ℕ) (l : Lane) → LaneSized l → LaneSized (deliver_lane capacity ins c l).lane
unfolding deliver_lane
deliver_lane_sized ins c l g =
    by_cond (λ (r : LaneStep). LaneSized r.lane) (empty_at l.downs.len) (refuse_lane NothingPending l) _ g
    (by_cond LaneSized (refused_in took.answer) l took.lane g
    (kind_sized ins c (with_downs (after_take l.downs) l)
    (with_downs_sized l g (after_take l.downs) (take_down_sized l.downs g.downs)) (head_down l.downs).kind (head_down l.downs)))
  where
    took : LaneStep
    took = deliver_kind capacity ins (head_down l.downs).kind c (head_down l.downs) (with_downs (after_take l.downs) l)

-- the lanes of a store, all of them with their lengths
pub record LanesSized (ls : List Lane) : Type 0 where
  pub lanes : length ls ≡ 8
  pub lane : (k : ℕ) → k < 8 → LaneSized (get_or ls k no_lane)

pub set_lane_sized : (ls : List Lane) (k : ℕ) (l : Lane) → LanesSized ls → (k < 8 → LaneSized l) → LanesSized (set ls k l)
set_lane_sized ls k l g f =
    record {
      lanes = length-set ls k l ∙ g.lanes;
      lane = λ j h. set_cases LaneSized ls k j l no_lane (λ e. f (rw e at h)) (g.lane j h);
    }

post_sized : (to : List Bool) (x : DownMessage) (i : ℕ) (ls : List Lane) → LanesSized ls → LanesSized (post_to capacity to x i ls)
unfolding post_to
post_sized to x i ls g =
    by_cond LanesSized (goes_to to i) (set ls i (posted capacity x (get_or ls i no_lane))) ls
    (set_lane_sized ls i (posted capacity x (get_or ls i no_lane)) g (λ h. posted_sized (get_or ls i no_lane) (g.lane i h) x))
    g

posts_sized : (to : List Bool) (x : DownMessage) (t : ℕ) (ls : List Lane) → LanesSized ls → LanesSized (up_to (post_to capacity to x) t ls)
unfolding up_to
posts_sized to x zero ls g = g
posts_sized to x (suc t) ls g = post_sized to x t (up_to (post_to capacity to x) t ls) (posts_sized to x t ls g)

post_all_sized : (to : List Bool) (x : DownMessage) (ls : List Lane) → LanesSized ls → LanesSized (post_all capacity to x ls)
unfolding post_all
post_all_sized to x ls g = posts_sized to x 8 ls g

pub lanes_sized : (s : Store) → Sized s → LanesSized s.lanes
lanes_sized s g = record { lanes = g.lanes; lane = g.lane }

-- lane k after its part of a call
pub commit_lane_sized : (s : Store) (k : LaneNo) (r : LaneStep) → Sized s → (k.0 < 8 → LaneSized r.lane) → Sized (commit_lane s k r).store
commit_lane_sized s k r g f =
    lane_rule (λ (x : Outcome). Sized x.store) s k r (λ _ _. g)
    (λ _. let t = set_lane_sized s.lanes k.0 r.lane (lanes_sized s g) f in
    record { lanes = t.lanes; slots = g.slots; blocks = g.blocks; lane = t.lane; present = g.present })

-- the store after memory's part of a call
pub commit_move_sized : (s : Store) (k : LaneNo) (a : BlockNo) (v : Move) → Sized s → (k.0 < 8 → LaneSized v.lane) →
    length v.control.slots ≡ slot_count → (a.0 < 64 → length v.block.present ≡ 8) → Sized (commit_move s k a v).store
commit_move_sized s k a v g f x b =
    move_rule (λ (r : Outcome). Sized r.store) s k a v (λ _. g)
    (λ _ _. let t = post_all_sized v.to v.message _ (set_lane_sized s.lanes k.0 v.lane (lanes_sized s g) f) in
    record {
      lanes = t.lanes;
      slots = x;
      blocks = length-set s.blocks a.0 v.block ∙ g.blocks;
      lane = t.lane;
      present = λ j h. set_cases (λ (y : Block). length y.present ≡ 8) s.blocks a.0 j v.block no_block (λ e. b (rw e at h)) (g.present j h);
    })

-- the control with another slot
slot_sized : (i : ℕ) (y : Option Service) (x : Control) → length x.slots ≡ slot_count → length (with_slot i y x).slots ≡ slot_count
slot_sized i y x e = length-set x.slots i y ∙ e

-- the flags of one lane alone
only_sized : (k : LaneNo) → length (only k) ≡ 8
only_sized k = length-set nobody k.0 true ∙ length-replicate 8 false

closed_sized : (x : Command) (b : Block) (k : LaneNo) → length b.present ≡ 8 → length (closed_block x b k).present ≡ 8
closed_sized ReadShared b k e = length-set b.present k.0 true ∙ e
closed_sized ReadExclusive b k e = only_sized k
closed_sized Exclude b k e = only_sized k

-- memory's part of serve: its lane, its block
pub serve_move_lane : (k : LaneNo) (o : Operation) (l : Lane) (b : Block) (x : Control) → LaneSized l → LaneSized (serve_move k o l b x).lane
unfolding close
serve_move_lane k o l b x f =
    serve_move_rule (λ (v : Move). LaneSized v.lane) k o l b x (λ _. with_waiting_sized l f (Served o)) (λ _. with_waiting_sized l f (Served o))

serve_move_present : (k : LaneNo) (o : Operation) (l : Lane) (b : Block) (x : Control) → length b.present ≡ 8 → length (serve_move k o l b x).block.present ≡ 8
unfolding close
serve_move_present k o l b x e =
    serve_move_rule (λ (v : Move). length v.block.present ≡ 8) k o l b x (λ _. closed_sized o.command b k e) (λ _. e)

serve_move_slots : (k : LaneNo) (o : Operation) (l : Lane) (b : Block) (x : Control) → length x.slots ≡ slot_count → length (serve_move k o l b x).control.slots ≡ slot_count
unfolding close with_service
serve_move_slots k o l b x e = serve_move_rule (λ (v : Move). length v.control.slots ≡ slot_count) k o l b x (λ _. e) (λ _. slot_sized (free_slot x) _ x e)

-- memory's part of return
taken_by_sized : (x : ReturnKind) (ws : List ℕ) (k : LaneNo) (b : Block) → length b.present ≡ 8 → length (taken_by x ws k b).present ≡ 8
taken_by_sized Eject ws k b e = length-set b.present k.0 false ∙ e
taken_by_sized WriteEject ws k b e = length-set b.present k.0 false ∙ e
taken_by_sized Updated ws k b e = e
taken_by_sized Purged ws k b e = length-set b.present k.0 false ∙ e
taken_by_sized PurgedWords ws k b e = length-set b.present k.0 false ∙ e
taken_by_sized Gone ws k b e = length-set b.present k.0 false ∙ e

pub return_move_lane : (k : LaneNo) (x : ReturnMessage) (l : Lane) (b : Block) (y : Control) → LaneSized l → LaneSized (return_move k x l b y).lane
unfolding close
return_move_lane k x l b y f =
    let t = with_returns_sized l f (after_take l.returns) (take_return_sized l.returns f.returns) in
    return_move_rule (λ (v : Move). LaneSized v.lane) k x l b y (λ _. t) f (λ _ v _ _. t) (λ _ v _ _. t)

return_move_present : (k : LaneNo) (x : ReturnMessage) (l : Lane) (b : Block) (y : Control) → length b.present ≡ 8 →
    length (return_move k x l b y).block.present ≡ 8
unfolding close
return_move_present k x l b y e =
    let u = taken_by_sized x.kind x.words k b e in
    return_move_rule (λ (v : Move). length v.block.present ≡ 8) k x l b y (λ _. u) e (λ _ v _ _. closed_sized v.command _ v.lane u) (λ _ v _ _. u)

return_move_slots : (k : LaneNo) (x : ReturnMessage) (l : Lane) (b : Block) (y : Control) → length y.slots ≡ slot_count → length (return_move k x l b y).control.slots ≡ slot_count
unfolding close with_updated without_service
return_move_slots k x l b y e =
    return_move_rule (λ (v : Move). length v.control.slots ≡ slot_count) k x l b y (λ _. e) e (λ _ v _ _. slot_sized (slot_of y v.block) free y e) (λ _ v _ _. slot_sized (slot_of y v.block) _ y e)

-- an opening
blank_sized : LaneSized blank_lane
unfolding blank_lane
blank_sized = record { lines = refl; order = refl; returns = refl; downs = refl }

pub open_sized : (shape : Shape) → Sized (fresh_of shape)
unfolding fresh_of blank_block
open_sized shape =
    record {
      lanes = length-replicate 8 blank_lane;
      slots = length-replicate 8 free;
      blocks = length-replicate 64 blank_block;
      lane = λ k h. rw (get_or-replicate 8 k blank_lane no_lane h) blank_sized;
      present = λ a h. rw (get_or-replicate 64 a blank_block no_block h) (length-replicate 8 false);
    }

-- the four calls
pub begin_sized : (s : Store) (k : LaneNo) (op : Op) (w : WordNo) → Sized s → Sized (begin_of s k op w).store
begin_sized s k op w g =
    begin_rule (λ (r : Outcome). Sized r.store) s k op w (λ _. g)
    (λ _. commit_lane_sized s k _ g (λ h. begin_lane_sized (lane_at s k.0) (g.lane k.0 h) s.shape.c op w))

pub serve_sized : (s : Store) (k : LaneNo) → Sized s → Sized (serve_of s k).store
serve_sized s k g =
    serve_rule (λ (r : Outcome). Sized r.store) s k (λ _. g)
    (λ o _. commit_move_sized s k (block_of o.word) _ g
    (λ h. serve_move_lane k o (lane_at s k.0) (block_at s (block_of o.word).0) s.control (g.lane k.0 h))
    (serve_move_slots k o (lane_at s k.0) (block_at s (block_of o.word).0) s.control g.slots)
    (λ h. serve_move_present k o (lane_at s k.0) (block_at s (block_of o.word).0) s.control (g.present (block_of o.word).0 h)))

pub return_sized : (s : Store) (k : LaneNo) → Sized s → Sized (return_of s k).store
return_sized s k g =
    return_rule (λ (r : Outcome). Sized r.store) s k (λ _. g)
    (λ _.
    let x = head_return (lane_at s k.0).returns in
    commit_move_sized s k x.block _ g
    (λ h. return_move_lane k x (lane_at s k.0) (block_at s x.block.0) s.control (g.lane k.0 h))
    (return_move_slots k x (lane_at s k.0) (block_at s x.block.0) s.control g.slots)
    (λ h. return_move_present k x (lane_at s k.0) (block_at s x.block.0) s.control (g.present x.block.0 h)))

pub deliver_sized : (ins : Insertion) (s : Store) (k : LaneNo) → Sized s → Sized (deliver_of ins s k).store
deliver_sized ins s k g =
    deliver_rule ins (λ (r : Outcome). Sized r.store) s k (λ _. g)
    (λ _ _. commit_lane_sized s k _ g (λ h. deliver_lane_sized ins s.shape.c (lane_at s k.0) (g.lane k.0 h)))

-- settle's step, which is one of three of them
pub settle_step_sized : (ins : Insertion) (s : Store) → Sized s → Sized (settle_step ins s).store
settle_step_sized ins s g =
    step_rule ins (λ (r : Outcome). Sized r.store) s (λ k _ _. deliver_sized ins s (lane k) g) (λ _ k _ _. return_sized s (lane k) g) (λ _ _ k _ _. serve_sized s (lane k) g)
    (λ _ _ _. g)

-- the use order of each lane has its 8 places
pub sized_whole : (s : Store) → s.shape.n ≤ 8 → Sized s → Whole s
sized_whole s h g k l = let e = (g.lane k (omega arith)).order in omega arith
