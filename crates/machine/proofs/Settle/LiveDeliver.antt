-- Deliver is never refused where a message is under way to the lane: an order finds room for its answer, and a grant the operation
-- that it is for and a line. Assumes nothing.
use Prim.Native.Nat.{ℕ, ◌+◌, ◌<◌}
use mathlib.Core.Logic.{◌≢◌}
use mathlib.Core.Path.{◌≡◌, refl, sym, ap, ◌∙◌}
use mathlib.Core.Bool.{true, false, not, ◌||◌}
use mathlib.Core.List.{List, ◌∷◌}
use lib.ListN.{get_or}
use borrow.Author.Tests.{eq-eqb, eqb-true, lt-leb}
use native.Mathlib.Omega.{arith}
use Rattle.words.specs.declared.LaneNo.{LaneNo}
use Rattle.words.specs.declared.BlockNo.{BlockNo}
use Rattle.words.specs.Units.{block_of}
use Rattle.words.specs.Lines.{no_line, holds_of}
use Rattle.words.proofs.Folds.{any_never, pick}
use Rattle.queues.specs.Messages.{ReturnMessage}
use Rattle.queues.specs.Messages.{DownMessage}
use Rattle.queues.specs.declared.DownKind.{DownKind}
use Rattle.queues.specs.declared.DownKind.TheVariants.{Update, Purge, Grant, BareGrant}
use Rattle.queues.specs.Queues.{capacity, empty_at, head_down, after_take}
use Rattle.lanes.specs.declared.Lane.{Lane}
use Rattle.lanes.specs.declared.Operation.{Operation}
use Rattle.lanes.specs.declared.Waiting.{Waiting}
use Rattle.lanes.specs.declared.Waiting.TheVariants.{Served}
use Rattle.lanes.specs.Search.{search_of, vacant_of}
use Rattle.lanes.specs.UseOrder.{Insertion}
use Rattle.lanes.specs.Lanes.{with_downs}
use Rattle.answers.specs.Refusals.{refused_of}
use Rattle.store.specs.declared.Store.{Store}
use Rattle.store.specs.declared.Outcome.{Outcome}
use Rattle.store.specs.Stores.{lane_at}
use Rattle.machine.specs.Machine.Parts.{LaneStep}
use Rattle.machine.specs.Machine.Change.{commit_lane, refused_in}
use Rattle.machine.specs.Machine.Begin.{complete_with}
use Rattle.machine.specs.Machine.Deliver.{reply, update_at, purge_at, fill_at, grant_at, bare_at, served_on, grant_to, bare_to, deliver_kind, deliver_lane, deliver_of}
use Rattle.machine.specs.Machine.Settle.{is_order}
use Rattle.machine.specs.Claims.Flat.{flat_block}
use Rattle.machine.proofs.Laws.Tests.{or_never}
use Rattle.machine.proofs.Bounds.KeepsLane.{clash}
use Rattle.machine.proofs.Bounds.KeepsBegin.{all_valid}
use Rattle.machine.proofs.Bounds.Sound.{sound}
use Rattle.machine.proofs.Protocol.BlockState.{Invalid, held, keep_if, down_about, waiting_on, seen, project}
use Rattle.machine.proofs.Projection.Queued.{queued_downs, take_downs, keep_head}
use Rattle.machine.proofs.Protocol.Invariant.{grant_count, served_count}
use Rattle.machine.proofs.Protocol.LaneMovesDeliver.{head_due, bare_held}
use Rattle.machine.proofs.Projection.Searches.{same_block, none_holds}
use Rattle.machine.proofs.Projection.SeenBegin.{held_line}
use Rattle.machine.proofs.Store.Consistent.{Consistent}
use Rattle.machine.proofs.Store.ConsistentLane.{lane_sized}
use Rattle.machine.proofs.Settle.Live.{has_room, Live}
use Rattle.machine.proofs.Settle.LiveOwing.{served_on_lem}
use Rattle.machine.proofs.Settle.LiveShort.{answer_room}
use Rattle.machine.proofs.Rules.Rules.{deliver_is, answer_goes}
use Rattle.std.specs.Prelude.{Option, Some, None, Result, Ok}
use Rattle.words.specs.declared.LineNo.{LineNo}
use Rattle.answers.specs.declared.Refusal.{Refusal}

-- an answer joins a return queue with room
reply_goes : (y : ReturnMessage) (l : Lane) → l.returns.len < capacity → refused_in (reply capacity y l).answer ≡ false
unfolding reply
reply_goes y l h = rw (lt-leb capacity l.returns.len h)

-- what an operation waits for is held, or there is a line that is not valid
room_vacant : (c : ℕ) (l : Lane) (o : Operation) → has_room c l (Served o) ≡ true → search_of l c (block_of o.word) ≡ None → vacant_of l c ≢ None
room_vacant c l o r e n = clash (cc (none))
  where
    none : has_room c l (Served o) ≡ false
    none =
        any_never (λ i. not (get_or l.lines i no_line).valid || holds_of (get_or l.lines i no_line) (block_of o.word)) c
        (λ i h. or_never _ _ (ap not (all_valid l c n i h)) (none_holds c l (block_of o.word) e i h))

-- a line that is not held is not found, and one that is held is
status_none : (c : ℕ) (a : BlockNo) (l : Lane) → (seen c a l).line ≡ Invalid → search_of l c a ≡ None
unfolding seen
status_none c a l e = go (search_of l c a) refl
  where
    go : (r : Option LineNo) → search_of l c a ≡ r → search_of l c a ≡ None
    go (Some j) q = clash (cc (held_line (get_or l.lines j.0 no_line).private, ap held (rw q at e)))
    go None q = q

status_found : (c : ℕ) (a : BlockNo) (l : Lane) → held (seen c a l).line ≡ true → search_of l c a ≢ None
unfolding seen
status_found c a l e q = clash (cc (rw q at e))

module _ (ins : Insertion) (s : Store) (f : List ℕ) (i : Consistent s f) (live : Live s) (k : LaneNo) (h : k.0 < s.shape.n) (filled : (lane_at s k.0).downs.len ≢ 0) where
  abbrev l : Lane
  l = lane_at s k.0

  -- the head, its block, and the messages about it after the head
  abbrev x : DownMessage
  x = head_down l.downs

  abbrev a : BlockNo
  a = x.block

  abbrev t : Lane
  t = with_downs (after_take l.downs) l

  abbrev rest : List DownMessage
  rest = keep_if (down_about a) (queued_downs (after_take l.downs))

  block_below : a.0 < s.shape.m
  block_below = ((sound s i.sound).lane k.0 h).downs.inside 0 (omega (arith, filled))

  has_head : (seen s.shape.c a l).downs ≡ x ∷ rest
  unfolding seen
  has_head =
      let e = take_downs l.downs (lane_sized s f i k.0 h).downs filled ((sound s i.sound).lane k.0 h).downs.short in
      ap (keep_if (down_about a)) e ∙ keep_head (down_about a) x (queued_downs (after_take l.downs)) (eq-eqb a.0 a.0 refl)

  -- a grant is for the operation that its lane waits for
  grant_served : is_order x.kind ≡ false → (o : Operation) × (l.waiting ≡ Served o) × ((block_of o.word).0 ≡ a.0)
  unfolding seen
  grant_served q = served_on_lem l.waiting a some
    where
      some : served_count (waiting_on a l.waiting) ≢ 0
      some z =
          let g = (i.block a.0 block_below).1.grant k.0 in
          let n : grant_count (seen s.shape.c a l).downs ≡ 1 + grant_count rest = rw (has_head, q) in
          omega arith

  -- an answer finds room
  room : l.returns.len < capacity
  room = answer_room s f i live k.0 h filled

  -- each kind
  update_goes : (r : Option LineNo) → refused_in (update_at capacity r a t).answer ≡ false
  update_goes (Some j) = reply_goes _ _ room
  update_goes None = reply_goes _ _ room

  purge_goes : (r : Option LineNo) → refused_in (purge_at capacity r a t).answer ≡ false
  purge_goes (Some j) = reply_goes _ _ room
  purge_goes None = reply_goes _ _ room

  module _ (o : Operation) (w : l.waiting ≡ Served o) (b : (block_of o.word).0 ≡ a.0) where
    fill_goes : search_of l s.shape.c a ≡ None → (r : Option LineNo) → vacant_of l s.shape.c ≡ r → refused_in (fill_at ins r s.shape.c x o t).answer ≡ false
    unfolding complete_with
    fill_goes e (Some j) q = refl
    fill_goes e None q =
        absurd (room_vacant s.shape.c l o (sym (ap (has_room s.shape.c l) w) ∙ (live.lane k.0).room) (ap (search_of l s.shape.c) (same_block (block_of o.word) a b) ∙ e) q)

    words_goes : x.kind ≡ Grant → (r : Option LineNo) → search_of l s.shape.c a ≡ r → refused_in (grant_at ins r s.shape.c x o t).answer ≡ false
    words_goes q r e = go r (sym e ∙ none)
      where
        none : search_of l s.shape.c a ≡ None
        none = status_none s.shape.c a l (head_due _ (project s a.0) (flat_block f a.0) k.0 Grant x rest (i.block a.0 block_below).1 has_head q).0

        go : (r : Option LineNo) → r ≡ None → refused_in (grant_at ins r s.shape.c x o t).answer ≡ false
        go (Some j) z = clash (cc)
        go None z = fill_goes none (vacant_of l s.shape.c) refl

    bare_goes : x.kind ≡ BareGrant → (r : Option LineNo) → search_of l s.shape.c a ≡ r → refused_in (bare_at r s.shape.c o t).answer ≡ false
    unfolding complete_with
    bare_goes q (Some j) e = refl
    bare_goes q None e = absurd (status_found s.shape.c a l (bare_held _ (project s a.0) (flat_block f a.0) k.0 x rest (i.block a.0 block_below).1 has_head q) e)

    served_go : served_on l.waiting a ≡ Ok o
    served_go = ap (λ (y : Waiting). served_on y a) w ∙ rw (eq-eqb (block_of o.word).0 a.0 b)

  kind_goes : (y : DownKind) → x.kind ≡ y → refused_in (deliver_kind capacity ins y s.shape.c x t).answer ≡ false
  kind_goes Update q = update_goes (search_of l s.shape.c a)
  kind_goes Purge q = purge_goes (search_of l s.shape.c a)
  kind_goes Grant q =
      let o = grant_served (ap is_order q) in
      ap (λ (r : Result Operation Refusal). refused_in (grant_to ins r s.shape.c x t).answer) (served_go o.0 o.1 o.2) ∙ words_goes o.0 o.1 o.2 q (search_of l s.shape.c a) refl
  kind_goes BareGrant q =
      let o = grant_served (ap is_order q) in
      ap (λ (r : Result Operation Refusal). refused_in (bare_to r s.shape.c x t).answer) (served_go o.0 o.1 o.2) ∙ bare_goes o.0 o.1 o.2 q (search_of l s.shape.c a) refl

  pub deliver_lane_goes : refused_in (deliver_lane capacity ins s.shape.c l).answer ≡ false
  unfolding deliver_lane
  deliver_lane_goes = pick (λ (r : LaneStep). refused_in r.answer ≡ false) (empty_at l.downs.len) _ _ (λ e. absurd (filled (eqb-true _ _ e))) (λ _. kind_goes x.kind refl)

  pub deliver_goes : refused_of (deliver_of ins s k).answer ≡ false
  unfolding commit_lane
  deliver_goes = ap (λ (r : Outcome). refused_of r.answer) (deliver_is ins s k i.sound h) ∙ answer_goes k _ (deliver_lane capacity ins s.shape.c l).answer ∙ deliver_lane_goes
