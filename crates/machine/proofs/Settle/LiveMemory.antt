-- Return is never refused where a message is under way from the lane, and serve never but by 9, 10 and 11: a message that return takes is no answer or is
-- awaited, and what is sent finds room. Assumes nothing.
use Prim.Native.Nat.{ℕ, ◌+◌, ◌<◌, ◌≤◌}
use mathlib.Core.Logic.{◌⊎◌, inl, inr, ◌≢◌}
use mathlib.Core.Path.{◌≡◌, refl, sym, ap, ◌∙◌}
use mathlib.Core.Bool.{Bool, true, false, ◌&&◌, true≢false}
use mathlib.Core.List.{List}
use lib.Dec.{eqb}
use lib.ListN.{get_or, set}
use borrow.Author.Tests.{ne_eqb, lt-leb}
use native.Mathlib.Omega.{arith}
use Rattle.words.specs.declared.LaneNo.{LaneNo}
use Rattle.words.specs.declared.BlockNo.{BlockNo}
use Rattle.words.specs.Units.{block_of}
use Rattle.words.proofs.Folds.{below?, any_never, by_cond, pick}
use Rattle.queues.specs.Messages.{ReturnMessage}
use Rattle.queues.specs.Queues.{DownQueue}
use Rattle.queues.specs.Queues.{capacity, full_at, head_return, after_take}
use Rattle.lanes.specs.declared.Lane.{Lane}
use Rattle.lanes.specs.declared.Operation.{Operation}
use Rattle.lanes.specs.Lanes.{with_returns}
use Rattle.lanes.specs.Waits.{unserved_of}
use Rattle.answers.specs.Refusals.{refused_of}
use Rattle.store.specs.declared.Store.{Store}
use Rattle.store.specs.declared.Block.{Block}
use Rattle.store.specs.declared.Counted.{Counted}
use Rattle.store.specs.declared.Counted.TheVariants.{Awaits, Closes}
use Rattle.store.specs.declared.Outcome.{Outcome}
use Rattle.store.specs.Control.{lowered, answer_of}
use Rattle.store.specs.Stores.{no_lane, lane_at, block_at}
use Rattle.store.specs.LaneSets.{nobody, only, goes_to}
use Rattle.machine.specs.Machine.Parts.{Move}
use Rattle.machine.specs.Machine.Change.{some_full, commit_move}
use Rattle.machine.specs.Machine.Serve.{ordered, close, serve_move, serve_of}
use Rattle.machine.specs.Machine.Return.{taken_by, is_answer, counted_move, return_move, return_of}
use Rattle.machine.proofs.Laws.Tests.{and_never}
use Rattle.machine.proofs.Laws.Sets.{same?, set_cases}
use Rattle.machine.proofs.Bounds.Sound.{sound}
use Rattle.machine.proofs.Bounds.KeepsServe.{ordered_absent}
use Rattle.machine.proofs.Protocol.BlockState.{keep_if, return_about, seen}
use Rattle.machine.proofs.Protocol.Directories.{nobody_none, order_self}
use Rattle.machine.proofs.Projection.Queued.{queued_returns}
use Rattle.machine.proofs.Protocol.Invariant.{answer_count, owed}
use Rattle.machine.proofs.Store.Consistent.{Consistent}
use Rattle.machine.proofs.Store.ConsistentLane.{lane_below}
use Rattle.machine.proofs.Store.ConsistentReturn.{has_head}
use Rattle.machine.proofs.Store.ServeByte.{only_other}
use Rattle.machine.proofs.Settle.Live.{Live}
use Rattle.machine.proofs.Settle.LiveAwaited.{Awaited, owed_awaited}
use Rattle.machine.proofs.Settle.LiveShort.{order_room, own_room, service_room}
use Rattle.machine.proofs.Rules.Rules.{ServeReady, served, serve_is, returned, return_is}
use Rattle.machine.proofs.Rules.RulesMemory.{serve_move_rule}
use Rattle.std.specs.Prelude.{Option, Some}

-- a message to one lane goes to no other
only_lane : (d : LaneNo) (j : ℕ) → goes_to (only d) j ≡ true → j ≡ d.0
only_lane d j g = go (same? j d.0)
  where
    go : (j ≡ d.0) ⊎ (j ≢ d.0) → j ≡ d.0
    go (inl e) = e
    go (inr n) = absurd (true≢false (sym g ∙ only_other d j n))

module _ (s : Store) (f : List ℕ) (i : Consistent s f) (live : Live s) (k : LaneNo) (h : k.0 < s.shape.n) where
  abbrev l : Lane
  l = lane_at s k.0

  -- memory's part of a call that is not refused: the lane's down queue is as it was, and those that a message goes to have room
  record Goes (v : Move) : Type 0 where
    answer : refused_of v.answer ≡ false
    downs : v.lane.downs ≡ l.downs
    room : (j : ℕ) → j < 8 → goes_to v.to j ≡ true → (lane_at s j).downs.len < capacity

  -- so none of them is full
  none_full : (v : Move) → Goes v → some_full capacity v.to (set s.lanes k.0 v.lane) ≡ false
  unfolding some_full
  none_full v g =
      any_never (λ j. goes_to v.to j && full_at capacity (get_or (set s.lanes k.0 v.lane) j no_lane).downs.len) 8
      (λ j b. and_never (goes_to v.to j) (full_at capacity (get_or (set s.lanes k.0 v.lane) j no_lane).downs.len)
      (λ e. let r = g.room j b e in
      set_cases (λ (x : Lane). full_at capacity x.downs.len ≡ false) s.lanes k.0 j v.lane no_lane
      (λ q. let z = ap (λ (y : DownQueue). y.len) g.downs in let d = ap (λ (n : ℕ). (lane_at s n).downs.len) q in lt-leb capacity v.lane.downs.len (omega arith))
      (lt-leb capacity (lane_at s j).downs.len r)))

  commit_goes : (a : BlockNo) (v : Move) → Goes v → refused_of (commit_move s k a v).answer ≡ false
  unfolding commit_move
  commit_goes a v g = rw (g.answer, none_full v g) g.answer

  -- nothing is sent, or a message to one lane, which has room
  nothing_goes : (v : Move) → refused_of v.answer ≡ false → v.lane.downs ≡ l.downs → v.to ≡ nobody → Goes v
  nothing_goes v e d t = record { answer = e; downs = d; room = λ j _ g. absurd (true≢false (sym g ∙ ap (λ (to : List Bool). goes_to to j) t ∙ nobody_none j)) }

  one_goes : (v : Move) (d : LaneNo) → refused_of v.answer ≡ false → v.lane.downs ≡ l.downs → v.to ≡ only d → (lane_at s d.0).downs.len < capacity → Goes v
  one_goes v d e q t r = record { answer = e; downs = q; room = λ j b g. let z = ap (λ (n : ℕ). (lane_at s n).downs.len) (only_lane d j (sym (ap (λ (to : List Bool). goes_to to j) t) ∙ g)) in omega arith }

  module _ (filled : l.returns.len ≢ 0) where
    -- the head, its block and the block's entry
    abbrev x : ReturnMessage
    x = head_return l.returns

    abbrev a : BlockNo
    a = x.block

    abbrev b : Block
    b = block_at s a.0

    abbrev rest : List ReturnMessage
    rest = keep_if (return_about a) (queued_returns (after_take l.returns))

    block_below : a.0 < s.shape.m
    block_below = ((sound s i.sound).lane k.0 h).returns.inside 0 (omega (arith, filled))

    -- an answer is owed, so a service awaits it
    answer_awaited : is_answer x.kind ≡ true → Awaited s a.0
    unfolding owed
    answer_awaited e =
        owed_awaited s f i a.0 block_below k.0 (lane_below s f i k.0 h)
        (λ z. let n : answer_count (seen s.shape.c a l).returns ≡ 1 + answer_count rest = rw (has_head s f i k h filled, e) in absurd (omega arith))

    -- .. and counts it, or closes
    answer_goes : (t : Lane) (u : Block) → t.downs ≡ l.downs → Awaited s a.0 → Goes (counted_move (answer_of s.control a) l b s.control t u)
    unfolding close
    answer_goes t u d w =
        rw (w.found, ne_eqb w.service.awaited 0 w.some)
        (by_cond (λ (c : Option Counted). Goes (counted_move c l b s.control t u)) (eqb w.service.awaited 1) (Some (Closes w.service)) (Some (Awaits (lowered w.service)))
        (one_goes _ w.service.lane refl d refl (service_room s f i live a.0 block_below w.service w.found))
        (nothing_goes _ refl d refl))

    return_move_goes : Goes (return_move k x l b s.control)
    unfolding return_move
    return_move_goes =
        pick Goes (is_answer x.kind) _ _
        (λ e. answer_goes (with_returns (after_take l.returns) l) (taken_by x.kind x.words k b) refl (answer_awaited e))
        (λ _. nothing_goes _ refl refl refl)

    pub returned_goes : refused_of (returned s k).answer ≡ false
    returned_goes = commit_goes a (return_move k x l b s.control) return_move_goes

    pub return_goes : refused_of (return_of s k).answer ≡ false
    return_goes = ap (λ (r : Outcome). refused_of r.answer) (return_is s k (record { sound = i.sound; lane = h; filled = filled })) ∙ returned_goes

  -- orders go to other lanes, and lane k waits unserved
  orders_go : (o : Operation) → ServeReady s k o → (v : Move) → refused_of v.answer ≡ false → v.lane.downs ≡ l.downs → v.to ≡ ordered (block_at s (block_of o.word).0) k o.command → Goes v
  orders_go o r v e d t = record { answer = e; downs = d; room = λ j b g. go j b (sym (ap (λ (to : List Bool). goes_to to j) t) ∙ g) }
    where
      go : (j : ℕ) → j < 8 → goes_to (ordered (block_at s (block_of o.word).0) k o.command) j ≡ true → (lane_at s j).downs.len < capacity
      go j b g =
          let z = sound s i.sound in
          let y = z.block (block_of o.word).0 ((z.lane k.0 h).unserved o r.unserved) in
          let p : j < s.shape.n = below (below? j s.shape.n) (λ q. absurd (true≢false (sym g ∙ ordered_absent s.shape.n _ k o.command y j q b))) in
          order_room s f i live j p k.0 h (λ q. absurd (true≢false (sym g ∙ ap (goes_to (ordered (block_at s (block_of o.word).0) k o.command)) (sym q) ∙ order_self _ k o.command))) (ap unserved_of r.unserved)
        where
          below : (j < s.shape.n) ⊎ (s.shape.n ≤ j) → (s.shape.n ≤ j → j < s.shape.n) → j < s.shape.n
          below (inl q) n = q
          below (inr q) n = n q

  serve_move_goes : (o : Operation) → ServeReady s k o → Goes (serve_move k o l (block_at s (block_of o.word).0) s.control)
  unfolding close
  serve_move_goes o r =
      serve_move_rule Goes k o l (block_at s (block_of o.word).0) s.control (λ _. one_goes _ k refl refl refl (own_room s f i live k.0 h o r.unserved r.clear))
      (λ _. orders_go o r _ refl refl refl)

  pub served_goes : (o : Operation) → ServeReady s k o → refused_of (served s k o).answer ≡ false
  served_goes o r = commit_goes (block_of o.word) (serve_move k o l (block_at s (block_of o.word).0) s.control) (serve_move_goes o r)

  pub serve_goes : (o : Operation) → ServeReady s k o → refused_of (serve_of s k).answer ≡ false
  serve_goes o r = ap (λ (z : Outcome). refused_of z.answer) (serve_is s k o r) ∙ served_goes o r
