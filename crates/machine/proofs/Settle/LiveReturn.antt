-- Return keeps a store live. Assumes nothing.
use Prim.Native.Nat.{ℕ, ◌<◌, ◌≤◌}
use mathlib.Core.Logic.{◌≢◌}
use mathlib.Core.Path.{◌≡◌, refl, sym, ap, ◌∙◌}
use mathlib.Core.List.{List}
use native.Mathlib.Omega.{arith}
use Rattle.words.specs.declared.LaneNo.{LaneNo}
use Rattle.words.specs.declared.BlockNo.{BlockNo}
use Rattle.queues.specs.Messages.{ReturnMessage}
use Rattle.queues.specs.Queues.{head_return, after_take}
use Rattle.lanes.specs.declared.Lane.{Lane}
use Rattle.lanes.specs.Lanes.{with_returns}
use Rattle.store.specs.declared.Store.{Store}
use Rattle.store.specs.declared.Block.{Block}
use Rattle.store.specs.declared.Service.{Service}
use Rattle.store.specs.declared.Control.{Control}
use Rattle.store.specs.declared.Outcome.{Outcome}
use Rattle.store.specs.Control.{service_of, lowered, with_updated, without_service}
use Rattle.store.specs.Stores.{lane_at, block_at}
use Rattle.store.specs.LaneSets.{nobody, only}
use Rattle.machine.specs.Machine.Parts.{Move}
use Rattle.machine.specs.Machine.Change.{no_message, commit_move}
use Rattle.machine.specs.Machine.Serve.{grant_of, close}
use Rattle.machine.specs.Machine.Return.{taken_by, send_nothing, return_move, return_of}
use Rattle.machine.proofs.Bounds.KeepsLane.{clash}
use Rattle.machine.proofs.Bounds.Sound.{sound}
use Rattle.machine.proofs.List.Owes.{upd}
use Rattle.machine.proofs.Laws.Updates.{upd_cases}
use Rattle.machine.proofs.Protocol.BlockState.{Seen, keep_if, return_about, seen, project}
use Rattle.machine.proofs.Projection.Queued.{queued_returns}
use Rattle.machine.proofs.Protocol.Invariant.{owed}
use Rattle.machine.proofs.Protocol.Directories.{nobody_none}
use Rattle.machine.proofs.Store.Consistent.{Consistent}
use Rattle.machine.proofs.Store.ConsistentLane.{lane_below}
use Rattle.machine.proofs.Store.ConsistentServe.{send_none}
use Rattle.machine.proofs.Store.ConsistentReturn.{taken, has_head, own, gone, eject_shows, last_shows, more_shows}
use Rattle.machine.proofs.Settle.Live.{eject_count, LaneLive, Live}
use Rattle.machine.proofs.Settle.LiveLane.{stays_live}
use Rattle.machine.proofs.Settle.LiveOwed.{take_owed}
use Rattle.machine.proofs.Protocol.MemoryClose.{grant_no_order}
use Rattle.machine.proofs.Settle.LiveMove.{send_grant, ShowsLive, commit_live}
use Rattle.machine.proofs.Rules.Rules.{return_rule}
use Rattle.machine.proofs.Rules.RulesMemory.{Awaited, return_move_rule}
use Rattle.machine.proofs.Store.ConsistentMove.{Shows}
use Rattle.std.specs.Prelude.{Some, None}

-- a service that awaits more than one answer still awaits one
lowered_awaits : (v w : Service) → v.awaited ≢ 0 → v.awaited ≢ 1 → Some (lowered v) ≡ Some w → w.awaited ≢ 0
lowered_awaits v w n o e z =
    let p : lowered v ≡ w = cc in
    let d = ap (λ (y : Service). y.awaited) p in
    o (omega (arith, n))

module _ (s : Store) (f : List ℕ) (i : Consistent s f) (live : Live s) (k : LaneNo) (h : k.0 < s.shape.n) (filled : (lane_at s k.0).returns.len ≢ 0) where
  abbrev l : Lane
  l = lane_at s k.0

  -- the head, its block, the block's entry; the lane and the entry after it was taken
  abbrev x : ReturnMessage
  x = head_return l.returns

  abbrev a : BlockNo
  a = x.block

  abbrev b : Block
  b = block_at s a.0

  abbrev t : Lane
  t = with_returns (after_take l.returns) l

  abbrev u : Block
  u = taken_by x.kind x.words k b

  -- the messages about the block that are left
  abbrev rest : List ReturnMessage
  rest = keep_if (return_about a) (queued_returns (after_take l.returns))

  -- the lane without its head
  taken_live : LaneLive s.shape.c t
  taken_live = let p = ap eject_count (taken s f i k h filled) in stays_live s.shape.c l t refl (omega arith) (λ d e. e) (live.lane k.0)

  -- what it owes, and every lane then
  taken_owed : owed (seen s.shape.c a t) ≤ owed (seen s.shape.c a l)
  unfolding seen
  taken_owed = take_owed x rest (seen s.shape.c a l) (has_head s f i k h filled)

  abbrev lanes : ℕ → Seen
  lanes = upd (project s a.0).lane k.0 (seen s.shape.c a t)

  one_owed : (j : ℕ) → owed (lanes j) ≤ 1
  one_owed =
      let m = ((sound s i.sound).lane k.0 h).returns.inside 0 (omega (arith, filled)) in
      let p = taken_owed in
      let q = live.one a.0 m k.0 in
      upd_cases (λ (j : ℕ) (y : Seen). owed y ≤ 1) (project s a.0).lane k.0 (seen s.shape.c a t) (omega arith) (λ j _. live.one a.0 m j)

  -- nothing is sent, with the control y after it; or the service closes
  quiet_live : (y : Control) → ((v : Service) → service_of y a ≡ Some v → v.awaited ≢ 0) → ShowsLive s k a (send_nothing t u y)
  quiet_live y c = record {
    lane = taken_live;
    one = λ j. let p = ap (λ (g : ℕ → Seen). owed (g j)) (send_none nobody no_message lanes nobody_none) in let q = one_owed j in omega arith;
    awaits = c;
  }

  close_live : (v : Service) → Awaited s.control a v → ShowsLive s k a (close v t u (without_service v s.control))
  unfolding close
  close_live v w = record {
    lane = taken_live;
    one = λ j. let p = send_grant (only v.lane) (grant_of u v) lanes j (grant_no_order u v) in let q = one_owed j in omega arith;
    awaits = λ z e. let q : None ≡ Some z = sym (gone s f i k h filled v w) ∙ e in clash (cc);
  }

  pub head_live : Live (commit_move s k a (return_move k x l b s.control)).store
  unfolding commit_move
  head_live =
      return_move_rule (λ (v : Move). Live (commit_move s k a v).store) k x l b s.control
      (λ e. committed _ (eject_shows s f i k h filled e) (quiet_live s.control (live.awaits a))) live
      (λ e v w one. committed _ (last_shows s f i k h filled e v w one) (close_live v w))
      (λ e v w more. committed _ (more_shows s f i k h filled e v w) (quiet_live (with_updated (lowered v) s.control) (λ z r. lowered_awaits v z w.some more (sym (own s f i k h filled e v w) ∙ r))))
    where
      committed : (v : Move) → Shows s f k a v → ShowsLive s k a v → Live (commit_move s k a v).store
      committed v y g = commit_live s f i live k (lane_below s f i k.0 h) a v y g

pub return_live : (s : Store) (f : List ℕ) (k : LaneNo) → Consistent s f → Live s → Live (return_of s k).store
return_live s f k i live = return_rule (λ (r : Outcome). Live r.store) s k (λ _. live) (λ r. head_live s f i live k r.lane r.filled)
