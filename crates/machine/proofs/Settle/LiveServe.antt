-- Serve keeps a store live. Assumes nothing.
use Prim.Native.Nat.{ℕ, ◌<◌, ◌≤◌}
use mathlib.Core.Logic.{◌≢◌}
use mathlib.Core.Path.{◌≡◌, refl, sym, ap, ◌∙◌}
use mathlib.Core.Bool.{Bool, false}
use mathlib.Core.List.{List}
use native.Mathlib.Omega.{arith}
use Rattle.words.specs.declared.LaneNo.{LaneNo}
use Rattle.words.specs.declared.BlockNo.{BlockNo}
use Rattle.words.specs.Units.{block_of}
use Rattle.queues.specs.Messages.{DownMessage}
use Rattle.queues.specs.Messages.{bare_message}
use Rattle.lanes.specs.declared.Lane.{Lane}
use Rattle.lanes.specs.declared.Operation.{Operation}
use Rattle.lanes.specs.declared.Waiting.TheVariants.{Unserved, Served}
use Rattle.lanes.specs.Lanes.{with_waiting}
use Rattle.answers.specs.declared.Answer.TheVariants.{Step}
use Rattle.store.specs.declared.Store.{Store}
use Rattle.store.specs.declared.Block.{Block}
use Rattle.store.specs.declared.Service.{Service}
use Rattle.store.specs.declared.Outcome.{Outcome}
use Rattle.store.specs.Control.{busy_for, with_service, awaited_of}
use Rattle.store.specs.Stores.{lane_at, block_at}
use Rattle.store.specs.LaneSets.{only, count_of}
use Rattle.machine.specs.Machine.Parts.{Move}
use Rattle.machine.specs.Machine.Change.{commit_move}
use Rattle.machine.specs.Machine.Serve.{order_of, ordered, grant_of, close, service_for, serve_move, serve_of}
use Rattle.machine.proofs.Bounds.Sound.{sound}
use Rattle.machine.proofs.List.Owes.{upd}
use Rattle.machine.proofs.Laws.Updates.{upd_cases}
use Rattle.machine.proofs.Protocol.BlockState.{Seen, seen, project}
use Rattle.machine.proofs.Protocol.Invariant.{owed}
use Rattle.machine.proofs.Protocol.Moves.{send_all}
use Rattle.machine.proofs.Protocol.MemoryMoves.{nothing_owed}
use Rattle.machine.proofs.Store.Consistent.{Consistent}
use Rattle.machine.proofs.Store.ConsistentLane.{lane_below}
use Rattle.machine.proofs.Store.ConsistentServe.{own, open_shows, close_shows}
use Rattle.machine.proofs.Store.ServeBounds.{served_none}
use Rattle.machine.proofs.Settle.Live.{has_room, LaneLive, Live}
use Rattle.machine.proofs.Settle.LiveMove.{send_most, ShowsLive, commit_live}
use Rattle.machine.proofs.Rules.Rules.{serve_rule}
use Rattle.machine.proofs.Rules.RulesMemory.{serve_move_rule}
use Rattle.std.specs.Prelude.{Ok}

module _ (s : Store) (f : List ℕ) (i : Consistent s f) (live : Live s) (k : LaneNo) (h : k.0 < s.shape.n) (o : Operation) (e : (lane_at s k.0).waiting ≡ Unserved o)
    (free : busy_for s.shape.limit s.control (block_of o.word) ≡ false) (clear : (lane_at s k.0).returns.len ≡ 0) where
  -- the block of the operation, its entry, the lanes that orders go to, the service, the lane after it
  abbrev x : BlockNo
  x = block_of o.word

  abbrev b : Block
  b = block_at s x.0

  abbrev to : List Bool
  to = ordered b k o.command

  abbrev v : Service
  v = service_for k o b (count_of to)

  abbrev t : Lane
  t = with_waiting (Served o) (lane_at s k.0)

  -- no message of the lane is under way, and it waits for what it waited for
  served_live : LaneLive s.shape.c t
  served_live = record { ejects = rw clear (omega arith); room = sym (ap (has_room s.shape.c (lane_at s k.0)) e) ∙ (live.lane k.0).room }

  -- no lane owes the block anything, and the lane's view of it is as before
  none_owed : (j : ℕ) → owed ((project s x.0).lane j) ≡ 0
  none_owed =
      let p = i.block x.0 (((sound s i.sound).lane k.0 h).unserved o e) in
      nothing_owed p.0 (project s x.0) _ p.1 (ap awaited_of (served_none s x free))

  same_owed : owed (seen s.shape.c x t) ≡ owed ((project s x.0).lane k.0)
  unfolding owed seen
  same_owed = refl

  abbrev served : ℕ → Seen
  served = upd (project s x.0).lane k.0 (seen s.shape.c x t)

  -- .. so at most one after a message is sent
  one_owed : (u : List Bool) (m : DownMessage) (j : ℕ) → owed (send_all u m served j) ≤ 1
  one_owed u m j =
      send_most u m served j
      (upd_cases (λ (j : ℕ) (l : Seen). owed l ≡ 0) (project s x.0).lane k.0 (seen s.shape.c x t) (same_owed ∙ none_owed k.0) (λ j _. none_owed j) j)

  -- the service is open, or closes at once
  opens : count_of to ≢ 0 → ShowsLive s k x (record { answer = Ok Step; lane = t; block = b; control = with_service v s.control; to = to; message = bare_message (order_of o.command) x })
  opens some = record { lane = served_live; one = one_owed to (bare_message (order_of o.command) x); awaits = λ u r z. let q : v ≡ u = cc (own s f i k h o e free clear, r) in some (ap (λ (y : Service). y.awaited) q ∙ z) }

  closes : ShowsLive s k x (close v t b s.control)
  unfolding close
  closes = record { lane = served_live; one = one_owed (only k) (grant_of b v); awaits = live.awaits x }

  -- memory's part
  pub ready_live : Live (commit_move s k x (serve_move k o (lane_at s k.0) (block_at s x.0) s.control)).store
  ready_live =
      serve_move_rule (λ (y : Move). Live (commit_move s k x y).store) k o (lane_at s k.0) (block_at s x.0) s.control
      (λ q. commit_live s f i live k (lane_below s f i k.0 h) x _ (close_shows s f i k h o e free clear q) closes)
      (λ q. commit_live s f i live k (lane_below s f i k.0 h) x _ (open_shows s f i k h o e free clear) (opens q))

pub serve_live : (s : Store) (f : List ℕ) (k : LaneNo) → Consistent s f → Live s → Live (serve_of s k).store
serve_live s f k i live =
    serve_rule (λ (r : Outcome). Live r.store) s k (λ _. live)
    (λ o r. ready_live s f i live k r.lane o r.unserved r.free r.clear)
