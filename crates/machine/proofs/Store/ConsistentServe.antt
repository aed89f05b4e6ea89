-- Serve keeps a store consistent. Assumes nothing.
use Prim.Native.Nat.{ℕ, ◌<◌, ◌≤◌}
use mathlib.Core.Logic.{◌⊎◌, inl, inr, ◌≢◌}
use mathlib.Core.Path.{◌≡◌, refl, sym, ap, ◌∙◌, fun_ext}
use mathlib.Core.Bool.{Bool, true, false, cond}
use mathlib.Core.List.{List, []}
use lib.ListN.{length, length-set, get_or-eq_default}
use borrow.Author.Tests.{eq-eqb, ne_eqb}
use native.Mathlib.Omega.{arith}
use Rattle.words.specs.declared.LaneNo.{LaneNo}
use Rattle.words.specs.declared.BlockNo.{BlockNo}
use Rattle.words.specs.Folds.{count_to}
use Rattle.words.specs.Units.{block_of}
use Rattle.words.proofs.Folds.{below?, by_cond}
use Rattle.queues.specs.Messages.{DownMessage}
use Rattle.queues.specs.Messages.{bare_message}
use Rattle.lanes.specs.declared.Lane.{Lane}
use Rattle.lanes.specs.declared.Operation.{Operation}
use Rattle.lanes.specs.declared.Waiting.TheVariants.{Unserved, Served}
use Rattle.lanes.specs.Lanes.{with_waiting}
use Rattle.answers.specs.declared.Answer.TheVariants.{Step}
use Rattle.store.specs.declared.Store.{Store}
use Rattle.store.specs.declared.Block.{Block}
use Rattle.store.specs.declared.Service.{Service}
use Rattle.store.specs.Control.{slot_of, service_of, busy_for, with_service}
use Rattle.store.proofs.Services.{Vacant, not_busy_for, opened_own, opened_other}
use Rattle.store.specs.Stores.{lane_at, block_at}
use Rattle.store.specs.LaneSets.{nobody, only, goes_to, count_of}
use Rattle.machine.specs.Machine.Change.{commit_move}
use Rattle.machine.specs.Machine.Serve.{order_of, ordered, closed_block, grant_of, close, service_for, serve_move, serve_of}
use Rattle.machine.specs.Claims.Flat.{flat_block}
use Rattle.machine.specs.Machine.Sized.{LaneSized}
use Rattle.machine.proofs.Bounds.KeepsLane.{clash}
use Rattle.machine.proofs.Laws.Sums.{sum_zero, count_sum}
use Rattle.machine.proofs.List.Owes.{upd}
use Rattle.machine.proofs.Protocol.BlockState.{Status, Seen, seen, block_no, project}
use Rattle.machine.proofs.Protocol.Invariant.{Inv}
use Rattle.machine.proofs.Protocol.Moves.{wait_seen, send_all, serve_state}
use Rattle.machine.proofs.Protocol.MemoryClose.{close_keeps}
use Rattle.machine.proofs.Protocol.MemoryServe.{serve_opens}
use Rattle.machine.proofs.Projection.Project.{project_here}
use Rattle.machine.proofs.Store.ServeBounds.{served_lane, served_block, served_entry, served_to, served_sized, served_room, served_none}
use Rattle.machine.proofs.Store.Consistent.{Consistent, StaysConsistent, refused_consistent}
use Rattle.machine.proofs.Store.ConsistentMove.{Shows, commit_consistent}
use Rattle.machine.proofs.Rules.Rules.{serve_rule}
use Rattle.machine.proofs.Rules.RulesMemory.{serve_move_rule}
use Rattle.std.specs.Prelude.{Some, None, Ok}

-- none below n passes a test that counts none
count_none : (p : ℕ → Bool) (n : ℕ) → count_to p n ≡ 0 → (j : ℕ) → j < n → p j ≡ false
count_none p n e j h = go (p j) (sum_zero (λ i. cond (p i) 1 0) n (sym (count_sum p n) ∙ e) j h)
  where
    go : (b : Bool) → ◌≡◌ {A = ℕ} (cond b 1 0) 0 → b ≡ false
    go true q = clash (cc)
    go false q = refl

-- a message to nobody
pub send_none : (to : List Bool) (x : DownMessage) (g : ℕ → Seen) → ((j : ℕ) → goes_to to j ≡ false) → send_all to x g ≡ g
send_none to x g e = fun_ext (λ j. rw (e j))

pub goes_none : (to : List Bool) → length to ≡ 8 → count_of to ≡ 0 → (j : ℕ) → goes_to to j ≡ false
unfolding count_of
goes_none to t e j = go (below? j 8)
  where
    go : (j < 8) ⊎ (8 ≤ j) → goes_to to j ≡ false
    go (inl h) = count_none (goes_to to) 8 e j h
    go (inr h) = let p : length to ≤ j = omega arith in get_or-eq_default to false p

-- a grant is about its service's block
pub grant_block : (b : Block) (v : Service) → (grant_of b v).block ≡ v.block
grant_block b v = by_cond (λ (x : DownMessage). x.block ≡ v.block) v.bare _ _ refl refl

pub only_length : (k : LaneNo) → length (only k) ≡ 8
only_length k = length-set nobody k.0 true

module _ (s : Store) (f : List ℕ) (i : Consistent s f) (k : LaneNo) (h : k.0 < s.shape.n) (o : Operation) (e : (lane_at s k.0).waiting ≡ Unserved o)
    (free : busy_for s.shape.limit s.control (block_of o.word) ≡ false) (clear : (lane_at s k.0).returns.len ≡ 0) where
  -- the block of the operation, its entry, the lanes that orders go to, the service
  abbrev x : BlockNo
  x = block_of o.word

  abbrev b : Block
  b = block_at s x.0

  abbrev to : List Bool
  to = ordered b k o.command

  abbrev v : Service
  v = service_for k o b (count_of to)

  abbrev t : Lane
  t = with_waiting (Served o) (lane_at s k.0)

  lane_below : k.0 < 8
  lane_below = served_lane s k o i.sound i.sized h e

  block_below : x.0 < s.shape.m
  block_below = served_block s k o i.sound i.sized h e

  entry_below : x.0 < 64
  entry_below = served_entry s k o i.sound i.sized h e

  to_length : length to ≡ 8
  to_length = served_to s k o i.sound i.sized h e

  t_sized : LaneSized t
  t_sized = served_sized s k o i.sound i.sized h e

  seen_here : seen s.shape.c x t ≡ wait_seen (Served o) (seen s.shape.c x (lane_at s k.0))
  unfolding seen
  seen_here = rw (eq-eqb x.0 x.0 refl)

  seen_there : (a : ℕ) → a ≢ x.0 → seen s.shape.c (block_no a) t ≡ seen s.shape.c (block_no a) (lane_at s k.0)
  unfolding seen
  seen_there a n = rw (e, ne_eqb x.0 a (λ q. n (sym q)))

  waits : (seen s.shape.c x (lane_at s k.0)).waiting ≡ Unserved o
  unfolding seen
  waits = rw (e, eq-eqb x.0 x.0 refl)

  returned : (seen s.shape.c x (lane_at s k.0)).returns ≡ []
  unfolding seen
  returned = rw clear

  none : slot_of s.control x ≡ 8
  none = (not_busy_for s.shape.limit s.control x free).0

  no_service : service_of s.control x ≡ None
  no_service = served_none s x free

  room : Vacant s.control
  room = served_room s x i.sound free

  pub own : service_of (with_service v s.control) x ≡ Some v
  own = opened_own s.control v i.sized.slots room none

  -- the service is open, be it that it awaits none
  opened : (u : (ℕ → Status)) × Inv u (serve_state k o (project s x.0)) (flat_block f x.0)
  opened =
      let p = i.block x.0 block_below in
      (p.0, serve_opens p.0 (project s x.0) (flat_block f x.0) k o p.1 lane_below waits returned no_service)

  pub open_shows : Shows s f k x (record { answer = Ok Step; lane = t; block = b; control = with_service v s.control; to = to; message = bare_message (order_of o.command) x })
  open_shows =
      record {
        answer = refl;
        below = entry_below;
        to = to_length;
        lane = t_sized;
        about = λ j q. refl;
        lines = refl;
        pending = rw e;
        unseen = seen_there;
        control = λ a n. opened_other s.control v i.sized.slots room (block_no a) (λ q. n (sym q));
        here = λ g. rw (project_here s k x _ g, seen_here, own) opened;
      }

  -- a service that awaits none: its orders change no lane
  abbrev served : ℕ → Seen
  served = upd (project s x.0).lane k.0 (wait_seen (Served o) ((project s x.0).lane k.0))

  closed : count_of to ≡ 0 →
      (u : (ℕ → Status)) ×
      Inv u (record { lane = send_all (only k) (grant_of b v) served; block = closed_block o.command b k; service = None }) (flat_block f x.0)
  closed none =
      rw (← send_none to (bare_message (order_of o.command) x) served (goes_none to to_length none))
      (close_keeps opened.0 (serve_state k o (project s x.0)) (flat_block f x.0) v opened.1 refl none)

  pub close_shows : count_of to ≡ 0 → Shows s f k x (close v t b s.control)
  unfolding close
  close_shows none =
      record {
        answer = refl;
        below = entry_below;
        to = only_length k;
        lane = t_sized;
        about = λ j q. ap (λ (y : BlockNo). y.0) (grant_block b v);
        lines = refl;
        pending = rw e;
        unseen = seen_there;
        control = λ a n. refl;
        here = λ g. rw (project_here s k x _ g, seen_here, no_service) (closed none);
      }

  pub ready_consistent : StaysConsistent s f (commit_move s k x (serve_move k o (lane_at s k.0) b s.control))
  ready_consistent =
      commit_consistent s f i k lane_below x (serve_move k o (lane_at s k.0) b s.control)
      (serve_move_rule (Shows s f k x) k o (lane_at s k.0) b s.control close_shows (λ _. open_shows))

pub serve_consistent : (s : Store) (f : List ℕ) (k : LaneNo) → Consistent s f → StaysConsistent s f (serve_of s k)
serve_consistent s f k i =
    serve_rule (StaysConsistent s f) s k (λ x. refused_consistent s f x i)
    (λ o r. ready_consistent s f i k r.lane o r.unserved r.free r.clear)
