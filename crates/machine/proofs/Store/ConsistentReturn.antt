-- Return keeps a store consistent. Assumes nothing.
use Prim.Native.Nat.{ℕ, ◌<◌}
use mathlib.Core.Logic.{◌≢◌}
use mathlib.Core.Path.{◌≡◌, refl, sym, ap, ◌∙◌}
use mathlib.Core.Bool.{true, false}
use mathlib.Core.List.{List, ◌∷◌}
use borrow.Author.Tests.{eq-eqb, ne_eqb}
use native.Mathlib.Omega.{arith}
use Rattle.words.specs.declared.LaneNo.{LaneNo}
use Rattle.words.specs.declared.BlockNo.{BlockNo}
use Rattle.queues.specs.Messages.{ReturnMessage}
use Rattle.queues.specs.Queues.{head_return, after_take}
use Rattle.queues.proofs.Shifts.{length_shifted}
use Rattle.lanes.specs.declared.Lane.{Lane}
use Rattle.lanes.specs.Lanes.{with_returns}
use Rattle.answers.specs.declared.Refusal.TheVariants.{Unexpected}
use Rattle.store.specs.declared.Store.{Store}
use Rattle.store.specs.declared.Block.{Block}
use Rattle.store.specs.declared.Service.{Service}
use Rattle.store.specs.declared.Control.{Control}
use Rattle.store.specs.Control.{service_of, lowered, with_updated, without_service}
use Rattle.store.proofs.Services.{updated_own, updated_other, closed_own, closed_other}
use Rattle.store.specs.Stores.{lane_at, block_at}
use Rattle.store.specs.LaneSets.{nobody}
use Rattle.machine.specs.Machine.Parts.{Move}
use Rattle.machine.specs.Machine.Change.{no_message, commit_move}
use Rattle.machine.specs.Machine.Serve.{close}
use Rattle.machine.specs.Machine.Return.{taken_by, is_answer, send_nothing, return_move, return_of}
use Rattle.machine.specs.Claims.Flat.{flat_block}
use Rattle.machine.specs.Machine.Sized.{LaneSized}
use Rattle.machine.proofs.Bounds.Sound.{sound}
use Rattle.machine.proofs.Bounds.KeepsLane.{clash}
use Rattle.machine.proofs.List.Owes.{upd}
use Rattle.machine.proofs.Protocol.BlockState.{Status, Seen, keep_if, return_about, seen, block_no, project}
use Rattle.machine.proofs.Projection.Queued.{queued_returns, take_returns, keep_head, keep_tail}
use Rattle.machine.proofs.Protocol.Invariant.{Inv}
use Rattle.machine.proofs.Protocol.Moves.{take_seen, return_state}
use Rattle.machine.proofs.Protocol.Directories.{nobody_none}
use Rattle.machine.proofs.Protocol.MemoryClose.{close_keeps}
use Rattle.machine.proofs.Protocol.MemoryReturn.{eject_returns, answer_returns}
use Rattle.machine.proofs.Projection.Project.{project_here}
use Rattle.machine.proofs.Store.Consistent.{Consistent, StaysConsistent, refused_consistent}
use Rattle.machine.proofs.Store.ConsistentMove.{Shows, commit_consistent}
use Rattle.machine.proofs.Store.ConsistentServe.{send_none, grant_block, only_length}
use Rattle.machine.proofs.Rules.Rules.{return_rule}
use Rattle.machine.proofs.Rules.RulesMemory.{Awaited, return_move_rule}
use Rattle.std.specs.Prelude.{Some, None}

module _ (s : Store) (f : List ℕ) (i : Consistent s f) (k : LaneNo) (h : k.0 < s.shape.n) (filled : (lane_at s k.0).returns.len ≢ 0) where
  abbrev l : Lane
  l = lane_at s k.0

  -- the head, its block, the block's entry; the lane and the entry after it was taken
  abbrev x : ReturnMessage
  x = head_return l.returns

  abbrev a : BlockNo
  a = x.block

  abbrev b : Block
  b = block_at s a.0

  abbrev t : Lane
  t = with_returns (after_take l.returns) l

  abbrev u : Block
  u = taken_by x.kind x.words k b

  -- the messages about the block that are left
  abbrev rest : List ReturnMessage
  rest = keep_if (return_about a) (queued_returns (after_take l.returns))

  lane_below : k.0 < 8
  lane_below = let p = (sound s i.sound).n_high in omega arith

  some : 0 < l.returns.len
  some = omega (arith, filled)

  block_below : a.0 < s.shape.m
  block_below = ((sound s i.sound).lane k.0 h).returns.inside 0 some

  entry_below : a.0 < 64
  entry_below = let p = (sound s i.sound).m_high in let q = block_below in omega arith

  l_sized : LaneSized l
  l_sized = i.sized.lane k.0 lane_below

  t_sized : LaneSized t
  t_sized = record { lines = l_sized.lines; order = l_sized.order; returns = rw (ne_eqb _ _ filled) (length_shifted l.returns.at ∙ l_sized.returns); downs = l_sized.downs }

  pub taken : queued_returns l.returns ≡ x ∷ queued_returns (after_take l.returns)
  taken = take_returns l.returns l_sized.returns filled ((sound s i.sound).lane k.0 h).returns.short

  pub has_head : (seen s.shape.c a l).returns ≡ x ∷ rest
  unfolding seen
  has_head = ap (keep_if (return_about a)) taken ∙ keep_head (return_about a) x (queued_returns (after_take l.returns)) (eq-eqb a.0 a.0 refl)

  seen_here : seen s.shape.c a t ≡ take_seen rest (seen s.shape.c a l)
  unfolding seen
  seen_here = refl

  seen_there : (d : ℕ) → d ≢ a.0 → seen s.shape.c (block_no d) t ≡ seen s.shape.c (block_no d) l
  unfolding seen
  seen_there d n =
      let e = ap (keep_if (return_about (block_no d))) taken ∙ keep_tail (return_about (block_no d)) x (queued_returns (after_take l.returns)) (ne_eqb a.0 d (λ q. n (sym q))) in
      ap (λ (r : List ReturnMessage). with_returned r) (sym e)
    where
      with_returned : List ReturnMessage → Seen
      with_returned r = record { line = (seen s.shape.c (block_no d) l).line; words = (seen s.shape.c (block_no d) l).words; returns = r; downs = (seen s.shape.c (block_no d) l).downs; waiting = (seen s.shape.c (block_no d) l).waiting }

  -- the block before
  pub before : (v : (ℕ → Status)) × Inv v (project s a.0) (flat_block f a.0)
  before = i.block a.0 block_below

  -- the head is taken and nothing is sent; y is the control after it, d the block's service in it
  pub quiet_shows : (y : Control) → ((c : ℕ) → c ≢ a.0 → service_of y (block_no c) ≡ service_of s.control (block_no c)) →
      ((v : (ℕ → Status)) × Inv v (return_state k x rest (service_of y a) (project s a.0)) (flat_block f a.0)) → Shows s f k a (send_nothing t u y)
  quiet_shows y c p =
      record {
        answer = refl;
        below = entry_below;
        to = refl;
        lane = t_sized;
        about = λ j q. let r = nobody_none j in clash (cc);
        lines = refl;
        pending = refl;
        unseen = seen_there;
        control = c;
        here = λ g. rw (project_here s k a _ g, seen_here, send_none nobody no_message (upd (project s a.0).lane k.0 (take_seen rest ((project s a.0).lane k.0))) nobody_none) p;
      }

  -- the block has no service once it is closed
  pub gone : (v : Service) → Awaited s.control a v → service_of (without_service v s.control) a ≡ None
  gone v z = ap (service_of (without_service v s.control)) (sym z.block) ∙ closed_own s.control v v z.at (sound s i.sound).control.distinct

  -- the last answer
  pub close_shows : (v : Service) → Awaited s.control a v →
      ((w : (ℕ → Status)) × Inv w (return_state k x rest (Some (lowered v)) (project s a.0)) (flat_block f a.0)) → v.awaited ≡ 1 → Shows s f k a (close v t u (without_service v s.control))
  unfolding close
  close_shows v z p one =
      record {
        answer = refl;
        below = entry_below;
        to = only_length v.lane;
        lane = t_sized;
        about = λ j _. ap (λ (y : BlockNo). y.0) (grant_block u v ∙ z.block);
        lines = refl;
        pending = refl;
        unseen = seen_there;
        control = λ c n. closed_other s.control v v z.at (block_no c) (λ e. n (sym e ∙ ap (λ (y : BlockNo). y.0) z.block));
        here = λ g. rw (project_here s k a _ g, seen_here, gone v z) (close_keeps p.0 (return_state k x rest (Some (lowered v)) (project s a.0)) (flat_block f a.0) (lowered v) p.1 refl (omega arith));
      }

  -- a message that is no answer
  pub eject_shows : is_answer x.kind ≡ false → Shows s f k a (send_nothing t u s.control)
  eject_shows e =
      quiet_shows s.control (λ c n. refl) (eject_returns before.0 (project s a.0) (flat_block f a.0) k x rest before.1 lane_below has_head e)

  -- an answer to the service v: the invariant once it is counted
  module _ (e : is_answer x.kind ≡ true) (v : Service) (w : Awaited s.control a v) where
    counted : (z : (ℕ → Status)) × Inv z (return_state k x rest (Some (lowered v)) (project s a.0)) (flat_block f a.0)
    counted = answer_returns before.0 (project s a.0) (flat_block f a.0) k x rest v before.1 lane_below has_head e w.found w.some

    pub last_shows : v.awaited ≡ 1 → Shows s f k a (close v t u (without_service v s.control))
    last_shows one = close_shows v w counted one

    pub own : service_of (with_updated (lowered v) s.control) a ≡ Some (lowered v)
    own = ap (service_of (with_updated (lowered v) s.control)) (sym w.block) ∙ updated_own s.control (lowered v) v w.at

    pub more_shows : Shows s f k a (send_nothing t u (with_updated (lowered v) s.control))
    more_shows =
        quiet_shows (with_updated (lowered v) s.control)
        (λ j n. updated_other s.control (lowered v) v w.at (block_no j) (λ r. n (sym r ∙ ap (λ (y : BlockNo). y.0) w.block))) (rw own counted)

  pub head_consistent : StaysConsistent s f (commit_move s k a (return_move k x l b s.control))
  unfolding commit_move
  head_consistent =
      return_move_rule (λ (v : Move). StaysConsistent s f (commit_move s k a v)) k x l b s.control (λ e. committed _ (eject_shows e)) (refused_consistent s f Unexpected i)
      (λ e v w one. committed _ (last_shows e v w one)) (λ e v w _. committed _ (more_shows e v w))
    where
      committed : (v : Move) → Shows s f k a v → StaysConsistent s f (commit_move s k a v)
      committed v h = commit_consistent s f i k lane_below a v h

pub return_consistent : (s : Store) (f : List ℕ) (k : LaneNo) → Consistent s f → StaysConsistent s f (return_of s k)
return_consistent s f k i =
    return_rule (StaysConsistent s f) s k (λ x. refused_consistent s f x i) (λ r. head_consistent s f i k r.lane r.filled)
