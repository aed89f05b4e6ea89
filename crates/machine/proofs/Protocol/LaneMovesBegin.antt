-- The moves of begin keep the protocol's invariant: hit, wait, eviction. Assumes nothing.
use Prim.Native.Nat.{ℕ}
use mathlib.Core.Path.{◌≡◌, refl, sym, ap, ◌∙◌, subst}
use mathlib.Core.Bool.{Bool, true, false, cond, ◌||◌}
use mathlib.Core.List.{List}
use native.Mathlib.Omega.{arith}
use Rattle.words.specs.declared.BlockNo.{BlockNo}
use Rattle.words.specs.declared.WordNo.{WordNo}
use Rattle.words.specs.declared.Op.{Op}
use Rattle.words.specs.Operations.{is_load}
use Rattle.queues.specs.Messages.{ReturnMessage}
use Rattle.queues.specs.declared.ReturnKind.TheVariants.{Eject, WriteEject}
use Rattle.queues.specs.Messages.{bare_message, words_message}
use Rattle.lanes.specs.declared.Operation.{Operation}
use Rattle.lanes.specs.declared.Waiting.TheVariants.{Idle, Unserved}
use Rattle.machine.specs.Machine.Return.{is_answer}
use Rattle.machine.proofs.Bounds.KeepsLane.{clash}
use Rattle.machine.proofs.Laws.Tests.{on}
use Rattle.machine.proofs.Protocol.BlockState.{Status, Invalid, Shared, Modified, held, dirty, BlockState, words_done}
use Rattle.machine.proofs.Protocol.Invariant.{Fits, Rest, Chain, owed, served_count, OperationFits, bearing, DownsBear, is_updated, Inv}
use Rattle.machine.proofs.Protocol.Moves.{put_lane, hit_seen, wait_seen, ejection, evict_seen}
use Rattle.machine.proofs.Protocol.Chains.{join, rest_meets, rest_other, rest_due, rest_bears, due_ungranted, due_modified, answers_join, bears_join, updated_join}
use Rattle.machine.proofs.Protocol.LaneMoves.{LaneOwes, lane_keeps, load_done, same_elsewhere, done_elsewhere, unserved_rests}

-- a copy that is PRIVATE is Modified
dirty_modified : (x : Status) → dirty x ≡ true → x ≡ Modified
dirty_modified Invalid e = clash cc
dirty_modified Shared e = clash cc
dirty_modified Modified e = refl

-- an ejection fits the line x that is given up, is no answer, no UPDATED, and bears the line's words if any
abbrev EjectionFits : Status → List ℕ → ReturnMessage → Type 0
EjectionFits x ws m = Fits x m.kind Invalid × (is_answer m.kind ≡ false) × (is_updated m.kind ≡ false) × (bearing m.kind ≡ true → m.words ≡ ws)

ejection_fits : (x : Status) (a : BlockNo) (ws : List ℕ) → held x ≡ true → EjectionFits x ws (cond (dirty x) (words_message WriteEject a ws) (bare_message Eject a))
ejection_fits Invalid a ws h = clash cc
ejection_fits Shared a ws h = ((refl, refl), refl, refl, λ q. clash cc)
ejection_fits Modified a ws h = ((refl, refl), refl, refl, λ q. refl)

module _ (v : ℕ → Status) (b : BlockState) (f : List ℕ) (k : ℕ) where
  -- the operation is done on the line
  pub hit_keeps : (op : Op) (w : WordNo) → Inv v b f → held (b.lane k).line ≡ true → (is_load op || dirty (b.lane k).line) ≡ true →
      Inv v (put_lane k (hit_seen op w (b.lane k)) b) (words_done op w f)
  unfolding owed
  hit_keeps op w i h t = lane_keeps v b (words_done op w f) k (hit_seen op w (b.lane k)) owes f i
    where
      c : Chain (v k) (b.lane k)
      c = i.chain k

      -- no load: the line is Modified, so nothing but orders is due
      rest : is_load op ≡ false → Rest Modified (b.lane k).downs c.meet
      rest e =
          let m = dirty_modified (b.lane k).line (subst (λ (x : Bool). (x || dirty (b.lane k).line) ≡ true) e t) in
          subst (λ (x : Status). Rest x (b.lane k).downs c.meet) m (due_modified (b.lane k).waiting (b.lane k).line (b.lane k).downs c.meet c.due m)

      downs : DownsBear (words_done op w f) (b.lane k).downs
      downs =
          on (is_load op) (λ e. subst (λ (g : List ℕ). DownsBear g (b.lane k).downs) (sym (load_done op w f e)) (i.bears k).downs)
          (λ e. rest_bears (words_done op w f) Modified (b.lane k).downs c.meet (rest e))

      owes : LaneOwes v b (words_done op w f) k (hit_seen op w (b.lane k))
      owes =
          let e = done_elsewhere v b f k i op w (λ n. sym (rest_meets Modified (b.lane k).downs c.meet (rest n))) in
          record {
            chain = record { meet = c.meet; sent = c.sent; due = c.due };
            grant = i.grant k;
            wait = i.wait k;
            bears = record { line = λ q. ap (words_done op w) ((i.bears k).line q); returns = e.returns; downs = downs };
            elsewhere = e;
            owes = refl;
            rests = λ s. record { returns = refl; downs = refl; line = refl; waiting = refl };
            no_update = λ q. q;
            no_updated = λ q r. r;
          }

  -- a lane that rests has no grant under way: what is due is an order at most
  idle_rest : (i : Inv v b f) → (b.lane k).waiting ≡ Idle → Rest (b.lane k).line (b.lane k).downs (i.chain k).meet
  idle_rest i e =
      due_ungranted (b.lane k).waiting (b.lane k).line (b.lane k).downs (i.chain k).meet (i.chain k).due
      (unserved_rests v b f k i (ap served_count e)).0

  -- the operation waits
  pub wait_keeps : (o : Operation) → Inv v b f → (b.lane k).waiting ≡ Idle → OperationFits (b.lane k).line o → Inv v (put_lane k (wait_seen (Unserved o) (b.lane k)) b) f
  unfolding owed
  wait_keeps o i e h = lane_keeps v b f k (wait_seen (Unserved o) (b.lane k)) owes f i
    where
      owes : LaneOwes v b f k (wait_seen (Unserved o) (b.lane k))
      owes =
          let u = unserved_rests v b f k i (ap served_count e) in
          record {
            chain = record {
              meet = (i.chain k).meet;
              sent = (i.chain k).sent;
              due = rest_due (Unserved o) (b.lane k).line (b.lane k).downs (i.chain k).meet (idle_rest i e);
            };
            grant = rw (u.0, u.1);
            wait = h;
            bears = record { line = (i.bears k).line; returns = (i.bears k).returns; downs = (i.bears k).downs };
            elsewhere = same_elsewhere v b f k i;
            owes = refl;
            rests = λ s. clash (cc (u.1, s));
            no_update = λ q. q;
            no_updated = λ q r. r;
          }

  -- the line is given up
  pub evict_keeps : (a : BlockNo) → Inv v b f → (b.lane k).waiting ≡ Idle → held (b.lane k).line ≡ true → Inv v (put_lane k (evict_seen a (b.lane k)) b) f
  unfolding owed
  evict_keeps a i e h = lane_keeps v b f k (evict_seen a (b.lane k)) owes f i
    where
      r : Rest (b.lane k).line (b.lane k).downs (i.chain k).meet
      r = idle_rest i e

      m : ReturnMessage
      m = ejection a (b.lane k)

      fits : EjectionFits (b.lane k).line (b.lane k).words m
      fits = ejection_fits (b.lane k).line a (b.lane k).words h

      owes : LaneOwes v b f k (evict_seen a (b.lane k))
      owes =
          let u = unserved_rests v b f k i (ap served_count e) in
          record {
            chain = record {
              meet = Invalid;
              sent = join (v k) (i.chain k).meet Invalid (b.lane k).returns m (i.chain k).sent
                  (subst (λ (x : Status). Fits x m.kind Invalid) (rest_meets (b.lane k).line (b.lane k).downs (i.chain k).meet r) fits.0);
              due = rest_due (b.lane k).waiting Invalid (b.lane k).downs Invalid (rest_other (b.lane k).line (b.lane k).downs (i.chain k).meet Invalid r);
            };
            grant = i.grant k;
            wait = rw e tt;
            bears = record { line = λ q. clash cc; returns = bears_join f (b.lane k).returns m (i.bears k).returns (λ q. fits.3 q ∙ (i.bears k).line h); downs = (i.bears k).downs };
            elsewhere = same_elsewhere v b f k i;
            owes = rw (answers_join (b.lane k).returns m, fits.1) (omega arith);
            rests = λ s. clash (cc (u.1, s));
            no_update = λ q. q;
            no_updated = λ q s. updated_join (b.lane k).returns m s fits.2;
          }
