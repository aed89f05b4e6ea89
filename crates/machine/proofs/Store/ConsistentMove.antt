-- Memory's part of a call put back: what is left to show is what its block sees. Assumes nothing.
use Prim.Native.Nat.{ℕ, ◌<◌}
use mathlib.Core.Logic.{◌⊎◌, inl, inr, ◌≢◌}
use mathlib.Core.Path.{◌≡◌, refl, ap, ◌∙◌}
use mathlib.Core.Bool.{Bool, true, false, cond}
use mathlib.Core.List.{List}
use lib.Dec.{eqb}
use lib.ListN.{length, set}
use borrow.Author.Tests.{eq-eqb, ne_eqb}
use Rattle.words.specs.declared.LaneNo.{LaneNo}
use Rattle.words.specs.declared.BlockNo.{BlockNo}
use Rattle.words.proofs.Folds.{pick}
use Rattle.queues.specs.Queues.{capacity}
use Rattle.queues.specs.Messages.{DownMessage}
use Rattle.lanes.specs.declared.Lane.{Lane}
use Rattle.answers.specs.declared.Answer.TheVariants.{Step}
use Rattle.answers.specs.declared.Refusal.TheVariants.{QueueFull}
use Rattle.store.specs.declared.Store.{Store}
use Rattle.store.specs.Control.{service_of}
use Rattle.store.specs.Stores.{lane_at}
use Rattle.store.specs.LaneSets.{goes_to}
use Rattle.machine.specs.Machine.Parts.{Move}
use Rattle.machine.specs.Machine.Change.{some_full, posted, commit_move, moved_store}
use Rattle.machine.specs.Claims.Flat.{flat_block}
use Rattle.machine.specs.Machine.Sized.{LaneSized}
use Rattle.machine.proofs.Laws.Sets.{same?}
use Rattle.machine.proofs.Protocol.BlockState.{Status, seen, block_no, project}
use Rattle.machine.proofs.Protocol.Invariant.{Inv}
use Rattle.machine.proofs.Projection.Project.{Moves, lane_sent, project_there}
use Rattle.machine.proofs.Store.Consistent.{Consistent, pending_of, StaysConsistent, refused_consistent, pending_same}
use Rattle.std.specs.Prelude.{Ok}

-- what memory's part of a call changes: of its lane neither lines nor what it waits for; of its lane and the control nothing that
-- another block sees; and its block keeps the invariant
pub record Shows (s : Store) (f : List ℕ) (k : LaneNo) (x : BlockNo) (v : Move) : Type 0 where
  pub answer : v.answer ≡ Ok Step
  pub below : x.0 < 64
  pub to : length v.to ≡ 8
  pub lane : LaneSized v.lane
  pub about : (j : ℕ) → goes_to v.to j ≡ true → v.message.block.0 ≡ x.0
  pub lines : v.lane.lines ≡ (lane_at s k.0).lines
  pub pending : pending_of v.lane.waiting ≡ pending_of (lane_at s k.0).waiting
  pub unseen : (a : ℕ) → a ≢ x.0 → seen s.shape.c (block_no a) v.lane ≡ seen s.shape.c (block_no a) (lane_at s k.0)
  pub control : (a : ℕ) → a ≢ x.0 → service_of v.control (block_no a) ≡ service_of s.control (block_no a)
  pub here : Moves s k x v → (u : (ℕ → Status)) × Inv u (project (moved_store s k x v) x.0) (flat_block f x.0)

module _ (s : Store) (f : List ℕ) (i : Consistent s f) (k : LaneNo) (h : k.0 < 8) (x : BlockNo) (v : Move) (w : Shows s f k x v) where
  -- a part of a lane that neither a message nor the call changes
  lane_part : {A : Type 0} (g : Lane → A) → ((m : DownMessage) (l : Lane) → g (posted capacity m l) ≡ g l) → g v.lane ≡ g (lane_at s k.0) →
      (j : ℕ) → g (lane_at (moved_store s k x v) j) ≡ g (lane_at s j)
  lane_part g p e j = ap g (lane_sent s k.0 v.lane v.to v.message j w.to i.sized.lanes h) ∙ sent (goes_to v.to j)
    where
      put : (j ≡ k.0) ⊎ (j ≢ k.0) → g (cond (eqb j k.0) v.lane (lane_at s j)) ≡ g (lane_at s j)
      put (inl q) = rw (q, eq-eqb k.0 k.0 refl) e
      put (inr n) = rw (ne_eqb j k.0 n) refl

      sent : (b : Bool) → g (cond b (posted capacity v.message (cond (eqb j k.0) v.lane (lane_at s j))) (cond (eqb j k.0) v.lane (lane_at s j))) ≡ g (lane_at s j)
      sent true = p v.message _ ∙ put (same? j k.0)
      sent false = put (same? j k.0)

  moved : Moves s k x v → StaysConsistent s f (record { answer = v.answer; store = moved_store s k x v })
  moved g =
      record {
        flat = f;
        unique = λ j. rw (lane_part (λ (l : Lane). l.lines) (λ m l. refl) w.lines j) (i.unique j);
        block = λ a l. go a l (same? a x.0);
        completes = rw w.answer (pending_same s (moved_store s k x v) refl (lane_part (λ (l : Lane). pending_of l.waiting) (λ m l. refl) w.pending), refl);
      }
    where
      go : (a : ℕ) → a < s.shape.m → (a ≡ x.0) ⊎ (a ≢ x.0) → (u : (ℕ → Status)) × Inv u (project (moved_store s k x v) a) (flat_block f a)
      go a l (inl e) = rw e (w.here g)
      go a l (inr n) = rw (project_there s k x v g a n (w.unseen a n) (w.control a n)) (i.block a l)

  -- the part that stays, put back, or refused where a queue is full
  pub commit_consistent : StaysConsistent s f (commit_move s k x v)
  unfolding commit_move
  commit_consistent =
      rw w.answer
      (pick (StaysConsistent s f) (some_full capacity v.to (set s.lanes k.0 v.lane)) _ _ (λ _. refused_consistent s f QueueFull i)
      (λ e. rw w.answer at (moved (record { sized = i.sized; lane_below = h; block_below = w.below; to = w.to; lane = w.lane; space = e; about = w.about }))))
