-- Memory's part of a call put back into a live store: what is left to show is its lane, what its block is owed, and its control.
-- Assumes nothing.
use Prim.Native.Nat.{ℕ, ◌<◌, ◌≤◌}
use mathlib.Core.Logic.{◌⊎◌, inl, inr, ◌≢◌}
use mathlib.Core.Path.{◌≡◌, refl, sym, ap, ◌∙◌}
use mathlib.Core.Bool.{Bool, false, cond}
use mathlib.Core.List.{List}
use lib.Dec.{eqb}
use lib.ListN.{set}
use native.Mathlib.Omega.{arith}
use Rattle.words.specs.declared.LaneNo.{LaneNo}
use Rattle.words.specs.declared.BlockNo.{BlockNo}
use Rattle.words.proofs.Folds.{by_cond, pick}
use Rattle.queues.specs.Queues.{capacity}
use Rattle.queues.specs.Messages.{DownMessage}
use Rattle.store.specs.declared.Store.{Store}
use Rattle.store.specs.declared.Outcome.{Outcome}
use Rattle.store.specs.declared.Service.{Service}
use Rattle.store.specs.Control.{service_of}
use Rattle.store.specs.Stores.{lane_at}
use Rattle.store.specs.LaneSets.{goes_to}
use Rattle.machine.specs.Machine.Parts.{Move}
use Rattle.machine.specs.Machine.Change.{some_full, commit_move, moved_store}
use Rattle.machine.specs.Machine.Settle.{is_order}
use Rattle.machine.proofs.Laws.Sets.{same?}
use Rattle.machine.proofs.List.Owes.{upd}
use Rattle.machine.proofs.Protocol.BlockState.{Seen, BlockState, seen, project}
use Rattle.machine.proofs.Protocol.Invariant.{owed}
use Rattle.machine.proofs.Protocol.Moves.{send_all}
use Rattle.machine.proofs.Protocol.MemoryMoves.{post_owed}
use Rattle.machine.proofs.Projection.Searches.{same_block}
use Rattle.machine.proofs.Projection.Project.{Moves, lane_sent, project_here, project_there}
use Rattle.machine.proofs.Store.Consistent.{Consistent}
use Rattle.machine.proofs.Store.ConsistentMove.{Shows}
use Rattle.machine.proofs.Settle.Live.{LaneLive, Live}
use Rattle.machine.proofs.Settle.LiveLane.{posted_live}
use Rattle.std.specs.Prelude.{Some}

-- what a message to some lanes adds to what they owe: at most one, and a grant nothing
pub send_most : (to : List Bool) (m : DownMessage) (g : ℕ → Seen) (j : ℕ) → owed (g j) ≡ 0 → owed (send_all to m g j) ≤ 1
send_most to m g j e =
    let p = post_owed m (g j) in
    let q = by_cond (λ n. n ≤ 1) (is_order m.kind) 1 0 (omega arith) (omega arith) in
    by_cond (λ (l : Seen). owed l ≤ 1) (goes_to to j) _ _ (omega arith) (omega arith)

pub send_grant : (to : List Bool) (m : DownMessage) (g : ℕ → Seen) (j : ℕ) → is_order m.kind ≡ false → owed (send_all to m g j) ≡ owed (g j)
send_grant to m g j e = by_cond (λ (l : Seen). owed l ≡ owed (g j)) (goes_to to j) _ _ (post_owed m (g j) ∙ rw e (omega arith)) refl

-- what memory's part of a call has to show beside `Shows`
pub record ShowsLive (s : Store) (k : LaneNo) (x : BlockNo) (v : Move) : Type 0 where
  pub lane : LaneLive s.shape.c v.lane
  pub one : (j : ℕ) → owed (send_all v.to v.message (upd (project s x.0).lane k.0 (seen s.shape.c x v.lane)) j) ≤ 1
  pub awaits : (u : Service) → service_of v.control x ≡ Some u → u.awaited ≢ 0

module _ (s : Store) (f : List ℕ) (i : Consistent s f) (live : Live s) (k : LaneNo) (h : k.0 < 8) (x : BlockNo) (v : Move) (w : Shows s f k x v) (y : ShowsLive s k x v) where
  -- each lane after it
  lane_moved : (j : ℕ) → LaneLive s.shape.c (lane_at (moved_store s k x v) j)
  lane_moved j =
      rw (lane_sent s k.0 v.lane v.to v.message j w.to i.sized.lanes h)
      (by_cond (LaneLive s.shape.c) (goes_to v.to j) _ _ (posted_live s.shape.c v.message _ put) put)
    where
      put : LaneLive s.shape.c (cond (eqb j k.0) v.lane (lane_at s j))
      put = by_cond (LaneLive s.shape.c) (eqb j k.0) v.lane (lane_at s j) y.lane (live.lane j)

  -- the store after it
  moved : Moves s k x v → Live (moved_store s k x v)
  moved g = record { lane = lane_moved; one = λ a b j. go a b j (same? a x.0); awaits = λ a u e. awaits a u e (same? a.0 x.0) }
    where
      awaits : (a : BlockNo) (u : Service) → service_of v.control a ≡ Some u → (a.0 ≡ x.0) ⊎ (a.0 ≢ x.0) → u.awaited ≢ 0
      awaits a u e (inl q) = y.awaits u (ap (service_of v.control) (sym (same_block a x q)) ∙ e)
      awaits a u e (inr n) = live.awaits a u (sym (w.control a.0 n) ∙ e)

      go : (a : ℕ) → a < s.shape.m → (j : ℕ) → (a ≡ x.0) ⊎ (a ≢ x.0) → owed ((project (moved_store s k x v) a).lane j) ≤ 1
      go a b j (inl e) =
          let p = ap (λ (d : ℕ). owed ((project (moved_store s k x v) d).lane j)) e in
          let q = ap (λ (d : BlockState). owed (d.lane j)) (project_here s k x v g) in
          let r = y.one j in
          omega arith
      go a b j (inr n) =
          let p = ap (λ (d : BlockState). owed (d.lane j)) (project_there s k x v g a n (w.unseen a n) (w.control a n)) in
          let r = live.one a b j in
          omega arith

  -- the part that stays, put back, or refused where a queue is full
  pub commit_live : Live (commit_move s k x v).store
  unfolding commit_move
  commit_live =
      rw w.answer
      (pick (λ (r : Outcome). Live r.store) (some_full capacity v.to (set s.lanes k.0 v.lane)) _ _ (λ _. live)
      (λ e. moved (record { sized = i.sized; lane_below = h; block_below = w.below; to = w.to; lane = w.lane; space = e; about = w.about })))
