-- A lane put back into a consistent store: what the blocks see, which lanes wait, and the lines' blocks. Assumes nothing.
use Prim.Native.Nat.{ℕ, ◌<◌}
use mathlib.Core.Logic.{◌⊎◌, inl, inr, ◌≢◌}
use mathlib.Core.Path.{◌≡◌, refl, sym, ap, ◌∙◌, fun_ext}
use mathlib.Core.Bool.{cond}
use mathlib.Core.List.{List}
use lib.Dec.{ltb}
use lib.ListN.{length, get_or, set}
use borrow.Author.Tests.{eq-eqb, ne_eqb, lt-ltb}
use native.Mathlib.Omega.{arith}
use Rattle.lanes.specs.declared.Lane.{Lane}
use Rattle.store.specs.declared.Store.{Store}
use Rattle.store.specs.Stores.{no_lane, lane_at, with_lane, with_completions}
use Rattle.machine.specs.Machine.Sized.{LaneSized}
use Rattle.machine.proofs.Laws.Sets.{same?, set_cases}
use Rattle.machine.proofs.Bounds.Sound.{sound}
use Rattle.machine.proofs.List.Owes.{Pending, Rests, upd}
use Rattle.machine.proofs.Laws.Updates.{upd_self}
use Rattle.machine.proofs.Protocol.BlockState.{Seen, seen, block_no, project}
use Rattle.machine.proofs.Protocol.Moves.{put_lane}
use Rattle.machine.proofs.Projection.Searches.{Unique}
use Rattle.machine.proofs.Projection.Project.{get_d_set, project_lane, project_lane_same}
use Rattle.machine.proofs.Store.Consistent.{Consistent, pending_of, pending_in}

module _ (s : Store) (f : List ℕ) (i : Consistent s f) (k : ℕ) (h : k < s.shape.n) where
  pub lane_below : k < 8
  lane_below = let p = (sound s i.sound).n_high in omega arith

  within : k < length s.lanes
  within = let p = lane_below in let q = i.sized.lanes in omega arith

  pub lane_sized : LaneSized (lane_at s k)
  lane_sized = i.sized.lane k lane_below

  -- what a block sees of it
  pub lane_project : (l : Lane) (x : Seen) (a : ℕ) → seen s.shape.c (block_no a) l ≡ x → project (with_lane s k l) a ≡ put_lane k x (project s a)
  lane_project l x a e = project_lane s k l a within ∙ ap (λ (y : Seen). put_lane k y (project s a)) e

  -- .. where that is nothing
  pub lane_unseen : (l : Lane) (a : ℕ) → seen s.shape.c (block_no a) l ≡ seen s.shape.c (block_no a) (lane_at s k) → project (with_lane s k l) a ≡ project s a
  lane_unseen l a e = project_lane_same s k l a within e

  pub lane_unique : (l : Lane) → Unique s.shape.c l → (j : ℕ) → Unique s.shape.c (lane_at (with_lane s k l) j)
  lane_unique l u j = set_cases (Unique s.shape.c) s.lanes k j l no_lane (λ _. u) (i.unique j)

  -- what its lane waits for
  pub pending_here : pending_in s k ≡ pending_of (lane_at s k).waiting
  unfolding pending_in
  pending_here = rw (lt-ltb k s.shape.n h)

  -- .. once it is put back, whatever the count of completions
  pub lane_pending : (l : Lane) (done : ℕ) → pending_in (with_completions (with_lane s k l) done) ≡ upd (pending_in s) k (pending_of l.waiting)
  unfolding pending_in
  lane_pending l done = fun_ext (λ j. go j (same? j k))
    where
      go : (j : ℕ) → (j ≡ k) ⊎ (j ≢ k) → cond (ltb j s.shape.n) (pending_of (get_or (set s.lanes k l) j no_lane).waiting) Rests ≡ upd (pending_in s) k (pending_of l.waiting) j
      go j (inl e) = rw (get_d_set s.lanes k j l no_lane within, e, eq-eqb k k refl, lt-ltb k s.shape.n h)
      go j (inr n) = rw (get_d_set s.lanes k j l no_lane within, ne_eqb j k n)

  -- .. as before
  pub lane_pending_same : (l : Lane) (done : ℕ) → pending_of l.waiting ≡ pending_of (lane_at s k).waiting → pending_in (with_completions (with_lane s k l) done) ≡ pending_in s
  lane_pending_same l done e = lane_pending l done ∙ ap (λ (x : Pending). upd (pending_in s) k x) (e ∙ sym pending_here) ∙ upd_self (pending_in s) k
