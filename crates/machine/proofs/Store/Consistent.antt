-- What a store has that an opening and any calls after it give, beside flat memory f: the bounds, the arrays' lengths, different
-- blocks in the valid lines of a lane, and the protocol's invariant for every block. Assumes nothing.
use Prim.Native.Nat.{ℕ, ◌<◌}
use mathlib.Core.Path.{◌≡◌, refl, fun_ext}
use mathlib.Core.Bool.{false, cond}
use mathlib.Core.List.{List}
use lib.Dec.{ltb}
use Rattle.lanes.specs.declared.Waiting.{Waiting}
use Rattle.lanes.specs.declared.Waiting.TheVariants.{Idle, Unserved, Served}
use Rattle.answers.specs.declared.Refusal.{Refusal}
use Rattle.answers.specs.Completions.{done_in}
use Rattle.store.specs.declared.Store.{Store}
use Rattle.store.specs.declared.Outcome.{Outcome}
use Rattle.store.specs.Stores.{lane_at}
use Rattle.machine.specs.Machine.Corruption.{corrupt_of}
use Rattle.machine.specs.Machine.Change.{refuse}
use Rattle.machine.specs.Claims.Flat.{flat_block}
use Rattle.machine.specs.Machine.Sized.{Sized}
use Rattle.machine.proofs.List.Owes.{Pending, Rests, Completes}
use Rattle.machine.proofs.Protocol.BlockState.{Status, project}
use Rattle.machine.proofs.Protocol.Invariant.{Inv}
use Rattle.machine.proofs.Projection.Searches.{Unique}

pub record Consistent (s : Store) (f : List ℕ) : Type 0 where
  pub sound : corrupt_of s ≡ false
  pub sized : Sized s
  pub unique : (k : ℕ) → Unique s.shape.c (lane_at s k)
  pub block : (a : ℕ) → a < s.shape.m → (v : (ℕ → Status)) × Inv v (project s a) (flat_block f a)

-- what a lane waits for
abbrev pub pending_of : Waiting → Pending
pending_of Idle = Rests
pending_of (Unserved o) = Pending.StillWaits o.op o.word
pending_of (Served o) = Pending.StillWaits o.op o.word

-- .. and lane k of a store: there are n lanes
unfoldable pub pending_in : Store → ℕ → Pending
pending_in s k = cond (ltb k s.shape.n) (pending_of (lane_at s k).waiting) Rests

-- what a step other than begin has to show, beside bounds and lengths, which are known of every step; g is flat memory after it
pub record StaysConsistent (s : Store) (f : List ℕ) (r : Outcome) : Type 0 where
  pub flat : List ℕ
  pub unique : (k : ℕ) → Unique r.store.shape.c (lane_at r.store k)
  pub block : (a : ℕ) → a < r.store.shape.m → (v : (ℕ → Status)) × Inv v (project r.store a) (flat_block flat a)
  pub completes : Completes (pending_in s) f (done_in r.answer) (pending_in r.store) flat

-- a refusal changes nothing
pub refused_consistent : (s : Store) (f : List ℕ) (x : Refusal) → Consistent s f → StaysConsistent s f (refuse x s)
refused_consistent s f x i = record { flat = f; unique = i.unique; block = i.block; completes = (refl, refl) }

-- the operations that wait, lane by lane
pub pending_same : (s t : Store) → t.shape.n ≡ s.shape.n → ((j : ℕ) → pending_of (lane_at t j).waiting ≡ pending_of (lane_at s j).waiting) → pending_in t ≡ pending_in s
unfolding pending_in
pending_same s t n e = fun_ext (λ j. rw (n, e j))
