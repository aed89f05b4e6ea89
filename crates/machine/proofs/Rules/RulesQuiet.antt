-- What a quiet store is: no service, and no lane waits or has a message queued. Assumes nothing.
use Prim.Native.Nat.{ℕ, ◌<◌}
use mathlib.Core.Path.{◌≡◌}
use mathlib.Core.Bool.{true, false, ◌||◌}
use lib.Dec.{ltb}
use borrow.Author.Tests.{ltb-false}
use native.Mathlib.Omega.{arith}
use Rattle.words.proofs.Folds.{any_false, or_left, or_right}
use Rattle.lanes.specs.declared.Lane.{Lane}
use Rattle.lanes.specs.declared.Waiting.TheVariants.{Idle}
use Rattle.lanes.specs.Waits.{idle_of}
use Rattle.store.specs.declared.Store.{Store}
use Rattle.store.specs.Control.{open_services, busy_of}
use Rattle.store.specs.Stores.{lane_at}
use Rattle.store.specs.Quiet.{active_of, quiet_of}
use Rattle.machine.proofs.Laws.Tests.{on, not_false}
use Rattle.machine.proofs.Bounds.KeepsLane.{clash}
use Rattle.machine.proofs.Rules.Rules.{idle_waiting}

-- a lane that does not stir
pub record Still (l : Lane) : Type 0 where
  pub waits : l.waiting ≡ Idle
  pub returns : l.returns.len ≡ 0
  pub downs : l.downs.len ≡ 0

still : (l : Lane) → active_of l ≡ false → Still l
unfolding active_of
still l e =
    on (idle_of l.waiting)
    (λ w.
    let d : (ltb 0 l.returns.len || ltb 0 l.downs.len) ≡ false = rw w at e in
    let r = ltb-false 0 l.returns.len (or_left (ltb 0 l.returns.len) (ltb 0 l.downs.len) d) in
    let q = ltb-false 0 l.downs.len (or_right (ltb 0 l.returns.len) (ltb 0 l.downs.len) d) in
    record { waits = idle_waiting l.waiting w; returns = omega arith; downs = omega arith })
    (λ w. let d : true ≡ false = rw w at e in clash (cc))

module _ (s : Store) (quiet : quiet_of s ≡ true) where
  not_busy : busy_of s.control ≡ false
  unfolding quiet_of
  not_busy = on (busy_of s.control) (λ b. let d : false ≡ true = rw b at quiet in clash (cc)) (λ b. b)

  pub no_services : open_services s.control ≡ 0
  no_services = let a = ltb-false 0 (open_services s.control) not_busy in omega arith

  pub lane_still : (k : ℕ) → k < s.shape.n → Still (lane_at s k)
  unfolding quiet_of
  lane_still k h = still (lane_at s k) (any_false (λ j. active_of (lane_at s j)) s.shape.n k (not_false _ (rw not_busy at quiet)) h)
