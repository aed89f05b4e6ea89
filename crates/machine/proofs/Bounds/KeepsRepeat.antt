-- A step of settle, which is a deliver, a return or a serve, keeps a store that is not corrupt so. Assumes nothing.
use mathlib.Core.Path.{◌≡◌}
use mathlib.Core.Bool.{false}
use Rattle.lanes.specs.UseOrder.{Insertion}
use Rattle.store.specs.declared.Store.{Store}
use Rattle.store.specs.declared.Outcome.{Outcome}
use Rattle.machine.specs.Machine.Corruption.{corrupt_of}
use Rattle.machine.specs.Machine.Settle.{settle_step, lane}
use Rattle.machine.proofs.Bounds.Keeps.{Whole, serve_keeps, return_keeps, deliver_keeps}
use Rattle.machine.proofs.Rules.RulesSettle.{step_rule}

pub settle_step_keeps : (ins : Insertion) (s : Store) → corrupt_of s ≡ false → Whole s → corrupt_of (settle_step ins s).store ≡ false
settle_step_keeps ins s e h =
    step_rule ins (λ (r : Outcome). corrupt_of r.store ≡ false) s (λ k _ _. deliver_keeps ins s (lane k) e h) (λ _ k _ _. return_keeps s (lane k) e)
    (λ _ _ k _ _. serve_keeps s (lane k) e) (λ _ _ _. e)
