-- Every call of demand 3, settle too, keeps the shape. Assumes nothing.
use Prim.Native.Nat.{ℕ, suc}
use mathlib.Core.Path.{refl, ◌∙◌}
use Rattle.lanes.specs.UseOrder.{Insertion}
use Rattle.store.specs.declared.Store.{Store}
use Rattle.store.specs.declared.Outcome.{Outcome}
use Rattle.machine.specs.Machine.Settle.{settle_step, bound_of, Progress, advance, repeat_step, Settlement, settle_of, lane}
use Rattle.machine.specs.Machine.Calls.{Call, Begin, Serve, Return, Deliver, Settle, call_of}
use Rattle.machine.proofs.Bounds.KeepsShape.{SameShape, begin_shape, serve_shape, return_shape, deliver_shape}
use Rattle.machine.proofs.Settle.FallsSettle.{start_at, settle_rule}
use Rattle.machine.proofs.Rules.RulesSettle.{step_rule, repeat_rule}

step_shape : (ins : Insertion) (s : Store) → SameShape s (settle_step ins s).store
step_shape ins s =
    step_rule ins (λ (r : Outcome). SameShape s r.store) s (λ k _ _. deliver_shape ins s (lane k)) (λ _ k _ _. return_shape s (lane k)) (λ _ _ k _ _. serve_shape s (lane k))
    (λ _ _ _. refl)

advance_shape : (ins : Insertion) (p : Progress) → SameShape p.store (advance ins p).store
unfolding advance
advance_shape ins p = step_shape ins p.store

repeat_shape : (ins : Insertion) (n : ℕ) (p : Progress) → SameShape p.store (repeat_step ins n p).store
repeat_shape ins n p =
    repeat_rule ins (λ (r : Progress). SameShape p.store r.store) (λ q _ h. advance_shape ins q ∙ h) n p refl

settle_shape : (ins : Insertion) (s : Store) → SameShape s (settle_of ins s).store
settle_shape ins s = settle_rule ins (λ (r : Settlement). SameShape s r.store) s (λ r. refl) (λ _ _ _. repeat_shape ins (suc (bound_of s)) (start_at s))

pub call_shape : (ins : Insertion) (s : Store) (x : Call) → SameShape s (call_of ins s x).store
unfolding call_of
call_shape ins s (Begin k op w) = begin_shape s k op w
call_shape ins s (Serve k) = serve_shape s k
call_shape ins s (Return k) = return_shape s k
call_shape ins s (Deliver k) = deliver_shape ins s k
call_shape ins s Settle = settle_shape ins s
