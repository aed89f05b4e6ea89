-- What take gives of a lane's return queue. Assumes nothing.
use Prim.Native.Nat.{ℕ}
use native.Mathlib.Omega.{arith}
use mathlib.Core.Bool.{Bool, true, false, cond}
use mathlib.Core.Path.{◌≡◌, refl, sym, ap, ◌∙◌}
use Rattle.std.specs.Prelude.{Option, Some, None}
use Rattle.words.proofs.Folds.{skip}
use Rattle.queues.specs.Messages.{ReturnMessage}
use Rattle.queues.specs.Queues.{ReturnQueue, no_return, empty_at, head_return, after_take, take_of}
use Rattle.lanes.specs.declared.Lane.{Lane}
use Rattle.lanes.specs.Lanes.{with_returns}

no_head : {X : Type 0} {x : X} → None ≡ Some x → ⊥
no_head e = let z : ◌≡◌ {A = ℕ} 0 1 = cc in omega arith

-- the head of a queue that is not empty, and the lane gets the queue without it
pub taken : (l : Lane) {o : Option (ReturnMessage × ReturnQueue)} {x : ReturnMessage} {r : ReturnQueue} → o ≡ take_of no_return l.returns → o ≡ Some (x, r) →
    (empty_at l.returns.len ≡ false) × ((head_return l.returns ≡ x) × (with_returns r l ≡ with_returns (after_take l.returns) l))
taken l {o} {x} {r} t e =
    let n = skip (empty_at l.returns.len) (sym t ∙ e) no_head in
    let w : (head_return l.returns, after_take l.returns) ≡ (x, r) = cc in
    (n.0, (ap (λ (p : ReturnMessage × ReturnQueue). p.0) w, ap (λ (p : ReturnMessage × ReturnQueue). with_returns p.1 l) (sym w)))

-- an empty queue stays as it is
pub untaken : (l : Lane) {o : Option (ReturnMessage × ReturnQueue)} → o ≡ take_of no_return l.returns → o ≡ None → l ≡ with_returns (after_take l.returns) l
untaken l {o} t e = let b = go (empty_at l.returns.len) _ (sym t ∙ e) in rw b refl
  where
    go : (b : Bool) (y : ReturnMessage × ReturnQueue) → cond {A = Option (ReturnMessage × ReturnQueue)} b None (Some y) ≡ None → b ≡ true
    go true y f = refl
    go false y f = absurd (no_head {X = ReturnMessage × ReturnQueue} (sym f))
