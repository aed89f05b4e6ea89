-- The bounds that memory's part of a call asks for, from a store that is not corrupt. Assumes nothing.
use Prim.Native.Nat.{ℕ, ◌<◌, ◌≤◌}
use native.Mathlib.Omega.{arith}
use mathlib.Core.Bool.{false}
use mathlib.Core.Path.{◌≡◌, sym, ap, ◌∙◌}
use lib.Dec.{ltb}
use borrow.Author.Tests.{eqb-false}
use Rattle.words.specs.declared.LaneNo.{LaneNo}
use Rattle.words.specs.Units.{block_of}
use Rattle.words.proofs.Folds.{skip}
use Rattle.queues.specs.Messages.{ReturnMessage}
use Rattle.queues.specs.Queues.{ReturnQueue, no_return, empty_at, head_return, after_take, take_of}
use Rattle.lanes.specs.declared.Lane.{Lane}
use Rattle.lanes.specs.Lanes.{with_returns}
use Rattle.lanes.specs.declared.Operation.{Operation}
use Rattle.lanes.specs.declared.Waiting.{Waiting}
use Rattle.lanes.specs.declared.Waiting.TheVariants.{Idle, Unserved, Served}
use Rattle.answers.specs.declared.Refusal.{Refusal}
use Rattle.store.specs.declared.Store.{Store}
use Rattle.store.specs.declared.Control.{Control}
use Rattle.store.specs.Control.{busy_for}
use Rattle.store.specs.Stores.{lane_at}
use Rattle.store.proofs.Services.{found}
use Rattle.machine.specs.Machine.Corruption.{corrupt_of}
use Rattle.machine.specs.Machine.Serve.{ready_with, ready_of}
use Rattle.memory_return.specs.Bounds.{LaneBelow}
use Rattle.memory_return.proofs.Taking.{taken}
use Rattle.machine.proofs.Bounds.Sound.{ControlSound, service_sound, sound}
use Rattle.std.specs.Prelude.{Ok, Err, Option, Some, None}

no_go : {r : Refusal} {o : Operation} → Err r ≡ Ok o → ⊥
no_go e = let z : ◌≡◌ {A = ℕ} 0 1 = cc in omega arith

-- an operation that is ready is the lane's unserved one
ready_waits : (l : Lane) (limit : ℕ) (x : Control) (w : Waiting) (o : Operation) → ready_with w l limit x ≡ Ok o → w ≡ Unserved o
ready_waits l limit x Idle o e = absurd (no_go e)
ready_waits l limit x (Served p) o e = absurd (no_go e)
ready_waits l limit x (Unserved p) o e =
    let f = (skip (busy_for limit x (block_of p.word)) e no_go).1 in
    let g = (skip (ltb 0 l.returns.len) f no_go).1 in
    cc

below_eight : (n m limit : ℕ) (x : Control) → n ≤ 8 → ControlSound n m limit x → LaneBelow x 8
below_eight n m limit x h g a v e = let l = (service_sound n m limit x a v g (found x a v e)).lane in omega arith

module _ (s : Store) (k : LaneNo) (e : corrupt_of s ≡ false) (h : k.0 < s.shape.n) where
  pub ready_bound : (o : Operation) → ready_of (lane_at s k.0) s.shape.limit s.control ≡ Ok o → (block_of o.word).0 < 64
  unfolding ready_of
  ready_bound o r =
      let g = sound s e in
      let p = (g.lane k.0 h).unserved o (ready_waits (lane_at s k.0) s.shape.limit s.control (lane_at s k.0).waiting o r) in
      let q = g.m_high in
      omega arith

  pub head_bound : {o : Option (ReturnMessage × ReturnQueue)} {x : ReturnMessage} {r : ReturnQueue} →
      o ≡ take_of no_return (lane_at s k.0).returns → o ≡ Some (x, r) → x.block.0 < 64
  head_bound t p =
      let g = sound s e in
      let n = taken (lane_at s k.0) t p in
      let i = (g.lane k.0 h).returns.inside 0 (omega (arith, eqb-false (lane_at s k.0).returns.len 0 n.0)) in
      let q = g.m_high in
      omega (arith, ap (λ (y : ReturnMessage). y.block.0) n.1.0)

  pub service_bound : LaneBelow s.control 8
  service_bound = below_eight s.shape.n s.shape.m s.shape.limit s.control (sound s e).n_high (sound s e).control
