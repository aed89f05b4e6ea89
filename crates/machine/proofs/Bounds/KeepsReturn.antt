-- Return keeps a store within bounds. Assumes nothing.
use Prim.Native.Nat.{ℕ, ◌≤◌}
use mathlib.Core.List.{List}
use lib.ListN.{get_or}
use borrow.Author.Tests.{ne_eqb}
use native.Mathlib.Omega.{arith}
use Rattle.words.specs.declared.LaneNo.{LaneNo}
use Rattle.queues.specs.Messages.{ReturnMessage}
use Rattle.queues.specs.declared.ReturnKind.{ReturnKind}
use Rattle.queues.specs.declared.ReturnKind.TheVariants.{Eject, WriteEject, Updated, Purged, PurgedWords, Gone}
use Rattle.queues.specs.Queues.{head_return, no_return}
use Rattle.lanes.specs.declared.Lane.{Lane}
use Rattle.store.specs.declared.Store.{Store}
use Rattle.store.specs.declared.Block.{Block}
use Rattle.store.specs.declared.Control.{Control}
use Rattle.store.specs.declared.Outcome.{Outcome}
use Rattle.store.specs.Control.{lowered, with_updated, without_service}
use Rattle.store.specs.Stores.{lane_at, block_at}
use Rattle.machine.specs.Machine.Return.{taken_by, send_nothing, return_move, return_of}
use Rattle.machine.proofs.Bounds.Sound.{BlockSound, ControlSound, service_sound}
use Rattle.machine.proofs.Bounds.KeepsLane.{LaneFit, returned_keeps, head_inside}
use Rattle.machine.proofs.Bounds.KeepsBegun.{return_move_waits}
use Rattle.machine.proofs.Bounds.KeepsStore.{Fit, lane_fit, MoveFit, commit_move_keeps}
use Rattle.machine.proofs.Bounds.KeepsServe.{updated_sound, closed_sound, reset_absent, close_keeps}
use Rattle.machine.proofs.Rules.Rules.{return_rule}
use Rattle.machine.proofs.Rules.RulesMemory.{return_move_rule}

-- what a message makes of its block
taken_by_keeps : (n : ℕ) (x : ReturnKind) (ws : List ℕ) (k : LaneNo) (b : Block) → BlockSound n b → BlockSound n (taken_by x ws k b)
taken_by_keeps n Eject ws k b g = record { absent = reset_absent n k.0 b.present g.absent }
taken_by_keeps n WriteEject ws k b g = record { absent = reset_absent n k.0 b.present g.absent }
taken_by_keeps n Updated ws k b g = record { absent = g.absent }
taken_by_keeps n Purged ws k b g = record { absent = reset_absent n k.0 b.present g.absent }
taken_by_keeps n PurgedWords ws k b g = record { absent = reset_absent n k.0 b.present g.absent }
taken_by_keeps n Gone ws k b g = record { absent = reset_absent n k.0 b.present g.absent }

module _ (h n c m limit : ℕ) (z : 1 ≤ m) where
  send_nothing_keeps : (l : Lane) (b : Block) (x : Control) → LaneFit h c m l → BlockSound n b → ControlSound n m limit x → MoveFit h n c m limit (send_nothing l b x)
  send_nothing_keeps l b x f g y = record { lane = f; block = g; control = y; message = z }

  -- memory's part of return
  pub return_move_keeps : (k : LaneNo) (x : ReturnMessage) (l : Lane) (b : Block) (y : Control) → LaneFit h c m l → BlockSound n b → ControlSound n m limit y →
      MoveFit h n c m limit (return_move k x l b y)
  return_move_keeps k x l b y f g w =
      let t = returned_keeps h c m l f z in
      let u = taken_by_keeps n x.kind x.words k b g in
      return_move_rule (MoveFit h n c m limit) k x l b y (λ _. send_nothing_keeps _ _ y t u w) (record { lane = f; block = g; control = w; message = z })
      (λ _ v q _. let d = service_sound n m limit y v.block v w q.at in close_keeps h n c m limit v _ _ (without_service v y) d.lane d.block t u (closed_sound n m limit v y w v q.at))
      (λ _ v q _. let d = service_sound n m limit y v.block v w q.at in send_nothing_keeps _ _ (with_updated (lowered v) y) t u
      (updated_sound n m limit (lowered v) y w v q.at (record { lane = d.lane; block = d.block; awaited = let e = d.awaited in omega arith })))

pub return_fit : (h : ℕ) (s : Store) (k : LaneNo) → Fit h s → Fit h (return_of s k).store
return_fit h s k g =
    return_rule (λ (r : Outcome). Fit h r.store) s k (λ _. g)
    (λ r.
    let f = lane_fit h s g k.0 r.lane in
    let x = head_return (lane_at s k.0).returns in
    let b = head_inside s.shape.m (lane_at s k.0).returns.len (λ i. (get_or (lane_at s k.0).returns.at i no_return).block.0) f.sound.returns (ne_eqb _ _ r.filled) in
    commit_move_keeps h s k x.block _ g
    (return_move_keeps h s.shape.n s.shape.c s.shape.m s.shape.limit g.sound.m_low k x (lane_at s k.0) (block_at s x.block.0) s.control f (g.sound.block x.block.0 b) g.sound.control)
    (return_move_waits k x (lane_at s k.0) (block_at s x.block.0) s.control))
