-- Every step keeps the shape. Assumes nothing.
use mathlib.Core.Path.{◌≡◌, refl}
use Rattle.words.specs.declared.LaneNo.{LaneNo}
use Rattle.words.specs.declared.BlockNo.{BlockNo}
use Rattle.words.specs.declared.WordNo.{WordNo}
use Rattle.words.specs.declared.Op.{Op}
use Rattle.words.specs.Units.{block_of}
use Rattle.lanes.specs.UseOrder.{Insertion}
use Rattle.store.specs.declared.Store.{Store}
use Rattle.store.specs.declared.Outcome.{Outcome}
use Rattle.machine.specs.Machine.Parts.{LaneStep}
use Rattle.machine.specs.Machine.Parts.{Move}
use Rattle.machine.specs.Machine.Change.{commit_lane, commit_move}
use Rattle.machine.specs.Machine.Begin.{begin_of}
use Rattle.machine.specs.Machine.Serve.{serve_of}
use Rattle.machine.specs.Machine.Return.{return_of}
use Rattle.machine.specs.Machine.Deliver.{deliver_of}
use Rattle.machine.proofs.Rules.Rules.{lane_rule, move_rule, begin_rule, serve_rule, return_rule, deliver_rule}

abbrev pub SameShape : Store → Store → Type 0
SameShape s t = t.shape ≡ s.shape

lane_shape : (s : Store) (k : LaneNo) (r : LaneStep) → SameShape s (commit_lane s k r).store
lane_shape s k r = lane_rule (λ (x : Outcome). SameShape s x.store) s k r (λ _ _. refl) (λ _. refl)

move_shape : (s : Store) (k : LaneNo) (a : BlockNo) (v : Move) → SameShape s (commit_move s k a v).store
move_shape s k a v = move_rule (λ (x : Outcome). SameShape s x.store) s k a v (λ _. refl) (λ _ _. refl)

pub begin_shape : (s : Store) (k : LaneNo) (op : Op) (w : WordNo) → SameShape s (begin_of s k op w).store
begin_shape s k op w = begin_rule (λ (r : Outcome). SameShape s r.store) s k op w (λ _. refl) (λ _. lane_shape s k _)

pub serve_shape : (s : Store) (k : LaneNo) → SameShape s (serve_of s k).store
serve_shape s k = serve_rule (λ (r : Outcome). SameShape s r.store) s k (λ _. refl) (λ o _. move_shape s k (block_of o.word) _)

pub return_shape : (s : Store) (k : LaneNo) → SameShape s (return_of s k).store
return_shape s k = return_rule (λ (r : Outcome). SameShape s r.store) s k (λ _. refl) (λ _. move_shape s k _ _)

pub deliver_shape : (ins : Insertion) (s : Store) (k : LaneNo) → SameShape s (deliver_of ins s k).store
deliver_shape ins s k = deliver_rule ins (λ (r : Outcome). SameShape s r.store) s k (λ _. refl) (λ _ _. lane_shape s k _)
