-- On a store that is not corrupt memory sends a message to lanes below n only. Assumes nothing.
use Prim.Native.Nat.{ℕ, ◌≤◌, ◌<◌}
use native.Mathlib.Omega.{arith}
use mathlib.Core.Path.{◌≡◌}
use mathlib.Core.Bool.{Bool, false}
use lib.ListN.{get_or-replicate}
use Rattle.words.specs.declared.LaneNo.{LaneNo}
use Rattle.queues.specs.Messages.{ReturnMessage}
use Rattle.lanes.specs.declared.Lane.{Lane}
use Rattle.lanes.specs.declared.Operation.{Operation}
use Rattle.store.specs.declared.Block.{Block}
use Rattle.store.specs.declared.Service.{Service}
use Rattle.store.specs.declared.Control.{Control}
use Rattle.store.specs.LaneSets.{LaneSet, nobody, goes_to}
use Rattle.machine.specs.Machine.Parts.{Move}
use Rattle.machine.specs.Machine.Serve.{close, serve_move}
use Rattle.machine.specs.Machine.Return.{return_move}
use Rattle.machine.proofs.Laws.Sets.{set_cases}
use Rattle.machine.proofs.Rules.RulesMemory.{return_move_rule, serve_move_rule}
use Rattle.machine.proofs.Bounds.Sound.{BlockSound, ControlSound, service_sound}
use Rattle.machine.proofs.Bounds.KeepsServe.{ordered_absent}

-- a set has no lane from n on
abbrev pub Inside : ℕ → LaneSet → Type 0
Inside n to = (j : ℕ) → n ≤ j → j < 8 → goes_to to j ≡ false

nobody_inside : (n : ℕ) → Inside n nobody
nobody_inside n j p l = get_or-replicate 8 j false false l

-- the grant goes to the service's lane
close_inside : (n : ℕ) (v : Service) (l : Lane) (b : Block) (x : Control) → v.lane.0 < n → Inside n (close v l b x).to
unfolding close
close_inside n v l b x h j p q = set_cases (λ (r : Bool). r ≡ false) nobody v.lane.0 j _ false (λ e. absurd (omega arith)) (nobody_inside n j p q)

-- memory's part of serve: the orders go to PRESENT lanes
pub serve_inside : (n : ℕ) (k : LaneNo) (o : Operation) (l : Lane) (b : Block) (x : Control) → k.0 < n → BlockSound n b → Inside n (serve_move k o l b x).to
serve_inside n k o l b x h g = serve_move_rule (λ (v : Move). Inside n v.to) k o l b x (λ _. close_inside n _ _ b x h) (λ _. ordered_absent n b k o.command g)

-- memory's part of return
pub return_inside : (n m limit : ℕ) (k : LaneNo) (x : ReturnMessage) (l : Lane) (b : Block) (y : Control) → ControlSound n m limit y → Inside n (return_move k x l b y).to
return_inside n m limit k x l b y g =
    return_move_rule (λ (v : Move). Inside n v.to) k x l b y (λ _. nobody_inside n) (nobody_inside n)
    (λ _ v q _. close_inside n v _ _ _ (service_sound n m limit y v.block v g q.at).lane) (λ _ _ _ _. nobody_inside n)
