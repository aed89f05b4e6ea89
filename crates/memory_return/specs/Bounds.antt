-- A bound that memory's part of a return asks for. Assumes nothing.
use Rattle.std.specs.Prelude.{ℕ, ◌<◌, ◌≡◌, Some}
use Rattle.words.specs.declared.BlockNo.{BlockNo}
use Rattle.store.specs.declared.Control.{Control}
use Rattle.store.specs.declared.Service.{Service}
use Rattle.store.specs.Control.{service_of}

-- the lane of each block's service is below n
abbrev pub LaneBelow : Control → ℕ → Type 0
LaneBelow x n = (a : BlockNo) (v : Service) → service_of x a ≡ Some v → v.lane.0 < n
