-- The bound that a call on lane k asks for, from a store that is not corrupt: for memory_steps. Assumes nothing.
use Prim.Native.Nat.{◌<◌}
use native.Mathlib.Omega.{arith}
use mathlib.Core.Bool.{false}
use mathlib.Core.Path.{◌≡◌}
use Rattle.words.specs.declared.LaneNo.{LaneNo}
use Rattle.store.specs.declared.Store.{Store}
use Rattle.machine.specs.Machine.Corruption.{corrupt_of}
use Rattle.machine.proofs.Bounds.Sound.{sound}

pub lane_bound : (s : Store) (k : LaneNo) → corrupt_of s ≡ false → k.0 < s.shape.n → k.0 < 8
lane_bound s k e h = let g = (sound s e).n_high in omega arith
