-- The stores of a tape. Assumes nothing.
use Rattle.std.specs.Prelude.{◌≡◌, false, ◌⊎◌}
use Rattle.store.specs.declared.Store.{Store}
use Rattle.machine.specs.Machine.Corruption.{corrupt_of}

-- a store that a tape can have: not open yet, or not corrupt
abbrev pub Steady : Store → Type 0
Steady s = (s.shape.n ≡ 0) ⊎ (corrupt_of s ≡ false)
