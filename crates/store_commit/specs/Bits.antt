-- The set bits of a byte, one after the other. Assumes nothing.
use Rattle.std.specs.Prelude.{ℕ, ◌-◌, ◌^◌}
use Rattle.words.specs.Folds.{lowest_to}
use Rattle.machine.specs.Machine.LaneBytes.{bit_of}

-- the lowest set bit of a byte, or 8
unfoldable pub lowest_bit : ℕ → ℕ
lowest_bit x = lowest_to (bit_of x) 8

-- the byte Less the value of that bit
unfoldable pub without_lowest : ℕ → ℕ
without_lowest x = x - 2 ^ lowest_bit x
