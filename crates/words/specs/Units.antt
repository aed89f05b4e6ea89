-- 01, "Parts of a store": the units and how a word is found. Assumes nothing.
use Rattle.std.specs.Prelude.{ℕ, ◌/◌, ◌%◌, List, replicate}
use Rattle.words.specs.declared.BlockNo.{BlockNo}
use Rattle.words.specs.declared.WordNo.{WordNo}
use Rattle.words.specs.declared.Shape.{Shape}

-- the shape of n lanes, c lines per lane, m blocks and a limit L of services (02, W6)
abbrev pub limited : ℕ → ℕ → ℕ → ℕ → Shape
limited n c m limit = record { n = n; c = c; m = m; limit = limit }

-- .. with L = 1, which tape kind 00 means
abbrev pub shaped : ℕ → ℕ → ℕ → Shape
shaped n c m = limited n c m 1

-- four words, all 0
abbrev pub zeros : List ℕ
zeros = replicate 4 0

-- Word w belongs to block w ÷ 4, rounded down
abbrev pub block_of : WordNo → BlockNo
block_of w = record { 0 = w.0 / 4 }

-- .. at place w mod 4
abbrev pub place_of : WordNo → ℕ
place_of w = w.0 % 4
