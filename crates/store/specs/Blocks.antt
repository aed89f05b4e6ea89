-- 01, "Parts of a store": a block of main memory with its flags; one update for each of its fields. Assumes nothing.
use Rattle.std.specs.Prelude.{ℕ, Bool, List}
use Rattle.store.specs.declared.Block.{Block}
use Rattle.store.specs.LaneSets.{LaneSet}

-- a block with other words, other PRESENT flags, another MODIFIED
abbrev pub with_contents : List ℕ → Block → Block
with_contents ws b = record { words = ws; present = b.present; modified = b.modified }

abbrev pub with_present : LaneSet → Block → Block
with_present to b = record { words = b.words; present = to; modified = b.modified }

abbrev pub with_modified : Bool → Block → Block
with_modified x b = record { words = b.words; present = b.present; modified = x }
