-- 02, W4: a set of lanes in one byte (a bit mask), and memory's part of a call with it. Assumes nothing.
use Rattle.std.specs.Prelude.{ℕ, ◌/◌, ◌%◌, ◌^◌, Bool, cond, [], ◌∷◌, Result, Ok, Err, eqb}
use Rattle.words.specs.declared.LaneNo.{LaneNo}
use Rattle.words.specs.Folds.{count_to, sum_to}
use Rattle.lanes.specs.declared.Command.{Command}
use Rattle.lanes.specs.declared.Lane.{Lane}
use Rattle.answers.specs.declared.Answer.TheVariants.{Step}
use Rattle.answers.specs.declared.Refusal.{Refusal}
use Rattle.store.specs.declared.Block.{Block}
use Rattle.store.specs.declared.Control.{Control}
use Rattle.store.specs.LaneSets.{LaneSet, goes_to}
use Rattle.machine.specs.Machine.Parts.{Move}
use Rattle.machine.specs.declared.MemoryPart.{MemoryPart}
use Rattle.machine.specs.Machine.Change.{refuse_move}
use Rattle.machine.specs.Machine.Serve.{ordered}

-- bit j of a number, which has the value 2 to the power j
abbrev pub bit_of : ℕ → ℕ → Bool
bit_of x j = eqb (x / 2 ^ j % 2) 1

-- the number of a byte's set bits
unfoldable pub bits_in : ℕ → ℕ
bits_in x = count_to (bit_of x) 8

-- the byte of a set: bit j for lane j
unfoldable pub byte_of : LaneSet → ℕ
byte_of to = sum_to (λ j. cond (goes_to to j) (2 ^ j) 0) 8

-- the byte that a serve works out (`memory_serve::orders_byte`): the lanes that lane k's command sends orders to
unfoldable pub orders_byte : Block → LaneNo → Command → ℕ
orders_byte b k x = byte_of (ordered b k x)

-- the set of a byte
abbrev pub lanes_of : ℕ → LaneSet
lanes_of x = bit_of x 0 ∷ bit_of x 1 ∷ bit_of x 2 ∷ bit_of x 3 ∷ bit_of x 4 ∷ bit_of x 5 ∷ bit_of x 6 ∷ bit_of x 7 ∷ []

-- the move that the code's part of memory stands for
abbrev pub move_with : MemoryPart → Move
move_with v = record { answer = Ok Step; lane = v.lane; block = v.block; control = v.control; to = lanes_of v.to; message = v.message }

-- .. and one that may be refused; the lane, the block and the control are those before it
abbrev pub move_of : Lane → Block → Control → Result MemoryPart Refusal → Move
move_of l b x (Ok v) = move_with v
move_of l b x (Err r) = refuse_move r l b x
