-- 01, "Flat memory and flags": flat memory. Assumes nothing.
use Rattle.std.specs.Prelude.{ℕ, ◌*◌, List, [], ◌∷◌, get_or, set, replicate, take, drop}
use Rattle.words.specs.Operations.{apply_of}
use Rattle.machine.specs.Claims.Attribution.{Begun}

-- Flat memory is 4m words, all 0
abbrev pub flat_of : ℕ → List ℕ
flat_of m = replicate (4 * m) 0

-- the value that flat memory gives for an operation
abbrev pub flat_value : List ℕ → Begun → ℕ
flat_value f b = (apply_of b.op (get_or f b.word.0 0)).value

-- flat memory after an operation
abbrev pub flat_after : List ℕ → Begun → List ℕ
flat_after f b = set f b.word.0 (apply_of b.op (get_or f b.word.0 0)).word

-- the values of a list of operations in order
unfoldable pub flat_values : List ℕ → List Begun → List ℕ
flat_values f [] = []
flat_values f (b ∷ bs) = flat_value f b ∷ flat_values (flat_after f b) bs

-- flat memory after them
unfoldable pub flat_end : List ℕ → List Begun → List ℕ
flat_end f [] = f
flat_end f (b ∷ bs) = flat_end (flat_after f b) bs

-- the four words of block a
abbrev pub flat_block : List ℕ → ℕ → List ℕ
flat_block f a = take 4 (drop (4 * a) f)
