-- 01, "Tape and picture", and 02, W2: the picture. Assumes nothing.
use Rattle.std.specs.Prelude.{ℕ, ◌/◌, ◌%◌, cond, List, [], ◌∷◌, ◌++◌, ltb, length, get_or}
use Rattle.words.specs.declared.Line.{Line}
use Rattle.words.specs.Lines.{no_line, holds_of}
use Rattle.words.specs.Folds.{gather_to}
use Rattle.answers.specs.declared.Refusal.TheVariants.{Corrupt, BufferTooShort}
use Rattle.store.specs.declared.Store.{Store}
use Rattle.store.specs.Stores.{lane_at}
use Rattle.machine.specs.Machine.Corruption.{corrupt_of}
use Rattle.machine.specs.Machine.Fill.{Filling, unwritten, filled_with}

-- a word in four bytes, low byte first
abbrev pub word_bytes : ℕ → List ℕ
word_bytes x = x % 256 ∷ x / 256 % 256 ∷ x / 65536 % 256 ∷ x / 16777216 % 256 ∷ []

-- 19 bytes: kind 10 hexadecimal, lane, block, words low byte first
unfoldable pub record_bytes : ℕ → Line → List ℕ
record_bytes k x =
    16 ∷
    k ∷
    x.block.0 ∷
    (word_bytes (get_or x.words 0 0) ++ (word_bytes (get_or x.words 1 0) ++ (word_bytes (get_or x.words 2 0) ++ word_bytes (get_or x.words 3 0))))

-- the record of line i of lane k, where it is valid and has block a
abbrev pub line_bytes : Store → ℕ → ℕ → ℕ → List ℕ
line_bytes s a k i = let x = get_or (lane_at s k).lines i no_line in cond (holds_of x (record { 0 = a })) (record_bytes k x) []

-- for each valid line its record: by block, then by lane, then by line
unfoldable pub picture_bytes : Store → List ℕ
picture_bytes s = gather_to (λ a. gather_to (λ k. gather_to (line_bytes s a k) s.shape.c) s.shape.n) s.shape.m

-- It gives the length; bytes after the records are unchanged. On 14 and on 15 nothing is written
unfoldable pub picture_of : Store → List ℕ → Filling
picture_of s buffer =
    let p = picture_bytes s in
    cond (corrupt_of s) (unwritten Corrupt buffer) (cond (ltb (length buffer) (length p)) (unwritten BufferTooShort buffer) (filled_with p buffer))
