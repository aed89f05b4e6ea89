-- 02, W2: what a picture is to a reader who does not look at how its bytes are made. Its records are those of the valid lines, sorted by block, then by lane,
-- then by line, and each valid line has exactly one; that leaves no order free, so two pictures of one store are the same file. This file only
-- states it; proofs/Theorems.antt has the theorems. Assumes nothing.
use Rattle.std.specs.Prelude.{ℕ, ◌+◌, ◌<◌, ◌≡◌, ◌⊎◌, true, ◌&&◌, cond, eqb, take, Ok}
use mathlib.Core.List.{List, [], ◌∷◌, flat_map, Memᴰ}
use Rattle.store.specs.declared.Store.{Store}
use Rattle.machine.specs.Claims.Flags.{line_in}
use Rattle.machine.specs.Machine.Picture.{record_bytes, picture_of}

-- a copy of a block: the block, the lane that has it, and the number of the line
pub record Copy : Type 0 where
  pub block : ℕ
  pub lane : ℕ
  pub line : ℕ

-- one copy comes before another: by block, then by lane, then by line
abbrev pub Before : Copy → Copy → Type 0
Before x y = (x.block < y.block) ⊎ ((x.block ≡ y.block) × ((x.lane < y.lane) ⊎ ((x.lane ≡ y.lane) × (x.line < y.line))))

-- each comes before all that follow it
abbrev pub Sorted : List Copy → Type 0
Sorted [] = Unit {0}
Sorted (x ∷ xs) = ((y : Copy) → Memᴰ y xs → Before x y) × Sorted xs

-- how often line i of lane k stands in a list
unfoldable pub times_in : ℕ → ℕ → List Copy → ℕ
times_in k i [] = 0
times_in k i (x ∷ xs) = cond (eqb x.lane k && eqb x.line i) 1 0 + times_in k i xs

-- one of the c lines of one of the n lanes: it is valid, and has that block
pub record ValidCopy (s : Store) (x : Copy) : Type 0 where
  pub lane : x.lane < s.shape.n
  pub line : x.line < s.shape.c
  pub valid : (line_in s x.lane x.line).valid ≡ true
  pub block : (line_in s x.lane x.line).block.0 ≡ x.block

-- the records of a list of copies, one after the other
abbrev pub records_of : Store → List Copy → List ℕ
records_of s xs = flat_map (λ (x : Copy). record_bytes x.lane (line_in s x.lane x.line)) xs

-- these bytes are the records of the store's valid lines, in order
pub record InOrder (s : Store) (bytes : List ℕ) : Type 0 where
  -- the copies, in the order of their records
  pub copies : List Copy
  pub records : bytes ≡ records_of s copies
  -- by block, then by lane, then by line
  pub sorted : Sorted copies
  -- all are valid lines
  pub only : (x : Copy) → Memᴰ x copies → ValidCopy s x
  -- each valid line has exactly one record
  pub each : (k i : ℕ) → k < s.shape.n → i < s.shape.c → (line_in s k i).valid ≡ true → times_in k i copies ≡ 1

-- Picture, where it isn't refused: the bytes that it writes are so
abbrev pub PictureInOrder : Type 0
PictureInOrder = (s : Store) (b : List ℕ) (l : ℕ) → (picture_of s b).answer ≡ Ok l → InOrder s (take l (picture_of s b).buffer)

-- No free order is left: of each store only one list of bytes is so
abbrev pub OneOrder : Type 0
OneOrder = (s : Store) (p q : List ℕ) → InOrder s p → InOrder s q → p ≡ q

-- Two pictures of one store are the same file: one length and the same bytes, whatever the lent buffers had
abbrev pub SamePictures : Type 0
SamePictures =
    (s : Store) (b d : List ℕ) (l r : ℕ) → (picture_of s b).answer ≡ Ok l → (picture_of s d).answer ≡ Ok r →
    (l ≡ r) × (take l (picture_of s b).buffer ≡ take r (picture_of s d).buffer)
