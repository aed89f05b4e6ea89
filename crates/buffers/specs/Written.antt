-- What a write into a lent buffer leaves there. Assumes nothing.
use Rattle.std.specs.Prelude.{ℕ, ◌+◌, List, ◌++◌, length, take, drop}

-- the bytes ys written over xs from place at on
unfoldable pub written : List ℕ → ℕ → List ℕ → List ℕ
written xs at ys = take at xs ++ (ys ++ drop (at + length ys) xs)
