-- What a call gives that fills a lent buffer (01: picture, and `benchtape`'s text). Assumes nothing.
use Rattle.std.specs.Prelude.{ℕ, List, ◌++◌, length, drop, Result, Ok, Err}
use Rattle.answers.specs.declared.Refusal.{Refusal}

-- its answer, and the lent buffer after it
pub record Filling : Type 0 where
  pub answer : Result ℕ Refusal
  pub buffer : List ℕ

-- a refusal: the buffer is the same as before the call
abbrev pub unwritten : Refusal → List ℕ → Filling
unwritten r buffer = record { answer = Err r; buffer = buffer }

-- It gives the length; bytes after these are unchanged
abbrev pub filled_with : List ℕ → List ℕ → Filling
filled_with bytes buffer = record { answer = Ok (length bytes); buffer = bytes ++ drop (length bytes) buffer }
