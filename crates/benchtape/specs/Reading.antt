-- What reading a tape gives. Assumes nothing.
use Rattle.std.specs.Prelude.{ℕ, Result, Ok, Err}
use Rattle.std.specs.declared.io.Error.{Error}

-- how many bytes were read
abbrev pub bytes_of : Result ℕ Error → ℕ
bytes_of (Ok n) = n
bytes_of (Err _) = 0
