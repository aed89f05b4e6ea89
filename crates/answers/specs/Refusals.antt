-- 01, "Numbers and trade words", and 02: the number of each refusal. Assumes nothing.
use Rattle.std.specs.Prelude.{ℕ, Bool, true, false, Result, Ok, Err}
use Rattle.answers.specs.declared.Answer.{Answer}
use Rattle.answers.specs.declared.Refusal.{Refusal}
use Rattle.answers.specs.declared.Refusal.TheVariants.{Truncated, UnknownKind, NotOpen, AlreadyOpen, InvalidShape, NoSuchLane, NoSuchWord, LaneBusy, NothingPending, ControlBusy, ReturnsPending, QueueFull, TapeTooLong, Corrupt, BufferTooShort, Unexpected, PlacesExhausted, InvalidLimit}

-- the number that 01 or 02 gives a refusal
abbrev pub number_of : Refusal → ℕ
number_of Truncated = 1
number_of UnknownKind = 2
number_of NotOpen = 3
number_of AlreadyOpen = 4
number_of InvalidShape = 5
number_of NoSuchLane = 6
number_of NoSuchWord = 7
number_of LaneBusy = 8
number_of NothingPending = 9
number_of ControlBusy = 10
number_of ReturnsPending = 11
number_of QueueFull = 12
number_of TapeTooLong = 13
number_of Corrupt = 14
number_of BufferTooShort = 15
number_of Unexpected = 16
number_of PlacesExhausted = 17
number_of InvalidLimit = 18

-- whether an answer is a refusal
abbrev pub refused_of : Result Answer Refusal → Bool
refused_of (Ok a) = false
refused_of (Err r) = true
