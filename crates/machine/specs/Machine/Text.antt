-- 01, "Tape and picture": what `benchtape` prints. Assumes nothing.
use Rattle.std.specs.Prelude.{ℕ, zero, suc, ◌+◌, ◌/◌, ◌%◌, cond, List, [], ◌∷◌, ◌++◌, ltb, length, Result, Ok, Err}
use Rattle.answers.specs.declared.Answer.{Answer}
use Rattle.answers.specs.declared.Answer.TheVariants.{Opened, Done, Wait, Step}
use Rattle.answers.specs.declared.Refusal.{Refusal}
use Rattle.answers.specs.declared.Refusal.TheVariants.{TapeTooLong, BufferTooShort}
use Rattle.answers.specs.Refusals.{number_of}
use Rattle.machine.specs.Machine.Fill.{Filling, unwritten, filled_with}
use Rattle.machine.specs.Machine.Tape.{replay_of}

-- a number in decimal, in at most the given number of digits
unfoldable pub decimal_in : ℕ → ℕ → List ℕ
decimal_in zero n = []
decimal_in (suc more) n = let r = decimal_in more (n / 10) in cond (ltb n 10) ((48 + n) ∷ []) (r ++ ((48 + n % 10) ∷ []))

-- a number below 10^10, as all are here
abbrev pub decimal : ℕ → List ℕ
decimal n = decimal_in 10 n

-- a space, then a number in decimal
abbrev pub spaced : ℕ → List ℕ
spaced n = 32 ∷ decimal n

-- `refused` with the number
abbrev pub refused_text : Refusal → List ℕ
refused_text r = 114 ∷ 101 ∷ 102 ∷ 117 ∷ 115 ∷ 101 ∷ 100 ∷ spaced (number_of r)

-- `open`; or `done` with lane, value and, as a last number, place (02, W1); or `wait`; or `step`; or `refused` with the number
unfoldable pub answer_text : Result Answer Refusal → List ℕ
answer_text (Ok Opened) = 111 ∷ 112 ∷ 101 ∷ 110 ∷ []
answer_text (Ok (Done x)) = 100 ∷ 111 ∷ 110 ∷ 101 ∷ (spaced x.lane.0 ++ (spaced x.value ++ spaced x.place))
answer_text (Ok Wait) = 119 ∷ 97 ∷ 105 ∷ 116 ∷ []
answer_text (Ok Step) = 115 ∷ 116 ∷ 101 ∷ 112 ∷ []
answer_text (Err r) = refused_text r

-- a record's line: its index, a space, the answer, a newline
unfoldable pub line_text : ℕ → Result Answer Refusal → List ℕ
line_text index a = decimal index ++ (32 ∷ (answer_text a ++ (10 ∷ [])))

-- the lines from an index on
unfoldable pub lines_text : ℕ → List (Result Answer Refusal) → List ℕ
lines_text index [] = []
lines_text index (a ∷ rest) = line_text index a ++ lines_text (suc index) rest

-- `end` and the number of lines before it
unfoldable pub end_text : ℕ → List ℕ
end_text count = 101 ∷ 110 ∷ 100 ∷ (spaced count ++ (10 ∷ []))

-- a tape's length at most
abbrev pub tape_most : ℕ
tape_most = 65536

-- A tape over 65,536 bytes prints only `refused 13`
unfoldable pub printed : List ℕ → List ℕ
printed tape =
    let lines = replay_of tape in
    cond (ltb tape_most (length tape)) (refused_text TapeTooLong ++ (10 ∷ [])) (lines_text 0 lines ++ end_text (length lines))

-- room for every tape's text: 25 bytes for each byte of the longest tape. `text_fits` (proofs/Lengths.antt) says that it is enough
abbrev pub text_most : ℕ
text_most = 1638400

-- a tape's text into a lent buffer; one that is shorter than this room is refused by 15
unfoldable pub print_of : List ℕ → List ℕ → Filling
print_of tape buffer = cond (ltb (length buffer) text_most) (unwritten BufferTooShort buffer) (filled_with (printed tape) buffer)
