-- How long a tape's text is at most, and that the room for it is enough. Assumes nothing.
use Prim.Native.Nat.{ℕ, zero, suc, ◌+◌, ◌*◌, ◌/◌, ◌<◌, ◌≤◌}
use mathlib.Core.Logic.{inl, inr}
use mathlib.Core.Path.{◌≡◌, refl, ◌∙◌}
use mathlib.Core.List.{List, [], ◌∷◌, ◌++◌}
use lib.Dec.{ltb, eqb}
use lib.ListN.{length, drop, length-append, length-drop}
use borrow.Author.Tests.{eq-eqb, eqb-false, ltb-false}
use native.Mathlib.Omega.{arith}
use Rattle.words.proofs.Folds.{by_cond, pick}
use Rattle.tape_records.specs.Records.{parse_of}
use Rattle.tape_records.proofs.Parsing.{Takes, parse_takes}
use Rattle.answers.specs.declared.Answer.{Answer}
use Rattle.answers.specs.declared.Answer.TheVariants.{Opened, Done, Wait, Step}
use Rattle.answers.specs.declared.Refusal.TheVariants.{TapeTooLong}
use Rattle.answers.specs.Refusals.{number_of}
use Rattle.store.specs.declared.Store.{Store}
use Rattle.store.specs.Opening.{blank_store}
use Rattle.machine.specs.Machine.Tape.{record_of, replay_from, replay_of}
use Rattle.machine.specs.Machine.Text.{decimal_in, refused_text, answer_text, line_text, lines_text, end_text, tape_most, printed, text_most}
use Rattle.std.specs.Prelude.{Result, Ok, Err}
use Rattle.answers.specs.declared.Refusal.{Refusal}

-- a number has at most the given number of digits
pub decimal_fits : (more n : ℕ) → length (decimal_in more n) ≤ more
unfolding decimal_in
decimal_fits zero n = omega arith
decimal_fits (suc more) n =
    let h = decimal_fits more (n / 10) in
    by_cond (λ (l : List ℕ). length l ≤ suc more) (ltb n 10) _ _ (omega arith) (simp length-append (omega arith))

-- an answer has at most 37 bytes, those of `done` with lane, value and place
pub answer_fits : (a : Result Answer Refusal) → length (answer_text a) ≤ 37
unfolding answer_text
answer_fits (Ok Opened) = omega arith
answer_fits (Ok (Done x)) =
    let k = decimal_fits 10 x.lane.0 in
    let v = decimal_fits 10 x.value in
    let p = decimal_fits 10 x.place in
    simp length-append (omega arith)
answer_fits (Ok Wait) = omega arith
answer_fits (Ok Step) = omega arith
answer_fits (Err r) = omega (arith, decimal_fits 10 (number_of r))

-- a record's line
pub line_fits : (index : ℕ) (a : Result Answer Refusal) → length (line_text index a) ≤ 49
unfolding line_text
line_fits index a = let i = decimal_fits 10 index in let t = answer_fits a in simp length-append (omega arith)

-- the last line
pub end_fits : (count : ℕ) → length (end_text count) ≤ 15
unfolding end_text
end_fits count = let n = decimal_fits 10 count in simp length-append (omega arith)

-- the one line of a tape that is too long
pub too_long_fits : length (refused_text TapeTooLong ++ (10 ∷ [])) ≤ 19
too_long_fits = let n = decimal_fits 10 13 in simp length-append (omega arith)

-- no records are left where nothing is left of the tape
pub replay_none : (more : ℕ) (s : Store) (tape : List ℕ) → length tape ≡ 0 → replay_from more s tape ≡ []
unfolding replay_from
replay_none zero s tape e = refl
replay_none (suc more) s tape e = rw (eq-eqb (length tape) 0 e)

-- a record's line has at most 49 bytes and the record two bytes or more, but for the last, which may have one
one_fits : (more index : ℕ) (a : Result Answer Refusal) (s : Store) (tape : List ℕ) → 0 < length tape → Takes tape (parse_of tape) →
    2 * length (lines_text (suc index) (replay_from more s (drop (parse_of tape).size tape))) ≤ 49 * length (drop (parse_of tape).size tape) + 49 →
    2 * (length (line_text index a) + length (lines_text (suc index) (replay_from more s (drop (parse_of tape).size tape)))) ≤ 49 * length tape + 49
unfolding lines_text
one_fits more index a s tape some (inl all) h =
    let none : length (drop (parse_of tape).size tape) ≡ 0 = length-drop (parse_of tape).size tape ∙ omega arith in
    rw (replay_none more s (drop (parse_of tape).size tape) none) (omega (arith, line_fits index a))
one_fits more index a s tape some (inr t) h = omega (arith, length-drop (parse_of tape).size tape, line_fits index a, t.0, t.1)

lines_fit : (more index : ℕ) (s : Store) (tape : List ℕ) → 2 * length (lines_text index (replay_from more s tape)) ≤ 49 * length tape + 49
unfolding replay_from lines_text
lines_fit zero index s tape = omega arith
lines_fit (suc more) index s tape =
    pick (λ (l : List (Result Answer Refusal)). 2 * length (lines_text index l) ≤ 49 * length tape + 49) (eqb (length tape) 0) _ _ (λ _. omega arith)
    (λ e. let some : 0 < length tape = omega (arith, eqb-false (length tape) 0 e) in
    let after : Store = (record_of s (parse_of tape).rec).store in
    simp length-append (one_fits more index _ after tape some (parse_takes tape some) (lines_fit more (suc index) after (drop (parse_of tape).size tape))))

-- the text of every tape, with 64 bytes to spare, which the functions that write it ask for
pub text_fits : (tape : List ℕ) → length (printed tape) + 64 ≤ text_most
unfolding printed replay_of
text_fits tape =
    pick (λ (l : List ℕ). length l + 64 ≤ text_most) (ltb tape_most (length tape)) _ _ (λ _. omega (arith, too_long_fits))
    (λ short. let h = ltb-false tape_most (length tape) short in
    let l = lines_fit (length tape) 0 blank_store tape in
    let e = end_fits (length (replay_from (length tape) blank_store tape)) in
    simp length-append (omega arith))
