-- What printing gives, case by case. Assumes nothing.
use Prim.Native.Nat.{ℕ, ◌<◌, ◌≤◌}
use mathlib.Core.Path.{◌≡◌}
use mathlib.Core.List.{List, [], ◌∷◌, ◌++◌}
use borrow.Author.Tests.{lt-ltb, le-ltb}
use lib.ListN.{length}
use Rattle.answers.specs.declared.Refusal.TheVariants.{TapeTooLong, BufferTooShort}
use Rattle.machine.specs.Machine.Fill.{unwritten}
use Rattle.machine.specs.Machine.Text.{refused_text, tape_most, text_most, printed, print_of}
use Rattle.buffers.specs.Written.{written}
use Rattle.buffers.proofs.Writing.{written_front}
use Rattle.std.specs.Prelude.{Ok}

module _ (tape out : List ℕ) where
  -- a buffer that may not hold the longest text
  pub print_short : length out < text_most → print_of tape out ≡ unwritten BufferTooShort out
  unfolding print_of
  print_short h = rw (lt-ltb (length out) text_most h)

  -- any other has the text from its start on
  pub print_fits : text_most ≤ length out → print_of tape out ≡ record { answer = Ok (length (printed tape)); buffer = written out 0 (printed tape) }
  unfolding print_of
  print_fits h = rw (le-ltb (length out) text_most h, written_front out (printed tape))

  -- 13
  pub printed_long : tape_most < length tape → printed tape ≡ refused_text TapeTooLong ++ (10 ∷ [])
  unfolding printed
  printed_long h = rw (lt-ltb tape_most (length tape) h)
