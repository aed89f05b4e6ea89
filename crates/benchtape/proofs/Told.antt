-- What `tape_replay::print` tells of a buffer with room for the longest text. Assumes nothing.
use Prim.Native.Nat.{ℕ, ◌≤◌}
use native.Mathlib.Omega.{arith}
use mathlib.Core.Path.{◌≡◌, ap, ◌∙◌}
use mathlib.Core.List.{List}
use lib.ListN.{length}
use Rattle.std.specs.Prelude.{Result, Ok}
use Rattle.answers.specs.declared.Refusal.{Refusal}
use Rattle.machine.specs.Machine.Fill.{Filling}
use Rattle.machine.specs.Machine.Text.{text_most, printed, print_of}
use Rattle.machine.proofs.Lengths.{text_fits}
use Rattle.buffers.specs.Written.{written}
use Rattle.buffers.proofs.Writing.{written_length}
use Rattle.tape_replay.proofs.Prints.{print_fits}

module _ (tape out : List ℕ) {r : Result ℕ Refusal} {after : List ℕ} (room : text_most ≤ length out) (told : (r ≡ (print_of tape out).answer) × (after ≡ (print_of tape out).buffer)) where
  -- it is not refused
  pub answered : r ≡ Ok (length (printed tape))
  answered = told.0 ∙ ap (λ (x : Filling). x.answer) (print_fits tape out room)

  wrote : after ≡ written out 0 (printed tape)
  wrote = told.1 ∙ ap (λ (x : Filling). x.buffer) (print_fits tape out room)

  -- a length that is the text's
  pub told_length : {n : ℕ} → n ≡ length (printed tape) → (n ≡ length (printed tape)) × (after ≡ written out 0 (printed tape)) × (n ≤ length after)
  told_length e =
      let l = ap length wrote ∙ written_length out 0 (printed tape) (omega (arith, text_fits tape)) in
      (e, wrote, omega (arith, text_fits tape))
