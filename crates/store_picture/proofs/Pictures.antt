-- What picture gives, case by case. Assumes nothing.
use Prim.Native.Nat.{ℕ, ◌<◌, ◌≤◌}
use mathlib.Core.Bool.{true, false}
use mathlib.Core.Path.{◌≡◌}
use mathlib.Core.List.{List}
use borrow.Author.Tests.{lt-ltb, le-ltb}
use lib.ListN.{length}
use Rattle.answers.specs.declared.Refusal.TheVariants.{Corrupt, BufferTooShort}
use Rattle.store.specs.declared.Store.{Store}
use Rattle.machine.specs.Machine.Corruption.{corrupt_of}
use Rattle.machine.specs.Machine.Picture.{picture_bytes, picture_of}
use Rattle.buffers.specs.Written.{written}
use Rattle.buffers.proofs.Writing.{written_front}
use Rattle.std.specs.Prelude.{Ok, Err}

-- 14
pub picture_corrupt : (s : Store) (b : List ℕ) → corrupt_of s ≡ true → picture_of s b ≡ record { answer = Err Corrupt; buffer = b }
unfolding picture_of
picture_corrupt s b e = rw e

-- 15
pub picture_short : (s : Store) (b : List ℕ) → corrupt_of s ≡ false → length b < length (picture_bytes s) →
    picture_of s b ≡ record { answer = Err BufferTooShort; buffer = b }
unfolding picture_of
picture_short s b e l = rw (e, lt-ltb _ _ l)

-- the records from the start on
pub picture_fits : (s : Store) (b : List ℕ) → corrupt_of s ≡ false → length (picture_bytes s) ≤ length b →
    picture_of s b ≡ record { answer = Ok (length (picture_bytes s)); buffer = written b 0 (picture_bytes s) }
unfolding picture_of
picture_fits s b e l = rw (e, le-ltb (length b) (length (picture_bytes s)) l, written_front b (picture_bytes s))
