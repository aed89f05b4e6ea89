-- Laws of a line that has a block. Assumes nothing.
use mathlib.Core.Logic.{◌≢◌}
use mathlib.Core.Path.{◌≡◌, sym}
use mathlib.Core.Bool.{true, false, true≢false}
use borrow.Author.Tests.{eqb-true, eq-eqb, ne_eqb}
use Rattle.words.specs.declared.BlockNo.{BlockNo}
use Rattle.words.specs.declared.Line.{Line}
use Rattle.words.specs.Lines.{holds_of}
use Rattle.machine.proofs.Laws.Tests.{on}

-- a line that holds a block is valid with it, and the other way round
pub holds_valid : (x : Line) (a : BlockNo) → holds_of x a ≡ true → (x.valid ≡ true) × (x.block.0 ≡ a.0)
holds_valid x a e = on x.valid (λ v. (v, eqb-true _ _ (rw v at e))) (λ v. absurd (true≢false (sym (rw v at e))))

pub valid_holds : (x : Line) (a : BlockNo) → x.valid ≡ true → x.block.0 ≡ a.0 → holds_of x a ≡ true
valid_holds x a v e = rw (v, eq-eqb x.block.0 a.0 e)

pub invalid_holds : (x : Line) (a : BlockNo) → x.valid ≡ false → holds_of x a ≡ false
invalid_holds x a v = rw v

pub other_holds : (x : Line) (a : BlockNo) → x.block.0 ≢ a.0 → holds_of x a ≡ false
other_holds x a n = on x.valid (λ v. rw (v, ne_eqb x.block.0 a.0 n)) (λ v. rw v)
