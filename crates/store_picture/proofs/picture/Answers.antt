-- `store_picture::picture` meets its contract: corrupt, then too short; else all blocks are written. Assumes nothing.
use native.Mathlib.Omega.{arith}
use mathlib.Core.Path.{refl, sym, ◌∙◌}
use Rattle.machine.proofs.Bounds.Sound.{sound}
use Rattle.store_picture.proofs.Records.{valid_most, picture_length}
use Rattle.store_picture.proofs.Pictures.{picture_corrupt, picture_short, picture_fits}
use Rattle.store_picture.proofs.picture.Goals as goal

pub returns-then-corrupt : goal.returns-then-corrupt
returns-then-corrupt c = rw (picture_corrupt _ _ (sym c.corrupt.ensures ∙ c.if-corrupt.true)) (refl, refl)

pub valid_lines-needed-requires : goal.valid_lines-needed-requires
valid_lines-needed-requires c = let s = sound c.args.s (sym c.corrupt.ensures ∙ c.if-corrupt.false) in (s.n_high, s.c_high)

pub overflow_mul-needed : goal.overflow_mul-needed
overflow_mul-needed c = let s = sound c.args.s (sym c.corrupt.ensures ∙ c.if-corrupt.false) in
    let v = valid_most c.args.s c.args.s.shape.n s.c_high in
    let n = s.n_high in omega arith

pub returns-then-buffer-needed : goal.returns-then-buffer-needed
returns-then-buffer-needed c =
    let e = sym c.corrupt.ensures ∙ c.if-corrupt.false in
    let l = picture_length c.args.s (sound c.args.s e) in
    rw (picture_short c.args.s c.args.buffer.now e (omega arith)) (refl, refl)

pub write_blocks-end-requires : goal.write_blocks-end-requires
write_blocks-end-requires c =
    let s = sound c.args.s (sym c.corrupt.ensures ∙ c.if-corrupt.false) in
    let l = picture_length c.args.s s in (s.n_high, s.c_high, omega arith)

pub returns : goal.returns
returns c =
    let e = sym c.corrupt.ensures ∙ c.if-corrupt.false in
    let l = picture_length c.args.s (sound c.args.s e) in
    rw (picture_fits c.args.s c.args.buffer.now e (omega arith))
    (rw c.write_blocks-end.ensures.0, c.write_blocks-end.ensures.1)
