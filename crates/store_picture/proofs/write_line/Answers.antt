-- `store_picture::write_line` meets its contract: a line that has the block is one record, another nothing. Assumes nothing.
use Prim.Native.Nat.{◌+◌, ◌≤◌}
use native.Mathlib.Omega.{arith}
use mathlib.Core.Path.{sym, ◌∙◌}
use lib.ListN.{length, length-take, length-drop}
use Rattle.buffers.proofs.Writing.{written_none}
use Rattle.store_picture.proofs.Records.{part_written, record_length, line_holds, line_other, holds_length}
use Rattle.store_picture.proofs.write_line.Goals as goal

pub write_record-requires : goal.write_record-requires
write_record-requires c =
    let l = holds_length c.args.a.0 c.args.k.0 c.args.x (sym c.holds.ensures ∙ c.if-holds.true) in
    simp (length-take, length-drop) (omega arith)

pub returns-then-holds : goal.returns-then-holds
returns-then-holds c =
    let h = sym c.holds.ensures ∙ c.if-holds.true in
    let l = holds_length c.args.a.0 c.args.k.0 c.args.x h in
    let e : c.args.at + 19 ≤ length c.args.buffer.now = omega arith in
    rw (line_holds c.args.a.0 c.args.k.0 c.args.x h)
    (omega (arith, record_length c.args.k.0 c.args.x), part_written _ _ _ (omega arith) c.write_record.ensures)

pub returns : goal.returns
returns c =
    rw (line_other c.args.a.0 c.args.k.0 c.args.x (sym c.holds.ensures ∙ c.if-holds.false)) (omega arith, written_none _ _)
