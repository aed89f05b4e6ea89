-- `store_picture::write_blocks` meets its contract: a turn of the loop writes one block. Assumes nothing.
use native.Mathlib.Omega.{arith}
use mathlib.Core.Path.{◌≡◌, ap}
use lib.ListN.{length}
use Rattle.buffers.proofs.Writing.{written_none}
use Rattle.store_picture.specs.Records.{block_records}
use Rattle.store_picture.proofs.Records.{gather_none, wrote_more, wrote_fits, picture_blocks}
use Rattle.store_picture.proofs.write_blocks.Goals as goal

pub loop-a-init : goal.loop-a-init
loop-a-init c = rw (gather_none (block_records c.args.s)) (omega arith, written_none _ _)

pub write_block-place-requires : goal.write_block-place-requires
write_block-place-requires c =
    let g = c.args in
    let l = ap length (picture_blocks g.s) in (
      c.requires.0,
      c.requires.1,
      wrote_fits (block_records g.s) c.loop-a.a g.s.shape.m g.buffer.now 0 c.loop-a.invariant (omega arith) (omega arith),
    )

pub loop-a-preserved : goal.loop-a-preserved
loop-a-preserved c =
    let g = c.args in
    let l = ap length (picture_blocks g.s) in
    wrote_more (block_records g.s) _ g.s.shape.m _ _ c.loop-a.invariant c.write_block-place.ensures (omega arith) (omega arith)

pub returns : goal.returns
returns c =
    let e : c.loop-a.a ≡ c.args.s.shape.m = omega arith in
    let w = rw e at c.loop-a.invariant in
    rw (picture_blocks c.args.s) (omega arith, w.1)
