-- `store_picture::write_block` meets its contract: a turn of the loop writes one lane. Assumes nothing.
use native.Mathlib.Omega.{arith}
use Rattle.buffers.proofs.Writing.{written_none}
use Rattle.store_picture.specs.Records.{records_at}
use Rattle.store_picture.proofs.Records.{gather_none, wrote_more, wrote_fits}
use Rattle.store_picture.proofs.write_block.Goals as goal

pub loop-k-init : goal.loop-k-init
loop-k-init c = rw (gather_none (records_at c.args.s c.args.a.0)) (omega arith, written_none _ _)

pub write_lane-place-requires : goal.write_lane-place-requires
write_lane-place-requires c =
    let g = c.args in (
      c.requires.1,
      rw c.from.ensures (wrote_fits (records_at g.s g.a.0) c.loop-k.k g.s.shape.n g.buffer.now g.at c.loop-k.invariant (omega arith) c.requires.2),
    )

pub loop-k-preserved : goal.loop-k-preserved
loop-k-preserved c =
    let g = c.args in wrote_more (records_at g.s g.a.0) _ g.s.shape.n _ _ c.loop-k.invariant (rw c.from.ensures at c.write_lane-place.ensures) (omega arith) c.requires.2
