-- `store_picture::write_lane` meets its contract: a turn of the loop writes one line. Assumes nothing.
use Rattle.std.proofs.Common.{rules, arith, ◌≡◌, length}
use lib.ListN.{get_or, length-take}
use Rattle.words.specs.Lines.{no_line}
use Rattle.buffers.proofs.Writing.{written_none}
use Rattle.store_picture.specs.Records.{line_record}
use Rattle.store_picture.proofs.Records.{gather_none, wrote_more, wrote_fits, taken_at}
use Rattle.store_picture.proofs.write_lane.Goals as goal

pub loop-line-init : goal.loop-line-init
loop-line-init c =
    let g = c.args in rw (gather_none (λ i. line_record g.a.0 g.k.0 (get_or g.l.lines i no_line))) (omega arith, written_none _ _)

pub write_line-place-requires : goal.write_line-place-requires
write_line-place-requires c =
    let g = c.args in
    let l = taken_at c.from.result g.l.lines c.loop-line.line-index no_line c.loop-line-test.true in
    rw l.1
    (wrote_fits (λ i. line_record g.a.0 g.k.0 (get_or g.l.lines i no_line)) c.loop-line.line-index g.c g.buffer.now g.at
    c.loop-line.invariant (omega arith) c.requires.1)

pub loop-line-preserved : goal.loop-line-preserved
loop-line-preserved c =
    let g = c.args in
    let l = taken_at c.from.result g.l.lines c.loop-line.line-index no_line c.loop-line-test.true in
    wrote_more _ _ g.c _ _ c.loop-line.invariant (rw l.1 at c.write_line-place.ensures) (omega arith) c.requires.1

pub returns : goal.returns
returns c =
    let eight : length c.args.l.lines ≡ 8 = search rules in
    let all : c.loop-line.line-index ≡ c.args.c = omega (arith, length-take c.from.result c.args.l.lines) in
    rw all at c.loop-line.invariant
