-- `store_picture::valid_lines` meets its contract. Assumes nothing.
use Rattle.std.proofs.Common.{rules, arith, ◌≡◌, ◌≤◌, length, sym, ap, ◌∙◌}
use lib.ListN.{length-take}
use Rattle.words.proofs.Folds.{count_most}
use Rattle.lanes.specs.declared.Lane.{Lane}
use Rattle.store.specs.Stores.{no_lane}
use Rattle.store_picture.specs.Records.{valid_in}
use Rattle.store_picture.proofs.Records.{sum_none, sum_more, taken_at, valid_most}
use Rattle.store_picture.proofs.valid_lines.Goals as goal

pub loop-lane-init : goal.loop-lane-init
loop-lane-init c = sym (sum_none _)

pub overflow_add-count : goal.overflow_add-count
overflow_add-count c =
    let v = valid_most c.args.s c.loop-lane.lane-index c.requires.1 in
    let m : c.valid_in-count.result ≤ c.args.s.shape.c = rw c.valid_in-count.ensures (count_most _ _) in
    let i = (taken_at c.from.result c.args.s.lanes c.loop-lane.lane-index no_lane c.loop-lane-test.true).0 in
    omega arith

pub loop-lane-preserved : goal.loop-lane-preserved
loop-lane-preserved c =
    let l = taken_at c.from.result c.args.s.lanes c.loop-lane.lane-index no_lane c.loop-lane-test.true in
    let e = c.valid_in-count.ensures ∙ ap (λ (x : Lane). valid_in x c.args.s.shape.c) l.1 in
    rw (c.loop-lane.invariant, e, sum_more)

pub returns : goal.returns
returns c =
    let eight : length c.args.s.lanes ≡ 8 = search rules in
    let all : c.loop-lane.lane-index ≡ c.args.s.shape.n = omega (arith, length-take c.from.result c.args.s.lanes) in
    rw all at c.loop-lane.invariant
