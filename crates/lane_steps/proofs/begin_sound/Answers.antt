-- `lane_steps::begin_sound` meets its contract: 6, 7, 8, 17, then the lane's part, refused or put back. Assumes nothing.
use Rattle.std.proofs.Common.{rules, arith, ◌≡◌, ◌*◌, true, false, Err, ap, sym, ◌∙◌}
use borrow.Author.Tests.{lt-leb}
use Rattle.lane_steps.proofs.Bounds.{lane_bound, lines_bound, oldest_bound, begin_counted}
use Rattle.words.specs.declared.BlockNo.{BlockNo}
use Rattle.store.specs.Stores.{lane_at}
use Rattle.machine.specs.Machine.Begun.{exhausted_of}
use Rattle.machine.specs.Machine.Begin.{begin_of, admits_of}
use Rattle.lane_steps.proofs.Parts.{refused_part, taken_part}
use Rattle.lane_steps.proofs.begin_sound.Goals as goal

pub bounds-store-k : goal.bounds-store-k
bounds-store-k c = lane_bound _ _ c.requires c.if-shape-k.false

pub admits-requires : goal.admits-requires
admits-requires c = lines_bound _ _ c.requires c.if-shape-k.false

pub begin_lane-requires : goal.begin_lane-requires
begin_lane-requires c = (lines_bound _ _ c.requires c.if-shape-k.false, oldest_bound _ _ c.requires c.if-shape-k.false)

pub returns-in_err-part-clause-answer : goal.returns-in_err-part-clause-answer
unfolding begin_of
returns-in_err-part-clause-answer c =
    let same : c.from_residual.result ≡ Err c.in_err-part.field-0.0 = search rules in
    let admits : admits_of c.args.store.now.shape.c c.args.op c.args.w (lane_at c.args.store.now c.args.k.0) ≡ true = search rules in
    let left : exhausted_of c.args.store.now ≡ false = search rules in
    rw (
      begin_of,
      c.requires,
      lt-leb _ _ c.if-shape-k.false,
      lt-leb (4 * c.args.store.now.shape.m) c.args.w.0 (omega (arith, ap (λ (a : BlockNo). a.0) c.block.ensures)),
      admits,
      left,
      refused_part c.args.store.now c.args.k _ _ (sym c.in_err-part.was ∙ c.begin_lane.ensures),
    ) same

pub returns-in_err-part-clause-store : goal.returns-in_err-part-clause-store
unfolding begin_of
returns-in_err-part-clause-store c = search (rules, refused_part c.args.store.now c.args.k _ _ (sym c.in_err-part.was ∙ c.begin_lane.ensures))

pub commit_lane-requires-clause-lane : goal.commit_lane-requires-clause-lane
commit_lane-requires-clause-lane c = lane_bound _ _ c.requires c.if-shape-k.false

pub commit_lane-requires-clause-place : goal.commit_lane-requires-clause-place
commit_lane-requires-clause-place c =
    let n = begin_counted c.args.store.now c.args.k c.requires c.if-shape-k.false c.args.op c.args.w (search rules) (search rules) in
    rw (taken_part _ _ (sym c.in_ok-part.was ∙ c.begin_lane.ensures)) at n
