-- `lane_steps::deliver_sound` meets its contract: 6, then the lane's part, refused or put back. Assumes nothing.
use Rattle.std.proofs.Common.{rules, ◌≡◌, Err, sym, ◌∙◌}
use borrow.Author.Tests.{lt-leb}
use Rattle.lane_steps.proofs.Bounds.{lane_bound, lines_bound, deliver_counted}
use Rattle.machine.specs.Machine.Deliver.{deliver_of}
use Rattle.lane_steps.proofs.Parts.{refused_part, taken_part}
use Rattle.lane_steps.proofs.deliver_sound.Goals as goal

pub bounds-store-k : goal.bounds-store-k
bounds-store-k c = lane_bound _ _ c.requires c.if-shape-k.false

pub deliver_lane-requires : goal.deliver_lane-requires
deliver_lane-requires c = lines_bound _ _ c.requires c.if-shape-k.false

pub returns-in_err-part-clause-answer : goal.returns-in_err-part-clause-answer
unfolding deliver_of
returns-in_err-part-clause-answer c =
    let same : c.from_residual.result ≡ Err c.in_err-part.field-0.0 = search rules in
    rw (deliver_of, c.requires, lt-leb _ _ c.if-shape-k.false, refused_part c.args.store.now c.args.k _ _ (sym c.in_err-part.was ∙ c.deliver_lane.ensures)) same

pub returns-in_err-part-clause-store : goal.returns-in_err-part-clause-store
unfolding deliver_of
returns-in_err-part-clause-store c = search (rules, refused_part c.args.store.now c.args.k _ _ (sym c.in_err-part.was ∙ c.deliver_lane.ensures))

pub commit_lane-requires-clause-lane : goal.commit_lane-requires-clause-lane
commit_lane-requires-clause-lane c = lane_bound _ _ c.requires c.if-shape-k.false

pub commit_lane-requires-clause-place : goal.commit_lane-requires-clause-place
commit_lane-requires-clause-place c =
    rw (taken_part _ _ (sym c.in_ok-part.was ∙ c.deliver_lane.ensures)) at (deliver_counted c.args.store.now c.args.k c.requires c.if-shape-k.false)
