-- `store_commit::commit_part` meets its contract: a refusal leaves the store; else lane and block are put in, and the walk posts to each lane of the byte. Assumes nothing.
use Rattle.std.proofs.Common.{rules, ◌≡◌, ◌+◌, true, sym, ap, ◌∙◌, arith}
use lib.ListN.{get_or, set}
use Rattle.lanes.specs.Lanes.{with_downs}
use Rattle.queues.specs.declared.Queue.{Queue}
use Rattle.queues.specs.declared.DownKind.{DownKind}
use Rattle.queues.specs.Queues.{capacity}
use Rattle.store.specs.Stores.{no_lane}
use Rattle.machine.specs.Machine.LaneBytes.{lanes_of}
use Rattle.machine.specs.Machine.Change.{some_full, commit_move}
use Rattle.store_commit.specs.Bits.{lowest_bit}
use Rattle.store_commit.proofs.Walks.{fewer}
use Rattle.store_commit.proofs.Posting.{Posted, push_none, push_some, posted_none, posted_all, room_all, turn_below, turn_full, turn_posts}
use Rattle.store_commit.proofs.commit_part.Goals as goal

pub loop-left-init : goal.loop-left-init
loop-left-init c = (0, posted_none _ _ _ (omega arith))

pub offset_bounds-t-h : goal.offset_bounds-t-h
offset_bounds-t-h c = omega (arith, c.lowest-h.ensures, turn_below _ _ _ _ _ _ c.loop-left.invariant.1 c.loop-left-test.true)

pub bounds-t-h : goal.bounds-t-h
bounds-t-h c = omega (arith, c.lowest-h.ensures, turn_below _ _ _ _ _ _ c.loop-left.invariant.1 c.loop-left-test.true)

full_lane : (c : goal.After-from_residual) → some_full capacity (lanes_of c.args.part.to) (set c.args.store.now.lanes c.args.k.0 c.args.part.lane) ≡ true
full_lane c =
    let part = c.args.part in
    turn_full part.to part.message _ c.loop-left.t c.loop-left.left _ c.loop-left.invariant.1 c.loop-left-test.true
    (rw (← c.lowest-h.ensures) (push_none _ part.message (sym c.push.ensures ∙ c.in_err-t.ensures.ok_part)))

pub returns-in_err-t-clause-answer : goal.returns-in_err-t-clause-answer
unfolding commit_move
returns-in_err-t-clause-answer c = let f = full_lane c in search rules

pub returns-in_err-t-clause-store : goal.returns-in_err-t-clause-store
unfolding commit_move
returns-in_err-t-clause-store c = let f = full_lane c in search rules

pub offset_bounds-t-h-in-loop-left : goal.offset_bounds-t-h-in-loop-left
offset_bounds-t-h-in-loop-left c =
    omega (arith, c.lowest-h.ensures, turn_below _ _ _ _ _ _ c.loop-left.invariant.1 c.loop-left-test.true)

pub bounds-t-h-in-loop-left : goal.bounds-t-h-in-loop-left
bounds-t-h-in-loop-left c =
    omega (arith, c.lowest-h.ensures, turn_below _ _ _ _ _ _ c.loop-left.invariant.1 c.loop-left-test.true)

pub loop-left-smaller : goal.loop-left-smaller
loop-left-smaller c =
    omega (arith, c.without_lowest-left.ensures, fewer c.loop-left.left c.loop-left.invariant.1.fits c.loop-left-test.true)

pub loop-left-preserved : goal.loop-left-preserved
loop-left-preserved c =
    let part = c.args.part in
    let old = get_or c.loop-left.t.lanes c.lowest-h.result no_lane in
    let p = push_some old.downs part.message (sym c.push.ensures ∙ c.in_ok-t.ensures.ok_part) in (
      lowest_bit c.loop-left.left + 1,
      rw (c.without_lowest-left.ensures, c.lowest-h.ensures)
          (turn_posts part.to part.message _ c.loop-left.t c.loop-left.left _ c.loop-left.invariant.1 c.loop-left-test.true
          (rw (← c.lowest-h.ensures) p.0) (rw (← c.lowest-h.ensures) (ap (λ (d : Queue DownKind). with_downs d old) p.1))),
    )

pub returns-clause-answer : goal.returns-clause-answer
unfolding commit_move
returns-clause-answer c =
    let part = c.args.part in
    let none : c.loop-left.left ≡ 0 = omega arith in
    let w : Posted part.to part.message _ c.loop-left.t 0 c.loop-left.invariant.0 = rw none at c.loop-left.invariant.1 in
    let r = room_all part.to part.message _ c.loop-left.t c.loop-left.invariant.0 w in
    search rules

pub returns-clause-store : goal.returns-clause-store
unfolding commit_move
returns-clause-store c =
    let part = c.args.part in
    let none : c.loop-left.left ≡ 0 = omega arith in
    let w : Posted part.to part.message _ c.loop-left.t 0 c.loop-left.invariant.0 = rw none at c.loop-left.invariant.1 in
    rw (commit_move, room_all part.to part.message _ c.loop-left.t c.loop-left.invariant.0 w)
    (posted_all part.to part.message _ c.loop-left.t c.loop-left.invariant.0 w)
