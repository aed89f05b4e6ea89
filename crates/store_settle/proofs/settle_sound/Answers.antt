-- `store_settle::settle_sound` meets its contract: a turn of the loop is one step, listed and counted; a refused one gives the first store back. Assumes nothing.
use Rattle.std.proofs.Common.{sym, ◌∙◌, arith}
use Rattle.lanes.specs.UseOrder.{LoadsOldest}
use Rattle.machine.specs.Machine.Settle.{settle_step}
use Rattle.store_settle_step.proofs.Arrays.{arrays_sized}
use Rattle.store_settle.proofs.Going.{refused, going_start, going_quiet, going_counted, going_small, going_refused, going_taken, taken_fits, taken_falls}
use Rattle.store_settle.proofs.settle_sound.Goals as goal

pub loop-first-init : goal.loop-first-init
loop-first-init c =
    let known = c.well_formed.0.1.1.1 in
    rw c.none-done.ensures (going_start _ c.requires (arrays_sized c.args.first _ _ known.0.1.1.0.1.0.1 known.1.1.0 known.1.1.1.0))

pub list-requires : goal.list-requires
list-requires c = taken_fits _ _ _ _ _ c.loop-first.invariant _ c.in-Ok.ensures.step

pub overflow_add-steps : goal.overflow_add-steps
overflow_add-steps c =
    let next = going_taken _ _ _ _ _ c.loop-first.invariant (sym c.quiet.ensures ∙ c.loop-first-test.true) _ c.in-Ok.ensures.step in
    omega (arith, (going_small _ _ _ _ _ next c.requires).0)

pub overflow_add-orders : goal.overflow_add-orders
overflow_add-orders c =
    let next = going_taken _ _ _ _ _ c.loop-first.invariant (sym c.quiet.ensures ∙ c.loop-first-test.true) _ c.in-Ok.ensures.step in
    omega (arith, (going_small _ _ _ _ _ next c.requires).1)

pub loop-first-smaller : goal.loop-first-smaller
loop-first-smaller c = rw c.step.ensures.store (taken_falls _ _ _ _ _ c.loop-first.invariant _ c.in-Ok.ensures.step)

pub loop-first-preserved : goal.loop-first-preserved
loop-first-preserved c =
    rw (c.list.ensures, c.step.ensures.store)
    (going_taken _ _ _ _ _ c.loop-first.invariant (sym c.quiet.ensures ∙ c.loop-first-test.true) _ c.in-Ok.ensures.step)

pub returns-in-Err : goal.returns-in-Err
returns-in-Err c =
    let answer = refused c.loop-first.s (settle_step LoadsOldest c.loop-first.s) _ c.in-Err.ensures.step in
    let g = going_refused _ _ _ _ _ c.loop-first.invariant (sym c.quiet.ensures ∙ c.loop-first-test.true) _ answer in
    (c.refuse.ensures.0 ∙ rw g, c.refuse.ensures.1)

pub returns : goal.returns
returns c =
    let known = c.well_formed.0.1.1.1 in
    let z = arrays_sized c.args.first _ _ known.0.1.1.0.1.0.1 known.1.1.0 known.1.1.1.0 in
    let q = sym c.quiet.ensures ∙ c.loop-first-test.false in
    (going_quiet _ _ _ _ _ c.loop-first.invariant q, going_counted _ _ _ _ _ c.loop-first.invariant z q)
