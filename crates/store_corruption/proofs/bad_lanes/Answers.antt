-- `store_corruption::bad_lanes` meets its contract. Assumes nothing.
use Rattle.std.proofs.Common.{rules, tests, arith, sym, ◌∙◌, ◌≤◌, length}
use lib.ListN.{take}
use Rattle.std.proofs.lemmas.List.{length-take}
use Rattle.std.proofs.lemmas.Iterator.{YieldsList-from_slice}
use Rattle.std.proofs.lemmas.Iterator.Search.{any_from_yields_List}
use Rattle.words.proofs.Arrays.{any_taken}
use Rattle.queues.specs.Queues.{capacity}
use Rattle.store.specs.Stores.{no_lane}
use Rattle.machine.specs.Machine.Corruption.{bad_lane}
use Rattle.store_corruption.proofs.bad_lanes.Goals as goal

pub returns : goal.returns
returns c =
    let s = c.args.s.now in
    let most : s.shape.n ≤ length s.lanes = omega (arith, length-take s.shape.n s.lanes) in
    any_from_yields_List (bad_lane capacity s.shape.c s.shape.m) _ _ _ c.any.ensures.ran (YieldsList-from_slice (take s.shape.n s.lanes) cc) (λ x b q k. search (rules, tests)) ∙
    sym (any_taken (bad_lane capacity s.shape.c s.shape.m) s.lanes no_lane s.shape.n most)
