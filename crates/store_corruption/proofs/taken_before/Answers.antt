-- `store_corruption::taken_before` meets its contract. Assumes nothing.
use Rattle.std.proofs.Common.{rules, tests, arith, sym, ◌∙◌, ◌≤◌, length}
use lib.ListN.{take}
use Rattle.std.proofs.lemmas.List.{length-take}
use Rattle.std.proofs.lemmas.Iterator.{YieldsList-from_slice}
use Rattle.std.proofs.lemmas.Iterator.Search.{any_from_yields_List}
use Rattle.words.proofs.Arrays.{any_taken}
use Rattle.store.specs.Control.{is_for, free}
use Rattle.store_corruption.proofs.taken_before.Goals as goal

pub returns : goal.returns
returns c =
    let most : c.args.k ≤ length c.args.x.now.slots = omega (arith, length-take c.args.k c.args.x.now.slots) in
    any_from_yields_List (is_for c.args.a) _ _ _ c.any.ensures.ran (YieldsList-from_slice (take c.args.k c.args.x.now.slots) cc) (λ x b q k. search (rules, tests)) ∙
    sym (any_taken (is_for c.args.a) c.args.x.now.slots free c.args.k most)
