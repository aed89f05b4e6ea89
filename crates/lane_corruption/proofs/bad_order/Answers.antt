-- `lane_corruption::bad_order` meets its contract. Assumes nothing.
use Rattle.std.proofs.Common.{rules, tests, refl, sym, arith, ◌∙◌}
use Rattle.std.proofs.lemmas.Iterator.{YieldsList-from_range}
use Rattle.std.proofs.lemmas.Iterator.Search.{any_from_yields_List}
use Rattle.words.proofs.Arrays.{any_range}
use Rattle.machine.specs.Machine.Corruption.{bad_use}
use Rattle.lane_corruption.proofs.bad_order.Goals as goal

pub returns : goal.returns
returns c =
    let test = bad_use c.args.c c.args.order in
    any_from_yields_List test _ _ _ c.any.ensures.ran (YieldsList-from_range 0 c.args.c c.args.c refl (omega arith)) (λ x b q k. search (rules, tests)) ∙
    sym (any_range test c.args.c)
