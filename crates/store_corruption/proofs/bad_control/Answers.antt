-- `store_corruption::bad_control` meets its contract. Assumes nothing.
use Rattle.std.proofs.Common.{rules, tests, sym, ◌∙◌, refl}
use borrow.Author.Tests.{le-ltb}
use Rattle.std.proofs.lemmas.Iterator.{YieldsList-from_range}
use Rattle.std.proofs.lemmas.Iterator.Search.{any_from_yields_List}
use Rattle.words.proofs.Arrays.{any_range}
use Rattle.machine.specs.Machine.Corruption.{bad_slot, bad_control}
use Rattle.store_corruption.proofs.bad_control.Goals as goal

pub returns-else-shape-services : goal.returns-else-shape-services
unfolding bad_control
returns-else-shape-services c =
    let some = any_from_yields_List (bad_slot c.args.shape.n c.args.shape.m c.args.x.now) _ _ _ c.any.ensures.ran (YieldsList-from_range 0 8 8 refl refl) (λ x b q k. search (rules, tests)) in
    rw (bad_control, ← c.services.ensures, le-ltb _ _ c.if-shape-services.false) (some ∙ sym (any_range (bad_slot c.args.shape.n c.args.shape.m c.args.x.now) 8))
