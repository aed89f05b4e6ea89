-- `store::Control::find` meets its contract. Assumes nothing.
use Rattle.std.proofs.Common.{rules, tests, ◌∙◌}
use Rattle.std.proofs.lemmas.Iterator.{YieldsList-from_slice}
use Rattle.std.proofs.lemmas.Iterator.Search.{position_from_yields_List}
use Rattle.words.proofs.Arrays.{position_places}
use Rattle.store.specs.Control.{slot_of, is_for, free}
use Rattle.store.proofs.Control.find.Goals as goal

pub returns : goal.returns
unfolding slot_of
returns c =
    position_from_yields_List (is_for c.args.a) _ _ _ c.position.ensures.ran (YieldsList-from_slice c.args.self.slots cc) (λ x b q k. search (rules, tests)) ∙
    position_places (is_for c.args.a) c.args.self.slots free 8 (search rules)
