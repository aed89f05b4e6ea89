-- `store::Control::vacant` meets its contract. Assumes nothing.
use Rattle.std.proofs.Common.{rules, tests, not, ◌∙◌}
use Rattle.std.proofs.lemmas.Iterator.{YieldsList-from_slice}
use Rattle.std.proofs.lemmas.Iterator.Search.{position_from_yields_List}
use Rattle.words.proofs.Arrays.{position_places}
use Rattle.store.specs.Control.{free_slot, is_busy, free}
use Rattle.store.proofs.Control.vacant.Goals as goal

pub returns : goal.returns
unfolding free_slot
returns c =
    position_from_yields_List (λ y. not (is_busy y)) _ _ _ c.position.ensures.ran (YieldsList-from_slice c.args.self.slots cc) (λ x b q k. search (rules, tests)) ∙
    position_places (λ y. not (is_busy y)) c.args.self.slots free 8 (search rules)
