-- `store::Control::services` meets its contract. Assumes nothing.
use Rattle.std.proofs.Common.{rules, tests, ◌∙◌, sym}
use Rattle.std.proofs.lemmas.Iterator.{YieldsList-from_slice}
use Rattle.std.proofs.lemmas.Iterator.Consumers.{YieldsList-from_filter, count_from_yields_List}
use Rattle.words.proofs.Arrays.{count_places}
use Rattle.store.specs.Control.{open_services, is_busy, free}
use Rattle.store.proofs.Control.services.Goals as goal

pub returns : goal.returns
unfolding open_services
returns c =
    count_from_yields_List _ _ c.count.ensures.ran (YieldsList-from_filter _ (λ y. is_busy y) (YieldsList-from_slice c.args.self.slots cc) c.filter.ensures.closure (λ x b q k. search (rules, tests))) ∙
    sym (count_places (λ y. is_busy y) c.args.self.slots free 8 (search rules))
