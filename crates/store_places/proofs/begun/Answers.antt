-- `store_places::begun` meets its contract. Assumes nothing.
use Rattle.std.proofs.Common.{rules, tests, ◌+◌, not, ap, refl, sym, ◌∙◌}
use Rattle.std.proofs.lemmas.Iterator.{YieldsList-from_slice, YieldsList-from_take}
use Rattle.std.proofs.lemmas.Iterator.Consumers.{YieldsList-from_filter, count_from_yields_List}
use Rattle.words.proofs.Beyond.{count_beyond}
use Rattle.lanes.specs.Waits.{idle_of}
use Rattle.lanes.specs.declared.Lane.{Lane}
use Rattle.store.specs.Stores.{no_lane}
use Rattle.machine.specs.Machine.Begun.{waiting_in, begun_in}
use Rattle.store_places.proofs.begun.Goals as goal

pub returns : goal.returns
unfolding begun_in waiting_in
returns c =
    let waits = λ (l : Lane). not (idle_of l.waiting) in
    ap (λ w. c.args.s.now.completions + w)
    (count_from_yields_List _ _ c.count.ensures.ran (YieldsList-from_filter _ waits (YieldsList-from_take _ (YieldsList-from_slice c.args.s.now.lanes cc) cc) c.filter.ensures.closure (λ x b q k. search (rules, tests))) ∙
    sym (count_beyond waits c.args.s.now.lanes no_lane c.args.s.now.shape.n refl))
