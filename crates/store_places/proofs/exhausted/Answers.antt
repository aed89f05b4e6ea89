-- `store_places::exhausted` meets its contract where the lanes are not looked at. Assumes nothing.
use Rattle.std.proofs.Common.{sym, ◌∙◌}
use Rattle.std.proofs.lemmas.Bool.{lt-leb}
use Rattle.store_places.proofs.Far.{far_left}
use Rattle.store_places.proofs.exhausted.Goals as goal

pub returns-else-s-ge-LAST_PLACE : goal.returns-else-s-ge-LAST_PLACE
returns-else-s-ge-LAST_PLACE c = lt-leb _ _ c.if-s-ge-LAST_PLACE.false ∙ sym (far_left _ c.if-s-ge-LAST_PLACE.false)
