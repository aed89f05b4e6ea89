-- `lane_corruption::bad_use` meets its contract: a line number out of range, or one that an earlier place has too. Assumes nothing.
use Rattle.std.proofs.Common.{rules, tests, take, sym, ◌∙◌}
use Rattle.std.specs.Prelude.{eqb}
use Rattle.std.proofs.lemmas.Iterator.{YieldsList-from_slice}
use Rattle.std.proofs.lemmas.Iterator.Search.{any_from_yields_List}
use borrow.Author.Tests.{lt-leb}
use Rattle.words.specs.declared.LineNo.{LineNo}
use Rattle.words.proofs.Arrays.{any_taken}
use Rattle.lanes.specs.UseOrder.{place_at}
use Rattle.lane_corruption.proofs.bad_use.Goals as goal

pub returns-else-c-x : goal.returns-else-c-x
returns-else-c-x c =
    let test = λ (y : LineNo). eqb y.0 (place_at c.args.order c.args.k).0 in
    simp (lt-leb _ _ c.if-c-x.false)
    (any_from_yields_List test _ _ _ c.any.ensures.ran (YieldsList-from_slice (take c.args.k c.args.order) cc) (λ x b q k. search (rules, tests)) ∙
    sym (any_taken test c.args.order (record { 0 = 0 }) c.args.k (search rules)))
