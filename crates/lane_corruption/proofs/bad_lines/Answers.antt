-- `lane_corruption::bad_lines` meets its contract. Assumes nothing.
use Rattle.std.proofs.Common.{rules, tests, take, sym, ◌∙◌}
use Rattle.std.proofs.lemmas.Iterator.{YieldsList-from_slice}
use Rattle.std.proofs.lemmas.Iterator.Search.{any_from_yields_List}
use Rattle.words.specs.declared.Line.{Line}
use Rattle.words.specs.Lines.{no_line}
use Rattle.words.proofs.Arrays.{any_taken}
use Rattle.machine.specs.Machine.Corruption.{bad_line}
use Rattle.lane_corruption.proofs.bad_lines.Goals as goal

pub returns : goal.returns
returns c =
    let test = λ (x : Line). bad_line c.args.m x in
    any_from_yields_List test _ _ _ c.any.ensures.ran (YieldsList-from_slice (take c.args.c c.args.lines) cc) (λ x b q k. search (rules, tests)) ∙
    sym (any_taken test c.args.lines no_line c.args.c (search rules))
