-- `store_corruption::bad_blocks` meets its contract. Assumes nothing.
use Rattle.std.proofs.Common.{rules, tests, arith, sym, ◌∙◌, ◌≤◌, length}
use lib.ListN.{take}
use Rattle.std.proofs.lemmas.List.{length-take}
use Rattle.std.proofs.lemmas.Iterator.{YieldsList-from_slice}
use Rattle.std.proofs.lemmas.Iterator.Search.{any_from_yields_List}
use Rattle.words.proofs.Arrays.{any_taken}
use Rattle.store.specs.Stores.{no_block}
use Rattle.machine.specs.Machine.Corruption.{bad_flags}
use Rattle.store_corruption.proofs.bad_blocks.Goals as goal

pub returns : goal.returns
returns c =
    let s = c.args.s.now in
    let most : s.shape.m ≤ length s.blocks = omega (arith, length-take s.shape.m s.blocks) in
    any_from_yields_List (bad_flags s.shape.n) _ _ _ c.any.ensures.ran (YieldsList-from_slice (take s.shape.m s.blocks) cc) (λ x b q k. search (rules, tests)) ∙
    sym (any_taken (bad_flags s.shape.n) s.blocks no_block s.shape.m most)
