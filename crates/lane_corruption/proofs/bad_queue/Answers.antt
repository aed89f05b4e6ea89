-- `lane_corruption::bad_queue` meets its contract: no more than the places, and each message that is in the queue names a block of the shape. Assumes nothing.
use Rattle.std.proofs.Common.{rules, tests, take, sym, ◌∙◌}
use Rattle.std.proofs.lemmas.Iterator.{YieldsList-from_slice}
use Rattle.std.proofs.lemmas.Iterator.Search.{any_from_yields_List}
use borrow.Author.Tests.{le-ltb}
use lib.ListN.{get_or}
use Rattle.words.proofs.Arrays.{any_taken}
use Rattle.queues.specs.declared.Message.{Message}
use Rattle.machine.specs.Machine.Corruption.{bad_block}
use Rattle.lane_corruption.proofs.Within.{any_within}
use Rattle.lane_corruption.proofs.bad_queue.Goals as goal

pub returns-else-q-gt-CAPACITY : goal.returns-else-q-gt-CAPACITY
returns-else-q-gt-CAPACITY g c nothing =
    let test = λ (x : Message _). bad_block c.args.m x.block in
    rw (le-ltb _ _ c.if-q-gt-CAPACITY.false, any_within (λ i. test (get_or c.args.q.at i nothing)) c.args.q.len 8 c.if-q-gt-CAPACITY.false)
    (any_from_yields_List test _ _ _ c.any.ensures.ran (YieldsList-from_slice (take c.args.q.len c.args.q.at) cc) (λ x b q k. search (rules, tests)) ∙
    sym (any_taken test c.args.q.at nothing c.args.q.len (search rules)))
