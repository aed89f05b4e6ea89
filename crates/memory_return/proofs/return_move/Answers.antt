-- `memory_return::return_move` meets its contract: the message is taken and put to its block; an answer is counted, an ejection sends nothing. Assumes nothing.
use Rattle.machine.specs.Machine.Return.{return_move}
use Rattle.memory_return.proofs.return_move.Goals as goal

pub returns-then-is_answer : goal.returns-then-is_answer
unfolding return_move
returns-then-is_answer c =
    rw (return_move, ← c.is_answer.ensures, c.if-is_answer.true, c.count_answer.ensures c.args.l c.args.b, c.taken_block-u.ensures, c.without_head-t.ensures)

pub returns-else-is_answer : goal.returns-else-is_answer
unfolding return_move
returns-else-is_answer c =
    rw (return_move, ← c.is_answer.ensures, c.if-is_answer.false, c.send_nothing.ensures, c.taken_block-u.ensures, c.without_head-t.ensures)
