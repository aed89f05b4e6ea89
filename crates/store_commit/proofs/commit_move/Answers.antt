-- `store_commit::commit_move` meets its contract: a part's own refusal leaves the store. Assumes nothing.
use Rattle.std.proofs.Common.{rules}
use mathlib.Core.Path.{refl}
use Rattle.machine.specs.Machine.Change.{commit_move}
use Rattle.store_commit.proofs.commit_move.Goals as goal

pub returns-in_err-part-clause-answer : goal.returns-in_err-part-clause-answer
unfolding commit_move
returns-in_err-part-clause-answer c l b x = let w = c.in_err-part.was in search rules

pub returns-in_err-part-clause-store : goal.returns-in_err-part-clause-store
unfolding commit_move
returns-in_err-part-clause-store c l b x = rw c.in_err-part.was refl
