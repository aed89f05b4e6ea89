-- `store_commit::without_lowest` meets its contract. Assumes nothing.
use native.Mathlib.Omega.{arith}
use Rattle.store_commit.proofs.Walks.{and_without}
use Rattle.store_commit.proofs.without_lowest.Goals as goal

pub returns : goal.returns
returns c = and_without c.args.x (omega arith)
