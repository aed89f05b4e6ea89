-- `store_commit::lowest` meets its contract. Assumes nothing.
use native.Mathlib.Omega.{arith}
use Rattle.store_commit.proofs.Walks.{trailing_lowest}
use Rattle.store_commit.proofs.lowest.Goals as goal

pub returns : goal.returns
returns c = trailing_lowest c.args.x (omega arith)
