-- `store_commit::commit_part` meets its contract: a refusal leaves the store; else lane and block are put in, and the walk posts to each lane of the byte. Assumes nothing.
use Prim.Native.Nat.{ℕ}
use Rattle.store_commit.proofs.Posting.{Posted}
use Rattle.store_commit.proofs.commit_part.Given as goal

abbrev pub invariant-loop-left : goal.invariant-loop-left
invariant-loop-left l = (n : ℕ) × Posted l.part.to l.part.message l.initial.t l.t l.left n

abbrev pub decreases-loop-left : goal.decreases-loop-left
decreases-loop-left l = l.left
