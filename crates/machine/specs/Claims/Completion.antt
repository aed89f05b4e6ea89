-- Beside demand 3: from an opening, after any list of calls, settle is not refused (never 10, 12 or 16), and the store is quiet
-- after it; so, by demand 3, every operation begun completes. And a settle's count on every store: 02, W8's exact one, and 01's bound of it.
-- This file only states them; proofs/Theorems.antt has the theorems. Assumes nothing.
use Rattle.std.specs.Prelude.{◌-◌, ◌*◌, ◌≤◌, ◌≡◌, true, List, Ok}
use Rattle.words.specs.declared.Shape.{Shape}
use Rattle.lanes.specs.UseOrder.{Insertion}
use Rattle.answers.specs.declared.Answer.TheVariants.{Opened}
use Rattle.store.specs.declared.Store.{Store}
use Rattle.store.specs.Opening.{open_of}
use Rattle.store.specs.Quiet.{quiet_of}
use Rattle.machine.specs.declared.SettleCounts.{SettleCounts}
use Rattle.machine.specs.Machine.Settle.{unserved_in, bound_of, exact_of, settle_of}
use Rattle.machine.specs.Machine.Calls.{Call, run}
use Rattle.machine.specs.Machine.Sized.{Sized}

-- settle answers with its counts, and leaves a quiet store
pub record Settles (ins : Insertion) (s : Store) : Type 0 where
  pub counts : SettleCounts
  pub answer : (settle_of ins s).answer ≡ Ok counts
  pub quiet : quiet_of (settle_of ins s).store ≡ true

-- .. after any list of calls from any opening that isn't refused
abbrev pub AlwaysSettles : Type 0
AlwaysSettles =
    (ins : Insertion) (shape : Shape) (calls : List Call) → (open_of shape).answer ≡ Ok Opened →
    Settles ins (run ins (open_of shape).store calls).store

-- 02, W8: the count is exactly R + G + 2 × Q + S + 2 × U + 2 × O, and O is at most (n − 1) × U, all but O of the store before
pub record Exact (s : Store) (counts : SettleCounts) : Type 0 where
  pub steps : counts.steps ≡ exact_of s counts.orders
  pub orders : counts.orders ≤ (s.shape.n - 1) * unserved_in s

-- .. for every settle that isn't refused; the store may be one that no opening gives, of arrays with their declared lengths
abbrev pub SettleExact : Type 0
SettleExact = (ins : Insertion) (s : Store) → Sized s → (counts : SettleCounts) → (settle_of ins s).answer ≡ Ok counts → Exact s counts

-- 01: the count is at most R + G + 2 × Q + S + 2 × n × U
abbrev pub SettleBound : Type 0
SettleBound = (ins : Insertion) (s : Store) → Sized s → (counts : SettleCounts) → (settle_of ins s).answer ≡ Ok counts → counts.steps ≤ bound_of s
