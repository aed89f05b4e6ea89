-- 01, "Settle", to the exact step: what each step makes of R + G + 2Q + S + 2U. This file only states it; proofs/Theorems.antt has the theorem.
-- Assumes nothing.
use Rattle.std.specs.Prelude.{ℕ, ◌+◌, ◌*◌, ◌≡◌, false}
use Rattle.words.specs.declared.LaneNo.{LaneNo}
use Rattle.words.specs.Units.{block_of}
use Rattle.lanes.specs.UseOrder.{Insertion}
use Rattle.lanes.specs.declared.Waiting.{Waiting}
use Rattle.lanes.specs.declared.Waiting.TheVariants.{Idle, Unserved, Served}
use Rattle.answers.specs.Refusals.{refused_of}
use Rattle.store.specs.declared.Store.{Store}
use Rattle.store.specs.declared.Outcome.{Outcome}
use Rattle.store.specs.Stores.{lane_at, block_at}
use Rattle.store.specs.LaneSets.{count_of}
use Rattle.machine.specs.Machine.Serve.{ordered, serve_of}
use Rattle.machine.specs.Machine.Return.{return_of}
use Rattle.machine.specs.Machine.Deliver.{deliver_of}
use Rattle.machine.specs.Machine.Settle.{returns_in, grants_in, orders_in, services_in, unserved_in, orders_queued, settle_step}

-- R + G + 2 × Q + S + u × U: the potential where u is 2, 01's bound where it is 2 × n
unfoldable pub tally_of : ℕ → Store → ℕ
tally_of u s = returns_in s + grants_in s + 2 * orders_in s + services_in s + u * unserved_in s

-- R + G + 2 × Q + S + 2 × U
abbrev pub potential_of : Store → ℕ
potential_of s = tally_of 2 s

-- the orders that a serve of lane k sends, by what waits there
abbrev pub orders_for : Store → LaneNo → Waiting → ℕ
orders_for s k Idle = 0
orders_for s k (Unserved o) = count_of (ordered (block_at s (block_of o.word).0) k o.command)
orders_for s k (Served o) = 0

-- a step that isn't refused takes 1 from the potential, and each order that it queues adds 2
abbrev pub Costs : ℕ → Store → Outcome → Type 0
Costs orders s r = refused_of r.answer ≡ false → (orders_queued s r.store ≡ orders) × (potential_of r.store + 1 ≡ potential_of s + 2 * orders)

-- only a serve queues orders; a step of settle is one of the three
pub record ExactSteps (ins : Insertion) (s : Store) : Type 0 where
  pub deliver : (k : LaneNo) → Costs 0 s (deliver_of ins s k)
  pub return : (k : LaneNo) → Costs 0 s (return_of s k)
  pub serve : (k : LaneNo) → Costs (orders_for s k (lane_at s k.0).waiting) s (serve_of s k)
  pub step : refused_of (settle_step ins s).answer ≡ false → potential_of (settle_step ins s).store + 1 ≡ potential_of s + 2 * orders_queued s (settle_step ins s).store
