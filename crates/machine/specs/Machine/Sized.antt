-- The arrays have their declared lengths. In the definitions an array is a list of any length; every store of the program has these
-- lengths, an opening gives them, and every step keeps them. Assumes nothing.
use Rattle.std.specs.Prelude.{ℕ, ◌<◌, ◌≡◌, length}
use Rattle.queues.specs.Queues.{capacity}
use Rattle.lanes.specs.declared.Lane.{Lane}
use Rattle.store.specs.declared.Store.{Store}
use Rattle.store.specs.Control.{slot_count}
use Rattle.store.specs.Stores.{lane_at, block_at}

-- 8 lines, 8 places of the use order, 8 places in each queue
pub record LaneSized (l : Lane) : Type 0 where
  pub lines : length l.lines ≡ 8
  pub order : length l.order ≡ 8
  pub returns : length l.returns.at ≡ capacity
  pub downs : length l.downs.at ≡ capacity

-- 8 lanes, 8 slots, 64 blocks, 8 presence flags in each
pub record Sized (s : Store) : Type 0 where
  pub lanes : length s.lanes ≡ 8
  pub slots : length s.control.slots ≡ slot_count
  pub blocks : length s.blocks ≡ 64
  pub lane : (k : ℕ) → k < 8 → LaneSized (lane_at s k)
  pub present : (a : ℕ) → a < 64 → length (block_at s a).present ≡ 8
