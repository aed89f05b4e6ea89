-- 01, "Parts of a store": a store; its lanes and blocks by number, one update for each field that a call changes. Assumes nothing.
use Rattle.std.specs.Prelude.{ℕ, false, List, [], get_or, set}
use Rattle.lanes.specs.declared.Lane.{Lane}
use Rattle.lanes.specs.declared.Waiting.TheVariants.{Idle}
use Rattle.store.specs.declared.Block.{Block}
use Rattle.store.specs.declared.Control.{Control}
use Rattle.store.specs.declared.Store.{Store}

-- what a read past the end of the lanes, or of the blocks, gives
abbrev pub no_lane : Lane
no_lane = record { lines = []; order = []; returns = record { len = 0; at = [] }; downs = record { len = 0; at = [] }; waiting = Idle }

abbrev pub no_block : Block
no_block = record { words = []; present = []; modified = false }

-- lane k of a store, block a of its main memory
abbrev pub lane_at : Store → ℕ → Lane
lane_at s k = get_or s.lanes k no_lane

abbrev pub block_at : Store → ℕ → Block
block_at s a = get_or s.blocks a no_block

-- a store with another control, another count of completions, other lanes, other blocks
abbrev pub with_control : Store → Control → Store
with_control s x = record { shape = s.shape; control = x; completions = s.completions; lanes = s.lanes; blocks = s.blocks }

abbrev pub with_completions : Store → ℕ → Store
with_completions s done = record { shape = s.shape; control = s.control; completions = done; lanes = s.lanes; blocks = s.blocks }

abbrev pub with_lanes : Store → List Lane → Store
with_lanes s ls = record { shape = s.shape; control = s.control; completions = s.completions; lanes = ls; blocks = s.blocks }

abbrev pub with_blocks : Store → List Block → Store
with_blocks s bs = record { shape = s.shape; control = s.control; completions = s.completions; lanes = s.lanes; blocks = bs }

-- a store with another lane k, another block a
abbrev pub with_lane : Store → ℕ → Lane → Store
with_lane s k l = with_lanes s (set s.lanes k l)

abbrev pub with_block : Store → ℕ → Block → Store
with_block s a b = with_blocks s (set s.blocks a b)
