-- 02, W4: what a serve does by the byte that it works out before it queues an order (`orders_byte`, LaneBytes.antt). This file only states it;
-- proofs/Theorems.antt has the theorem. Assumes nothing.
use Rattle.std.specs.Prelude.{ℕ, ◌<◌, ◌≡◌, ◌≢◌, Bool, true, false, List, [], ◌∷◌, ◌++◌, Some, None}
use Rattle.words.specs.declared.LaneNo.{LaneNo}
use Rattle.words.specs.declared.BlockNo.{BlockNo}
use Rattle.words.specs.Units.{block_of}
use Rattle.queues.specs.Messages.{DownMessage}
use Rattle.queues.specs.Queues.{messages}
use Rattle.lanes.specs.declared.Operation.{Operation}
use Rattle.lanes.specs.declared.Waiting.TheVariants.{Unserved}
use Rattle.answers.specs.Refusals.{refused_of}
use Rattle.store.specs.declared.Store.{Store}
use Rattle.store.specs.declared.Service.{Service}
use Rattle.store.specs.Control.{service_of}
use Rattle.store.specs.Stores.{lane_at, block_at}
use Rattle.machine.specs.Machine.Sized.{Sized}
use Rattle.machine.specs.Machine.Settle.{is_order}
use Rattle.machine.specs.Machine.Serve.{serve_of}
use Rattle.machine.specs.Machine.LaneBytes.{bit_of, bits_in, orders_byte}

-- the messages of lane j's down queue, head first
abbrev pub downs_at : Store → ℕ → List DownMessage
downs_at s j = messages (lane_at s j).downs.len (lane_at s j).downs.at

-- from s to t lane j's down queue gains one message, an order (UPDATE or PURGE) or a grant, behind those that were there
pub record Gains (order : Bool) (s t : Store) (j : ℕ) : Type 0 where
  pub message : DownMessage
  pub behind : downs_at t j ≡ downs_at s j ++ (message ∷ [])
  pub kind : is_order message.kind ≡ order

abbrev pub GainsOrder : Store → Store → ℕ → Type 0
GainsOrder s t j = Gains true s t j

abbrev pub GainsGrant : Store → Store → ℕ → Type 0
GainsGrant s t j = Gains false s t j

-- a serve of lane k's operation on block a that has the byte x, by the stores before and after it
pub record GoesByByte (s t : Store) (k : LaneNo) (a : BlockNo) (x : ℕ) : Type 0 where
  pub fits : x < 256
  -- bit j is set exactly when lane j's down queue gains an order, which is about the block
  pub set : (j : ℕ) → j < 8 → bit_of x j ≡ true → (g : GainsOrder s t j) × (g.message.block ≡ a)
  pub gains : (j : ℕ) → j < 8 → GainsOrder s t j → bit_of x j ≡ true
  -- the other down queues stay, all but lane k's
  pub others : (j : ℕ) → j < 8 → bit_of x j ≡ false → j ≢ k.0 → downs_at t j ≡ downs_at s j
  -- with orders: the block's service awaits as many answers as bits are set, and lane k's queue stays too
  pub awaits : bits_in x ≢ 0 → (v : Service) × (service_of t.control a ≡ Some v) × (v.lane ≡ k) × (v.awaited ≡ bits_in x) × (downs_at t k.0 ≡ downs_at s k.0)
  -- with none: the service closed in that step, and lane k has the grant
  pub closed : bits_in x ≡ 0 → (service_of t.control a ≡ None) × (g : GainsGrant s t k.0) × (g.message.block ≡ a)

-- the claim, of every store whose arrays have their declared lengths, as every store of the program has, and each serve that isn't refused
abbrev pub ServeByByte : Type 0
ServeByByte =
    (s : Store) (k : LaneNo) → Sized s → refused_of (serve_of s k).answer ≡ false →
    (o : Operation) × ((lane_at s k.0).waiting ≡ Unserved o) ×
    GoesByByte s (serve_of s k).store k (block_of o.word) (orders_byte (block_at s (block_of o.word).0) k o.command)
