-- A serve whose operation waits unserved on a store that is not corrupt: the bounds of its lane and block, the sizes of what memory's part has. Assumes nothing.
use Prim.Native.Nat.{◌<◌}
use mathlib.Core.Path.{◌≡◌, refl, ◌∙◌}
use mathlib.Core.Bool.{false}
use mathlib.Core.List.{List}
use lib.ListN.{length, length-set}
use native.Mathlib.Omega.{arith}
use Rattle.words.specs.declared.LaneNo.{LaneNo}
use Rattle.words.specs.declared.BlockNo.{BlockNo}
use Rattle.words.specs.Units.{block_of}
use Rattle.words.proofs.Folds.{by_cond}
use Rattle.lanes.specs.declared.Command.{Command}
use Rattle.lanes.specs.declared.Operation.{Operation}
use Rattle.lanes.specs.declared.Waiting.TheVariants.{Unserved, Served}
use Rattle.lanes.specs.Lanes.{with_waiting}
use Rattle.store.specs.declared.Store.{Store}
use Rattle.store.specs.Control.{service_of, busy_for}
use Rattle.store.proofs.Services.{none_found, Vacant, vacant, not_busy_for}
use Rattle.store.specs.declared.Block.{Block}
use Rattle.store.specs.Stores.{lane_at, block_at}
use Rattle.machine.specs.Machine.Corruption.{corrupt_of}
use Rattle.machine.specs.Machine.Serve.{sends_of, ordered}
use Rattle.machine.specs.Machine.Sized.{Sized, LaneSized}
use Rattle.machine.proofs.Bounds.Sound.{sound}
use Rattle.std.specs.Prelude.{None}

pub ordered_length : (b : Block) (k : LaneNo) (x : Command) → length b.present ≡ 8 → length (ordered b k x) ≡ 8
unfolding ordered
ordered_length b k x e = by_cond (λ (l : List _). length l ≡ 8) (sends_of x b.modified) _ _ (length-set b.present k.0 false ∙ e) refl

module _ (s : Store) (k : LaneNo) (o : Operation) (c : corrupt_of s ≡ false) (z : Sized s) (h : k.0 < s.shape.n) (e : (lane_at s k.0).waiting ≡ Unserved o) where
  pub served_lane : k.0 < 8
  served_lane = let p = (sound s c).n_high in omega arith

  pub served_block : (block_of o.word).0 < s.shape.m
  served_block = ((sound s c).lane k.0 h).unserved o e

  pub served_entry : (block_of o.word).0 < 64
  served_entry = let p = (sound s c).m_high in let q = served_block in omega arith

  pub served_to : length (ordered (block_at s (block_of o.word).0) k o.command) ≡ 8
  served_to = ordered_length _ k o.command (z.present (block_of o.word).0 served_entry)

  pub served_sized : LaneSized (with_waiting (Served o) (lane_at s k.0))
  served_sized = let l = z.lane k.0 served_lane in record { lines = l.lines; order = l.order; returns = l.returns; downs = l.downs }

-- where 10 does not refuse, fewer than L services are open, so there is a free slot
pub served_room : (s : Store) (a : BlockNo) → corrupt_of s ≡ false → busy_for s.shape.limit s.control a ≡ false → Vacant s.control
served_room s a e free = let p = (not_busy_for s.shape.limit s.control a free).1 in let q = (sound s e).limit_high in vacant s.control (omega arith)

-- .. and the block has no service
pub served_none : (s : Store) (a : BlockNo) → busy_for s.shape.limit s.control a ≡ false → service_of s.control a ≡ None
served_none s a free = let e = (not_busy_for s.shape.limit s.control a free).0 in none_found s.control a (omega arith)
