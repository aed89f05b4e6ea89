-- The lane's part of begin is never refused: what misses begins on a lane that waits for nothing, and its ejection finds room. Assumes nothing.
use Prim.Native.Nat.{ℕ, ◌<◌}
use mathlib.Core.Path.{◌≡◌, refl}
use mathlib.Core.Bool.{false, ◌||◌}
use mathlib.Core.List.{List}
use borrow.Author.Tests.{lt-leb}
use Rattle.words.specs.declared.LaneNo.{LaneNo}
use Rattle.words.specs.declared.LineNo.{LineNo}
use Rattle.words.specs.declared.WordNo.{WordNo}
use Rattle.words.specs.declared.Op.{Op}
use Rattle.words.specs.Units.{block_of}
use Rattle.words.specs.Operations.{is_load}
use Rattle.words.proofs.Folds.{by_cond}
use Rattle.queues.specs.Queues.{capacity}
use Rattle.lanes.specs.declared.Lane.{Lane}
use Rattle.lanes.specs.Search.{line_at, search_of, vacant_of}
use Rattle.lanes.specs.UseOrder.{place_at}
use Rattle.store.specs.declared.Store.{Store}
use Rattle.store.specs.Stores.{lane_at}
use Rattle.machine.specs.Machine.Parts.{LaneStep}
use Rattle.machine.specs.Machine.Change.{refused_in}
use Rattle.machine.specs.Machine.Begin.{complete_with, hit, evict, miss_with, miss, begin_at, begin_lane}
use Rattle.machine.proofs.Store.Consistent.{Consistent}
use Rattle.machine.proofs.Settle.Live.{Live}
use Rattle.machine.proofs.Settle.LiveShort.{eject_room}
use Rattle.machine.proofs.Rules.Rules.{BeginReady}
use Rattle.std.specs.Prelude.{Option, Some, None}

hit_goes : (c : ℕ) (i : LineNo) (op : Op) (w : WordNo) (l : Lane) → refused_in (hit c i op w l).answer ≡ false
unfolding hit complete_with
hit_goes c i op w l = by_cond (λ (r : LaneStep). refused_in r.answer ≡ false) (is_load op || (line_at l i).private) _ _ refl refl

evict_goes : (i : LineNo) (op : Op) (w : WordNo) (l : Lane) → l.returns.len < capacity → refused_in (evict capacity i op w l).answer ≡ false
unfolding evict
evict_goes i op w l h = rw (lt-leb capacity l.returns.len h)

miss_goes : (r : Option LineNo) (op : Op) (w : WordNo) (l : Lane) → l.returns.len < capacity → refused_in (miss_with capacity r op w l).answer ≡ false
miss_goes (Some i) op w l h = refl
miss_goes None op w l h = evict_goes (place_at l.order 0) op w l h

pub begin_goes : (s : Store) (f : List ℕ) → Consistent s f → Live s → (k : LaneNo) (op : Op) (w : WordNo) → BeginReady s k op w →
    refused_in (begin_lane capacity s.shape.c op w (lane_at s k.0)).answer ≡ false
unfolding begin_lane miss
begin_goes s f i live k op w r = go (search_of (lane_at s k.0) s.shape.c (block_of w)) refl
  where
    go : (x : Option LineNo) → search_of (lane_at s k.0) s.shape.c (block_of w) ≡ x → refused_in (begin_at capacity x s.shape.c op w (lane_at s k.0)).answer ≡ false
    go (Some j) e = hit_goes s.shape.c j op w (lane_at s k.0)
    go None e = miss_goes (vacant_of (lane_at s k.0) s.shape.c) op w (lane_at s k.0) (eject_room s f i live k.0 r.lane (r.admits.miss e))
