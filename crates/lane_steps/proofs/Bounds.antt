-- The bounds that a begin or a deliver on lane k asks for, from a store that is not corrupt. Assumes nothing.
use Prim.Native.Nat.{◌<◌, ◌≤◌}
use native.Mathlib.Omega.{arith}
use borrow.Author.Tests.{eqb-false}
use mathlib.Core.Bool.{true, false}
use mathlib.Core.Path.{◌≡◌}
use Rattle.words.specs.declared.LaneNo.{LaneNo}
use Rattle.words.specs.declared.WordNo.{WordNo}
use Rattle.words.specs.declared.Op.{Op}
use Rattle.queues.specs.Queues.{capacity}
use Rattle.lanes.specs.UseOrder.{place_at, LoadsOldest}
use Rattle.store.specs.declared.Store.{Store}
use Rattle.store.specs.Stores.{lane_at}
use Rattle.machine.specs.Machine.Begun.{begun_in, last_place, exhausted_of}
use Rattle.machine.specs.Machine.Corruption.{corrupt_of}
use Rattle.machine.specs.Machine.Change.{counted}
use Rattle.machine.specs.Machine.Begin.{admits_of, begin_lane}
use Rattle.machine.specs.Machine.Deliver.{deliver_lane}
use Rattle.machine.proofs.Bounds.Sound.{sound}
use Rattle.machine.proofs.Rules.Rules.{admitted}
use Rattle.machine.proofs.Bounds.KeepsBegun.{begin_lane_begins, deliver_lane_begins, lane_counted}

module _ (s : Store) (k : LaneNo) (e : corrupt_of s ≡ false) (h : k.0 < s.shape.n) where
  pub lane_bound : k.0 < 8
  lane_bound = let g = (sound s e).n_high in omega arith

  pub lines_bound : s.shape.c ≤ 8
  lines_bound = (sound s e).c_high

  pub oldest_bound : (place_at (lane_at s k.0).order 0).0 < 8
  oldest_bound = let g = sound s e in let p = (g.lane k.0 h).order.named 0 g.c_low in let q = g.c_high in omega arith

  -- a completion's place is no more than the last one
  pub begin_counted : (op : Op) (w : WordNo) → admits_of s.shape.c op w (lane_at s k.0) ≡ true → exhausted_of s ≡ false →
      counted (begin_lane capacity s.shape.c op w (lane_at s k.0)).answer s.completions ≤ last_place
  begin_counted op w admits left =
      let g = (sound s e).begun in
      let p = lane_counted 1 s k (begin_lane capacity s.shape.c op w (lane_at s k.0)) h (begin_lane_begins s.shape.c op w (lane_at s k.0) (admitted s.shape.c op w (lane_at s k.0) admits)) in
      omega (arith, eqb-false (begun_in s) last_place left)

  pub deliver_counted : counted (deliver_lane capacity LoadsOldest s.shape.c (lane_at s k.0)).answer s.completions ≤ last_place
  deliver_counted =
      let g = (sound s e).begun in
      let p = lane_counted 0 s k (deliver_lane capacity LoadsOldest s.shape.c (lane_at s k.0)) h (deliver_lane_begins LoadsOldest s.shape.c (lane_at s k.0)) in
      omega arith
