-- A store of the program has arrays of their declared lengths: what the check knows of a store gives `Sized`. With `known` for `c.type_inv.s.1`,
-- for a lent store s, or for `c.well_formed.0.1.1.1`, for a store s that is a function's first parameter, that is
-- `arrays_sized s _ _ known.0.1.1.0.1.0.1 known.1.1.0 known.1.1.1.0`. Assumes nothing.
use Prim.Native.Nat.{ℕ, zero, suc, ◌<◌}
use native.Mathlib.Omega.{arith}
use mathlib.Core.Path.{◌≡◌}
use mathlib.Core.List.{List, [], ◌∷◌}
use lib.ListN.{length, get_or}
use mir.Val.{Val}
use base.Fml.{Fml}
use denote.Array.{each, Array}
use denote.Shadow.{shadow}
use Rattle.lanes.specs.contracts.Lane as L
use Rattle.store.specs.contracts.Block as B
use Rattle.store.specs.declared.Store.{Store}
use Rattle.store.specs.Stores.{no_lane, no_block, lane_at, block_at}
use Rattle.machine.specs.Machine.Sized.{LaneSized, Sized}

-- what owning an array tells of its element at i
each_at : (d : Type 0) (own : d → List Val → Fml) (xs : List d) (us : List Val) (i : ℕ) (z : d) → i < length xs → shadow (each d own xs us) →
    (u : Val) × shadow (own (get_or xs i z) (u ∷ []))
each_at d own [] us i z h p = absurd (omega arith)
each_at d own (x ∷ xs) [] i z h p = absurd p
each_at d own (x ∷ xs) (u ∷ us) zero z h p = (u, p.0)
each_at d own (x ∷ xs) (u ∷ us) (suc i) z h p = each_at d own xs us i z (omega arith) p.1

module _ (s : Store) (vs ws : List Val)
    (ss : length s.control.slots ≡ 8)
    (ls : shadow ((Array L.the_row 8).own_val s.lanes vs))
    (bs : shadow ((Array B.the_row 64).own_val s.blocks ws)) where
  lane_sized : (k : ℕ) → k < 8 → LaneSized (lane_at s k)
  lane_sized k h =
      let e = ls.1.0.1 in
      let l : k < length s.lanes = omega arith in
      let r = (each_at (L.the_row).Denot (L.the_row).own_val s.lanes ls.0 k no_lane l ls.1.1).1 in
      record {
        lines = r.1.1.0.1.0.1;
        order = r.1.1.1.0.1.0.1;
        returns = r.1.1.1.1.0.1.1.1.0.1.0.1;
        downs = r.1.1.1.1.1.0.1.1.1.0.1.0.1;
      }

  present_sized : (a : ℕ) → a < 64 → length (block_at s a).present ≡ 8
  present_sized a h =
      let e = bs.1.0.1 in
      let l : a < length s.blocks = omega arith in
      let r = (each_at (B.the_row).Denot (B.the_row).own_val s.blocks bs.0 a no_block l bs.1.1).1 in
      r.1.1.1.0.1.0.1

  pub arrays_sized : Sized s
  arrays_sized = record {
    lanes = ls.1.0.1;
    slots = ss;
    blocks = bs.1.0.1;
    lane = lane_sized;
    present = present_sized;
  }
