-- Opening gives a store within bounds. Assumes nothing.
use Prim.Native.Nat.{ℕ, zero, suc, ◌<◌, ◌≤◌}
use mathlib.Core.Path.{◌≡◌, refl, sym, ap, ◌∙◌}
use mathlib.Core.Bool.{true, false, not, true≢false}
use lib.ListN.{get_or, get_or-replicate}
use native.Mathlib.Omega.{arith}
use Rattle.words.specs.declared.Shape.{Shape}
use Rattle.words.specs.Lines.{no_line}
use Rattle.lanes.specs.UseOrder.{place_at}
use Rattle.lanes.specs.Waits.{idle_of}
use Rattle.store.specs.Opening.{bad_shape, bad_limit, blank_line, blank_lane, blank_block, fresh_of}
use Rattle.store.specs.Stores.{no_lane, no_block, lane_at, block_at}
use Rattle.machine.specs.Machine.Begun.{waiting_in, begun_in}
use Rattle.machine.proofs.Laws.Sums.{count_zero}
use Rattle.machine.proofs.Bounds.Shape.{shape_bounds, limit_bounds}
use Rattle.machine.proofs.Bounds.Sound.{Ordered, BlockSound}
use Rattle.machine.proofs.Bounds.KeepsLane.{clash, LaneFit}
use Rattle.machine.proofs.Bounds.KeepsServe.{blank_sound}
use Rattle.machine.proofs.Bounds.KeepsStore.{Fit}

-- lines are ordered by number
blank_place : (j : ℕ) → j < 8 → (place_at blank_lane.order j).0 ≡ j
unfolding blank_lane
blank_place zero h = refl
blank_place (suc zero) h = refl
blank_place (suc (suc zero)) h = refl
blank_place (suc (suc (suc zero))) h = refl
blank_place (suc (suc (suc (suc zero)))) h = refl
blank_place (suc (suc (suc (suc (suc zero))))) h = refl
blank_place (suc (suc (suc (suc (suc (suc zero)))))) h = refl
blank_place (suc (suc (suc (suc (suc (suc (suc zero))))))) h = refl
blank_place (suc (suc (suc (suc (suc (suc (suc (suc j)))))))) h = absurd (omega arith)

blank_order : (c : ℕ) → c ≤ 8 → Ordered c blank_lane.order
blank_order c b =
    record {
      named = λ j h. rw (blank_place j (omega arith)) h;
      once = λ i j p q e. sym (blank_place i (omega arith)) ∙ e ∙ blank_place j (omega arith);
    }

blank_lines : (c i : ℕ) → c ≤ 8 → i < c → (get_or blank_lane.lines i no_line).valid ≡ false
unfolding blank_lane
blank_lines c i b h = rw (get_or-replicate 8 i blank_line no_line (omega arith))

blank_fit : (c m : ℕ) → c ≤ 8 → LaneFit 8 c m blank_lane
unfolding blank_lane
blank_fit c m b =
    record {
      sound = record {
        lines = λ i h v. absurd (true≢false (sym v ∙ blank_lines c i b h));
        order = blank_order c b;
        returns = record { short = omega arith; inside = λ i h. absurd (omega arith) };
        downs = record { short = omega arith; inside = λ i h. absurd (omega arith) };
        unserved = λ o e. clash (cc);
        served = λ o e. clash (cc);
      };
      long = omega arith;
    }

blank_block_lem : (n : ℕ) → BlockSound n blank_block
unfolding blank_block
blank_block_lem n = record { absent = λ j h l. get_or-replicate 8 j false false l }

fresh_lane : (shape : Shape) (k : ℕ) → k < 8 → lane_at (fresh_of shape) k ≡ blank_lane
unfolding fresh_of
fresh_lane shape k h = get_or-replicate 8 k blank_lane no_lane h

fresh_block : (shape : Shape) (a : ℕ) → a < 64 → block_at (fresh_of shape) a ≡ blank_block
unfolding fresh_of
fresh_block shape a h = get_or-replicate 64 a blank_block no_block h

-- no operation has begun
fresh_idle : (shape : Shape) (k : ℕ) → k < 8 → idle_of (lane_at (fresh_of shape) k).waiting ≡ true
unfolding blank_lane
fresh_idle shape k h = rw (fresh_lane shape k h) refl

fresh_begun : (shape : Shape) → shape.n ≤ 8 → begun_in (fresh_of shape) ≡ 0
unfolding begun_in waiting_in fresh_of
fresh_begun shape h =
    let z = count_zero (λ k. not (idle_of (lane_at (fresh_of shape) k).waiting)) shape.n (λ k l. ap not (fresh_idle shape k (omega arith))) in
    omega arith

pub open_fit : (shape : Shape) → bad_shape shape ≡ false → bad_limit shape ≡ false → Fit 8 (fresh_of shape)
unfolding fresh_of
open_fit shape e f =
    let b = shape_bounds shape e in
    let l = limit_bounds shape f in
    record {
      sound = record {
        n_low = b.0;
        n_high = b.1;
        c_low = b.2;
        c_high = b.3;
        m_low = b.4;
        m_high = b.5;
        limit_low = l.0;
        limit_high = l.1;
        control = blank_sound shape.n shape.m shape.limit;
        lane = λ k h. let p = b.1 in rw (fresh_lane shape k (omega arith)) (blank_fit shape.c shape.m b.3).sound;
        block = λ a h. let p = b.5 in rw (fresh_block shape a (omega arith)) (blank_block_lem shape.n);
        begun = let z = fresh_begun shape b.1 in omega arith;
      };
      long = λ k h. let p = b.1 in rw (fresh_lane shape k (omega arith)) (blank_fit shape.c shape.m b.3).long;
    }
