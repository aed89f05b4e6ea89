-- 14 and the operations begun, on a store before W6. Assumes nothing.
use Rattle.std.specs.Prelude.{ℕ, ◌+◌, Bool, false, not, ◌||◌, [], ◌∷◌, leb, ltb, eqb}
use Rattle.words.specs.Folds.{any_to, any_of, count_to}
use Rattle.lanes.specs.Waits.{idle_of}
use Rattle.store.specs.Opening.{bad_shape}
use Rattle.machine.specs.Machine.Begun.{last_place}
use Rattle.machine.specs.Machine.Corruption.{bad_block, bad_lane, bad_flags}
use Rattle.machine_w5.specs.Control.{Control, Free, Busy}
use Rattle.machine_w5.specs.Stores.{Store, capacity, lane_at, block_at}

-- operations waiting: of the n lanes, unserved or served
unfoldable pub waiting_in : Store → ℕ
waiting_in s = count_to (λ k. not (idle_of (lane_at s k).waiting)) s.shape.n

-- completions so far plus operations waiting
unfoldable pub begun_in : Store → ℕ
begun_in s = s.completions + waiting_in s

-- 17 when completions so far plus operations waiting equal 4,294,967,295
abbrev pub exhausted_of : Store → Bool
exhausted_of s = eqb (begun_in s) last_place

-- a larger sum is 14
abbrev pub overrun_of : Store → Bool
overrun_of s = ltb last_place (begun_in s)

-- a lane or block number out of range in a service, or awaited above n - 1
abbrev pub bad_control : ℕ → ℕ → Control → Bool
bad_control n m Free = false
bad_control n m (Busy v) = leb n v.lane.0 || (bad_block m v.block || leb n v.awaited)

-- 14
unfoldable pub corrupt_of : Store → Bool
corrupt_of s =
    any_of
    (bad_shape s.shape ∷
    bad_control s.shape.n s.shape.m s.control ∷
    any_to (λ k. bad_lane capacity s.shape.c s.shape.m (lane_at s k)) s.shape.n ∷
    any_to (λ a. bad_flags s.shape.n (block_at s a)) s.shape.m ∷
    overrun_of s ∷
    [])
