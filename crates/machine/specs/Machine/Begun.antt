-- 02, W1: the operations begun since opening: those completed have a place in 32 bits, those that wait will need one. Assumes nothing.
use Rattle.std.specs.Prelude.{ℕ, ◌+◌, Bool, not, ltb, eqb}
use Rattle.words.specs.Folds.{count_to}
use Rattle.lanes.specs.Waits.{idle_of}
use Rattle.store.specs.declared.Store.{Store}
use Rattle.store.specs.Stores.{lane_at}

-- operations waiting: of the n lanes, unserved or served
unfoldable pub waiting_in : Store → ℕ
waiting_in s = count_to (λ k. not (idle_of (lane_at s k).waiting)) s.shape.n

-- completions so far plus operations waiting
unfoldable pub begun_in : Store → ℕ
begun_in s = s.completions + waiting_in s

-- the last place in 32 bits
abbrev pub last_place : ℕ
last_place = 4294967295

-- 17 when completions so far plus operations waiting equal 4,294,967,295
abbrev pub exhausted_of : Store → Bool
exhausted_of s = eqb (begun_in s) last_place

-- a larger sum is 14
abbrev pub overrun_of : Store → Bool
overrun_of s = ltb last_place (begun_in s)
