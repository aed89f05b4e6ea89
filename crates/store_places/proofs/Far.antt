-- Far from the last place 17 is not given: at most n operations wait. Assumes nothing.
use Rattle.std.proofs.Common.{◌≡◌, ◌+◌, ◌<◌, false, not, arith}
use borrow.Author.Tests.{ne_eqb}
use Rattle.words.proofs.Folds.{count_most}
use Rattle.lanes.specs.Waits.{idle_of}
use Rattle.store.specs.declared.Store.{Store}
use Rattle.store.specs.Stores.{lane_at}
use Rattle.machine.specs.Machine.Begun.{waiting_in, begun_in, last_place, exhausted_of}

pub far_left : (s : Store) → s.completions + s.shape.n < last_place → exhausted_of s ≡ false
unfolding begun_in waiting_in
far_left s l = let m = count_most (λ k. not (idle_of (lane_at s k).waiting)) s.shape.n in ne_eqb (begun_in s) last_place (λ e. omega arith)
