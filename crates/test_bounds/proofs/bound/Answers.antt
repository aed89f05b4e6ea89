-- `test_bounds::bound` meets its contract: five counts of the store, added with their weights. Assumes nothing.
use Rattle.std.proofs.Common.{◌≡◌, ◌≤◌, ◌∙◌, ℕ, Bool, length, take, arith, sum_by, count_by, true, false}
use Rattle.std.proofs.lemmas.List.{take-take}
use lib.ListN.{length-take, get_or}
use Rattle.words.specs.Folds.{sum_to, count_to}
use Rattle.lanes.specs.declared.Lane.{Lane}
use Rattle.lanes.specs.Waits.{unserved_of}
use Rattle.store.specs.Stores.{no_lane}
use Rattle.machine.specs.Machine.Settle.{bound_of, downs_of}
use Rattle.test_bounds.proofs.Sums.{sum_taken, count_taken}
use Rattle.test_bounds.proofs.bound.Goals as goal

pub returns : goal.returns
unfolding bound_of
returns c =
    let s = c.args.s.now in
    let n = s.shape.n in
    let h : n ≤ length s.lanes = omega (arith, length-take {A = Lane}) in
    let i = c.loop-lane.lane-index in
    let e : i ≡ n = omega (arith, length-take {A = Lane}) in
    let k : n ≤ n = omega arith in
    let sums : (f : Lane → ℕ) → sum_by f (take i (take n s.lanes)) ≡ sum_to (λ j. f (get_or s.lanes j no_lane)) n
    = λ f. rw (e, take-take n n s.lanes k) (sum_taken f s.lanes no_lane n h) in
    let counts : (p : Lane → Bool) → count_by p (take i (take n s.lanes)) ≡ count_to (λ j. p (get_or s.lanes j no_lane)) n
    = λ p. rw (e, take-take n n s.lanes k) (count_taken p s.lanes no_lane n h) in
    rw (
      bound_of,
      ← (c.loop-lane.invariant.r ∙ sums (λ l. l.returns.len)),
      ← (c.loop-lane.invariant.g ∙ sums (λ l. downs_of false l.downs)),
      ← (c.loop-lane.invariant.q ∙ sums (λ l. downs_of true l.downs)),
      ← c.services.ensures,
      ← (c.loop-lane.invariant.u ∙ counts (λ l. unserved_of l.waiting)),
    )
