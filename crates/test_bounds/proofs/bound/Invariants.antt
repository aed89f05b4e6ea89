-- `test_bounds::bound` meets its contract: the four counts of the lanes so far. Assumes nothing.
use Rattle.std.proofs.Common.{◌≡◌, ◌≤◌, ◌*◌, take, sum_by, count_by, true, false}
use Rattle.lanes.specs.declared.Lane.{Lane}
use Rattle.lanes.specs.Waits.{unserved_of}
use Rattle.machine.specs.Machine.Settle.{downs_of}
use Rattle.test_bounds.proofs.bound.Given as goal

abbrev pub invariant-loop-lane : goal.invariant-loop-lane
invariant-loop-lane l = record {
  r : l.r ≡ sum_by (λ (x : Lane). x.returns.len) (take l.lane-index l.lanes);
  g : l.g ≡ sum_by (λ (x : Lane). downs_of false x.downs) (take l.lane-index l.lanes);
  q : l.q ≡ sum_by (λ (x : Lane). downs_of true x.downs) (take l.lane-index l.lanes);
  u : l.u ≡ count_by (λ (x : Lane). unserved_of x.waiting) (take l.lane-index l.lanes);
  r_few : l.r ≤ 255 * l.lane-index;
  g_few : l.g ≤ 8 * l.lane-index;
  q_few : l.q ≤ 8 * l.lane-index;
  u_few : l.u ≤ l.lane-index;
}
