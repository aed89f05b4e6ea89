-- 01, "Settle": what a step that is not refused makes of the potential, to the exact number; so a step of settle lowers the bound, on every
-- store that is not corrupt, reached or not; and it completes as many operations as wait no more. Assumes nothing.
use Prim.Native.Nat.{ℕ, ◌+◌, ◌-◌, ◌*◌, ◌<◌, ◌≤◌}
use mathlib.Core.Path.{◌≡◌, refl, ap, ◌∙◌}
use mathlib.Core.Bool.{false, not, true≢false}
use lib.ListN.{length}
use borrow.Author.Tests.{ne_eqb}
use native.Mathlib.Omega.{arith}
use Rattle.words.specs.declared.LaneNo.{LaneNo}
use Rattle.words.specs.Units.{block_of}
use Rattle.words.proofs.Folds.{count_most}
use Rattle.queues.specs.Queues.{head_return}
use Rattle.lanes.specs.declared.Waiting.{Waiting}
use Rattle.lanes.specs.declared.Waiting.TheVariants.{Idle, Unserved, Served}
use Rattle.lanes.specs.Waits.{idle_of}
use Rattle.lanes.specs.UseOrder.{Insertion}
use Rattle.answers.specs.declared.Refusal.{Refusal}
use Rattle.answers.specs.Refusals.{refused_of}
use Rattle.answers.specs.Completions.{done_in}
use Rattle.store.specs.declared.Store.{Store}
use Rattle.store.specs.declared.Outcome.{Outcome}
use Rattle.store.specs.Stores.{lane_at, block_at}
use Rattle.machine.specs.Machine.Begun.{waiting_in, begun_in}
use Rattle.machine.specs.Machine.Corruption.{corrupt_of}
use Rattle.machine.specs.Machine.Change.{refuse}
use Rattle.machine.specs.Machine.Serve.{serve_of}
use Rattle.machine.specs.Machine.Return.{return_of}
use Rattle.machine.specs.Machine.Deliver.{deliver_of}
use Rattle.machine.specs.Machine.Settle.{settle_step, unserved_in, orders_queued, bound_of, lane}
use Rattle.machine.specs.Machine.Sized.{Sized}
use Rattle.machine.proofs.Laws.Sums.{sum_most}
use Rattle.machine.proofs.Bounds.Sound.{sound}
use Rattle.machine.proofs.Bounds.SizedKeeps.{serve_move_lane, return_move_lane}
use Rattle.machine.proofs.Bounds.KeepsServe.{ordered_fewer}
use Rattle.machine.specs.Claims.Potential.{tally_of, potential_of, orders_for, ExactSteps}
use Rattle.machine.proofs.Settle.FallsLane.{tallied, weight, weight_most, deliver_lane_lighter, deliver_lane_orders}
use Rattle.machine.proofs.Settle.FallsStore.{tally_sum, Advances, Advancing, commit_lane_advances, commit_move_advances}
use Rattle.machine.proofs.Settle.FallsMove.{serve_move_weighs, return_move_weighs}
use Rattle.machine.proofs.Bounds.Counts.{step_counts, step_begun}
use Rattle.machine.proofs.Rules.Rules.{serve_rule, return_rule, deliver_rule}
use Rattle.machine.proofs.Rules.RulesSettle.{step_rule}

-- the most orders that the unserved operations of a store can have sent
abbrev pub orders_left : Store → ℕ
orders_left s = (s.shape.n - 1) * unserved_in s

-- 01's bound is the tally with 2n for an unserved operation
bound_tally : (s : Store) → bound_of s ≡ tally_of (2 * s.shape.n) s
unfolding bound_of tally_of
bound_tally s = refl

refused_advances : (u served orders : ℕ) (s : Store) (n : Refusal) → Advancing u served orders s (refuse n s)
refused_advances u served orders s n e = absurd (true≢false e)

deliver_advances : (ins : Insertion) (u : ℕ) (s : Store) (k : LaneNo) → Sized s → Advancing u 0 0 s (deliver_of ins s k)
deliver_advances ins u s k g =
    deliver_rule ins (Advancing u 0 0 s) s k (refused_advances u 0 0 s)
    (λ e l.
    let a = sound s e in
    let h = a.n_high in
    let z = g.lane k.0 (omega arith) in
    let d = (a.lane k.0 l).downs.short in
    commit_lane_advances u s k _ g.lanes h l (deliver_lane_lighter ins s.shape.c (lane_at s k.0) z d u) (deliver_lane_orders ins s.shape.c (lane_at s k.0) z d))

return_advances : (u : ℕ) (s : Store) (k : LaneNo) → Sized s → Advancing u 0 0 s (return_of s k)
return_advances u s k g =
    return_rule (Advancing u 0 0 s) s k (refused_advances u 0 0 s)
    (λ r.
    let x = head_return (lane_at s k.0).returns in
    let a = sound s r.sound in
    commit_move_advances u 0 0 s k x.block _ g a.n_high r.lane
    (λ z. return_move_lane k x (lane_at s k.0) (block_at s x.block.0) s.control (g.lane k.0 z))
    (return_move_weighs s.shape.n s.shape.m s.shape.limit u k x (lane_at s k.0) (block_at s x.block.0) s.control a.n_high a.control (ne_eqb _ _ r.filled)))

serve_advances : (u : ℕ) (s : Store) (k : LaneNo) → Sized s → Advancing u 1 (orders_for s k (lane_at s k.0).waiting) s (serve_of s k)
serve_advances u s k g =
    serve_rule (Advancing u 1 (orders_for s k (lane_at s k.0).waiting) s) s k (refused_advances u 1 _ s)
    (λ o r.
    let a = sound s r.sound in
    rw (ap (orders_for s k) r.unserved)
    (commit_move_advances u 1 _ s k (block_of o.word) _ g a.n_high r.lane
    (λ z. serve_move_lane k o (lane_at s k.0) (block_at s (block_of o.word).0) s.control (g.lane k.0 z))
    (serve_move_weighs s.shape.n u s.shape.limit k o (lane_at s k.0) (block_at s (block_of o.word).0) s.control a.n_high a.limit_high g.slots r.lane
    (a.block (block_of o.word).0 ((a.lane k.0 r.lane).unserved o r.unserved)) r.unserved r.free)))

-- a serve's orders are fewer than the lanes
orders_fewer : (s : Store) (k : LaneNo) → corrupt_of s ≡ false → k.0 < s.shape.n → orders_for s k (lane_at s k.0).waiting < s.shape.n
orders_fewer s k e l = go (lane_at s k.0).waiting refl
  where
    go : (w : Waiting) → (lane_at s k.0).waiting ≡ w → orders_for s k w < s.shape.n
    go Idle q = omega arith
    go (Unserved o) q =
        let a = sound s e in
        ordered_fewer s.shape.n (block_at s (block_of o.word).0) k o.command a.n_high l (a.block (block_of o.word).0 ((a.lane k.0 l).unserved o q))
    go (Served o) q = omega arith

-- a step of settle: what it makes of the potential and of the bound; a serve queues no more than n − 1 orders for its operation
pub record Falling (s : Store) (r : Outcome) : Type 0 where
  pub potential : potential_of r.store + 1 ≡ potential_of s + 2 * orders_queued s r.store
  pub bound : bound_of r.store < bound_of s
  pub orders : orders_queued s r.store + orders_left r.store ≤ orders_left s

-- an unserved operation more for each u
tally_unserved : (s : Store) → tally_of 3 s ≡ tally_of 2 s + unserved_in s
unfolding tally_of
tally_unserved s = omega arith

-- .. where 2n for an operation served pays for its grant or service and for its orders
falls : (served orders : ℕ) (s : Store) (r : Outcome) → ((u : ℕ) → Advancing u served orders s r) → 2 * served + 2 * orders ≤ 2 * s.shape.n * served → orders ≤ (s.shape.n - 1) * served →
    refused_of r.answer ≡ false → Falling s r
falls served orders s r a f g h =
    let p = a 2 h in
    let q = a (2 * s.shape.n) h in
    let b = p.exact in
    let c = q.exact in
    let d = p.queued in
    let i = bound_tally s in
    let j = bound_tally r.store ∙ ap (λ (n : ℕ). tally_of (2 * n) r.store) p.lanes in
    record { potential = omega arith; bound = omega arith; orders = left }
  where
    left : orders_queued s r.store + orders_left r.store ≤ orders_left s
    left =
        let p = a 2 h in
        let b = p.exact in
        let c = (a 3 h).exact in
        let d = p.queued in
        let i = tally_unserved s in
        let j = tally_unserved r.store in
        let u : unserved_in s ≡ unserved_in r.store + served = omega arith in
        let v = ap (λ (k : ℕ). (s.shape.n - 1) * k) u in
        let w = ap (λ (k : ℕ). (k - 1) * unserved_in r.store) p.lanes in
        omega arith

-- it is a deliver, a return or a serve, or is refused
pub step_falls : (ins : Insertion) (s : Store) → corrupt_of s ≡ false → Sized s → refused_of (settle_step ins s).answer ≡ false → Falling s (settle_step ins s)
step_falls ins s e g =
    step_rule ins (λ (r : Outcome). refused_of r.answer ≡ false → Falling s r) s
    (λ k _ _. falls 0 0 s _ (λ u. deliver_advances ins u s (lane k) g) (omega arith) (omega arith))
    (λ _ k _ _. falls 0 0 s _ (λ u. return_advances u s (lane k) g) (omega arith) (omega arith))
    (λ _ _ k l _. let f = orders_fewer s (lane k) e l in falls 1 _ s _ (λ u. serve_advances u s (lane k) g) (omega arith) (omega arith))
    (λ _ _ _ h. absurd (true≢false h))

-- what the potential has it cost
costs : (served orders : ℕ) (s : Store) (r : Outcome) → Advances 2 served orders s r → (orders_queued s r.store ≡ orders) × (potential_of r.store + 1 ≡ potential_of s + 2 * orders)
costs served orders s r a = (a.queued, (let b = a.exact in omega arith))

pub steps_exact : (ins : Insertion) (s : Store) → corrupt_of s ≡ false → Sized s → ExactSteps ins s
steps_exact ins s e g =
    record {
      deliver = λ k h. costs 0 0 s _ (deliver_advances ins 2 s k g h);
      return = λ k h. costs 0 0 s _ (return_advances 2 s k g h);
      serve = λ k h. costs 1 _ s _ (serve_advances 2 s k g h);
      step = λ h. (step_falls ins s e g h).potential;
    }

pub settle_falls : (ins : Insertion) (s : Store) → corrupt_of s ≡ false → Sized s → refused_of (settle_step ins s).answer ≡ false → bound_of (settle_step ins s).store < bound_of s
settle_falls ins s e g h = (step_falls ins s e g h).bound

-- it completes as many operations as wait no more
pub settle_completes : (ins : Insertion) (s : Store) → Sized s → length (done_in (settle_step ins s).answer) + waiting_in (settle_step ins s).store ≡ waiting_in s
unfolding begun_in
settle_completes ins s g = let a = (step_counts ins s).counted in let b = step_begun ins s g in omega arith

-- 8 lanes of 8 returns, 8 orders and an unserved operation, and 8 services
pub bound_most : (s : Store) → corrupt_of s ≡ false → bound_of s ≤ 328
bound_most s e =
    let a = sound s e in
    let h = a.n_high in
    let b = bound_tally s ∙ tally_sum (2 * s.shape.n) s in
    let c = sum_most (λ k. weight (tallied (2 * s.shape.n)) (lane_at s k)) 40 s.shape.n
    (λ j l. let d = weight_most (2 * s.shape.n) (lane_at s j) (a.lane j l).returns.short in omega arith) in
    let d = a.control.most in
    let f = a.limit_high in
    omega arith

pub waiting_most : (s : Store) → corrupt_of s ≡ false → waiting_in s ≤ 8
unfolding waiting_in
waiting_most s e = let a = count_most (λ k. not (idle_of (lane_at s k).waiting)) s.shape.n in let h = (sound s e).n_high in omega arith
