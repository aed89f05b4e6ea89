-- Settle's tally is what the lanes and the control add, and the orders queued are what the lanes add; what a lane, or memory's part of a call, put
-- back makes of both. Assumes nothing.
use Prim.Native.Nat.{ℕ, ◌+◌, ◌*◌, ◌<◌, ◌≤◌}
use mathlib.Core.Path.{◌≡◌, refl, sym}
use mathlib.Core.Bool.{Bool, true, false, cond, ◌&&◌, true≢false}
use mathlib.Core.List.{List}
use lib.ListN.{length, get_or, set}
use native.Mathlib.Omega.{arith}
use native.Mathlib.Nat.{add-zero}
use Rattle.words.specs.declared.LaneNo.{LaneNo}
use Rattle.words.specs.declared.BlockNo.{BlockNo}
use Rattle.words.specs.Folds.{count_to, sum_to}
use Rattle.words.proofs.Folds.{any_false}
use Rattle.queues.specs.Messages.{DownMessage}
use Rattle.queues.specs.Queues.{capacity, full_at}
use Rattle.lanes.specs.declared.Lane.{Lane}
use Rattle.lanes.specs.Waits.{unserved_of}
use Rattle.answers.specs.Refusals.{refused_of}
use Rattle.store.specs.declared.Store.{Store}
use Rattle.store.specs.declared.Control.{Control}
use Rattle.store.specs.declared.Outcome.{Outcome}
use Rattle.store.specs.Control.{open_services}
use Rattle.store.specs.Stores.{no_lane, lane_at}
use Rattle.store.specs.LaneSets.{goes_to}
use Rattle.store.specs.Quiet.{quiet_of}
use Rattle.machine.specs.Machine.Parts.{LaneStep}
use Rattle.machine.specs.Machine.Parts.{Move}
use Rattle.machine.specs.Machine.Change.{refused_in, lane_store, commit_lane, some_full, posted, post_all, commit_move, moved_store}
use Rattle.machine.specs.Machine.Settle.{downs_of, orders_in, orders_queued}
use Rattle.machine.specs.Machine.Sized.{LaneSized, Sized}
use Rattle.machine.proofs.Laws.Tests.{and_right}
use Rattle.machine.proofs.Laws.Sums.{set_sum, sum_same, sum_grown, sum_weights, zero_sum}
use Rattle.machine.proofs.Bounds.Posts.{post_all_at}
use Rattle.machine.specs.Claims.Potential.{tally_of}
use Rattle.machine.proofs.Bounds.SizedKeeps.{LanesSized, set_lane_sized, lanes_sized}
use Rattle.machine.proofs.Settle.FallsLane.{Rates, tallied, orders_only, price, weight, tallied_weight, orders_weight, posted_weight, still_weight}
use Rattle.machine.proofs.Rules.Rules.{put_back, lane_rule, move_rule}
use Rattle.machine.proofs.Rules.RulesQuiet.{no_services, lane_still}

-- what the first n lanes add
abbrev pub lanes_weight : Rates → List Lane → ℕ → ℕ
lanes_weight ρ ls n = sum_to (λ k. weight ρ (get_or ls k no_lane)) n

-- what a control adds: its services
abbrev pub service : Control → ℕ
service x = open_services x

pub tally_sum : (u : ℕ) (s : Store) → tally_of u s ≡ lanes_weight (tallied u) s.lanes s.shape.n + service s.control
unfolding tally_of
tally_sum u s =
    let a = sum_weights (λ k. (lane_at s k).returns.len) (λ k. downs_of false (lane_at s k).downs) (λ k. downs_of true (lane_at s k).downs)
    (λ k. unserved_of (lane_at s k).waiting) u s.shape.n in
    let b = sum_same _ (λ k. weight (tallied u) (lane_at s k)) s.shape.n (λ j _. tallied_weight u (lane_at s j)) in
    omega arith

-- a quiet store has none
pub quiet_tally : (u : ℕ) (s : Store) → quiet_of s ≡ true → tally_of u s ≡ 0
quiet_tally u s q =
    let a = tally_sum u s in
    let b = zero_sum (λ k. weight (tallied u) (lane_at s k)) s.shape.n (λ k h. still_weight (tallied u) (lane_at s k) (lane_still s q k h)) in
    let c = no_services s q in
    omega arith

-- Q is what the lanes add of orders
orders_sum : (s : Store) → orders_in s ≡ lanes_weight orders_only s.lanes s.shape.n
orders_sum s = sum_same (λ k. weight orders_only (lane_at s k)) _ s.shape.n (λ j _. sym (orders_weight (lane_at s j)))

-- a step takes 1 from the tally; an operation that it serves adds 2 for u, and an order that it queues 2
pub record Advances (u served orders : ℕ) (s : Store) (r : Outcome) : Type 0 where
  pub exact : tally_of u r.store + 1 + u * served ≡ tally_of u s + 2 * served + 2 * orders
  pub queued : orders_queued s r.store ≡ orders
  pub lanes : r.store.shape.n ≡ s.shape.n

-- .. unless it is refused
abbrev pub Advancing : ℕ → ℕ → ℕ → Store → Outcome → Type 0
Advancing u served orders s r = refused_of r.answer ≡ false → Advances u served orders s r

-- lane k after its part of a call: lighter by 1, and with no order more
pub commit_lane_advances : (u : ℕ) (s : Store) (k : LaneNo) (r : LaneStep) → length s.lanes ≡ 8 → s.shape.n ≤ 8 → k.0 < s.shape.n →
    (refused_in r.answer ≡ false → weight (tallied u) r.lane + 1 ≡ weight (tallied u) (lane_at s k.0)) →
    (refused_in r.answer ≡ false → weight orders_only r.lane ≤ weight orders_only (lane_at s k.0)) → Advancing u 0 0 s (commit_lane s k r)
commit_lane_advances u s k r g h l t o = lane_rule (Advancing u 0 0 s) s k r (λ _ _ e. absurd (true≢false e)) (λ e _. put e)
  where
    lanes_after : (ρ : Rates) → lanes_weight ρ (lane_store s k r).lanes s.shape.n + weight ρ (lane_at s k.0) ≡ lanes_weight ρ s.lanes s.shape.n + weight ρ r.lane
    lanes_after ρ = set_sum (weight ρ) s.lanes no_lane k.0 s.shape.n r.lane l (omega arith)

    put : refused_in r.answer ≡ false → Advances u 0 0 s (put_back s k r)
    put e =
        let p = t e in
        let q = o e in
        let b = lanes_after (tallied u) in
        let f = lanes_after orders_only in
        let c = tally_sum u s in
        let d = tally_sum u (lane_store s k r) in
        let i = orders_sum s in
        let j = orders_sum (lane_store s k r) in
        record { exact = omega arith; queued = omega arith; lanes = refl }

-- a message is sent to some lanes, none of them full
module _ (to : List Bool) (x : DownMessage) (ls : List Lane) (n : ℕ) (h : n ≤ 8) (g : LanesSized ls) where
  post_weight : (ρ : Rates) → some_full capacity to ls ≡ false → lanes_weight ρ (post_all capacity to x ls) n ≡ lanes_weight ρ ls n + price ρ x.kind * count_to (goes_to to) n
  unfolding some_full
  post_weight ρ e = sum_grown (λ j. weight ρ (get_or ls j no_lane)) (λ j. weight ρ (get_or (post_all capacity to x ls) j no_lane)) (goes_to to) (price ρ x.kind) n at_lane
    where
      grown : (j : ℕ) → j < 8 → (b : Bool) → goes_to to j ≡ b →
          weight ρ (cond b (posted capacity x (get_or ls j no_lane)) (get_or ls j no_lane)) ≡ weight ρ (get_or ls j no_lane) + cond b (price ρ x.kind) 0
      grown j l true q =
          posted_weight ρ x (get_or ls j no_lane) (g.lane j l)
          (and_right (goes_to to j) (full_at capacity (get_or ls j no_lane).downs.len) (any_false (λ i. goes_to to i && full_at capacity (get_or ls i no_lane).downs.len) 8 j e l) q)
      grown j l false q = sym (add-zero _)

      at_lane : (j : ℕ) → j < n → weight ρ (get_or (post_all capacity to x ls) j no_lane) ≡ weight ρ (get_or ls j no_lane) + cond (goes_to to j) (price ρ x.kind) 0
      at_lane j l = let d = g.lanes in rw (post_all_at capacity to x j ls (omega arith) (omega arith)) (grown j (omega arith) (goes_to to j) refl)

-- memory's part of a call: what the lane and the messages sent add
abbrev pub moved : Rates → ℕ → Move → ℕ
moved ρ n v = weight ρ v.lane + price ρ v.message.kind * count_to (goes_to v.to) n

-- .. beside the service
pub record Weighs (n u served orders : ℕ) (l : Lane) (x : Control) (v : Move) : Type 0 where
  pub exact : moved (tallied u) n v + service v.control + 1 + u * served ≡ weight (tallied u) l + service x + 2 * served + 2 * orders
  pub queued : moved orders_only n v ≡ weight orders_only l + orders

-- the store after memory's part of a call
pub commit_move_advances : (u served orders : ℕ) (s : Store) (k : LaneNo) (a : BlockNo) (v : Move) → Sized s → s.shape.n ≤ 8 → k.0 < s.shape.n →
    (k.0 < 8 → LaneSized v.lane) → (refused_of v.answer ≡ false → Weighs s.shape.n u served orders (lane_at s k.0) s.control v) →
    Advancing u served orders s (commit_move s k a v)
commit_move_advances u served orders s k a v g h l f t = move_rule (Advancing u served orders s) s k a v (λ _ e. absurd (true≢false e)) (λ q o _. put (t q) o)
  where
    after : List Lane
    after = set s.lanes k.0 v.lane

    lanes_after : (ρ : Rates) → some_full capacity v.to after ≡ false →
        lanes_weight ρ (moved_store s k a v).lanes s.shape.n + weight ρ (lane_at s k.0) ≡ lanes_weight ρ s.lanes s.shape.n + moved ρ s.shape.n v
    lanes_after ρ o =
        let i = g.lanes in
        let b = set_sum (weight ρ) s.lanes no_lane k.0 s.shape.n v.lane l (omega arith) in
        let c = post_weight v.to v.message after s.shape.n h (set_lane_sized s.lanes k.0 v.lane (lanes_sized s g) f) ρ o in
        omega arith

    put : Weighs s.shape.n u served orders (lane_at s k.0) s.control v → some_full capacity v.to after ≡ false →
        Advances u served orders s (record { answer = v.answer; store = moved_store s k a v })
    put w o =
        let p = w.exact in
        let q = w.queued in
        let b = lanes_after (tallied u) o in
        let c = lanes_after orders_only o in
        let d = tally_sum u s in
        let e = tally_sum u (moved_store s k a v) in
        let i = orders_sum s in
        let j = orders_sum (moved_store s k a v) in
        record { exact = omega arith; queued = omega arith; lanes = refl }
