-- What the two queues of a lane have together: what the lane owes, and at most one message more, an ejection or a grant. So they keep to 02's figure
-- (W7), and a queue has room whenever a call adds to it. Assumes nothing.
use Prim.Native.Nat.{ℕ, ◌+◌, ◌-◌, ◌<◌, ◌≤◌}
use mathlib.Core.Logic.{◌≢◌}
use mathlib.Core.Path.{◌≡◌, refl, ap, ◌∙◌}
use mathlib.Core.Bool.{true, false, cond}
use mathlib.Core.List.{List}
use lib.Dec.{leb}
use borrow.Author.Tests.{leb-false}
use native.Mathlib.Omega.{arith}
use Rattle.words.specs.Units.{block_of}
use Rattle.words.proofs.Folds.{by_cond, pick}
use Rattle.queues.specs.Queues.{capacity}
use Rattle.lanes.specs.declared.Lane.{Lane}
use Rattle.lanes.specs.declared.Operation.{Operation}
use Rattle.lanes.specs.declared.Waiting.{Waiting}
use Rattle.lanes.specs.declared.Waiting.TheVariants.{Idle, Unserved, Served}
use Rattle.lanes.specs.Waits.{unserved_of}
use Rattle.store.specs.declared.Store.{Store}
use Rattle.store.specs.declared.Service.{Service}
use Rattle.store.specs.Control.{service_of}
use Rattle.store.specs.Stores.{lane_at}
use Rattle.store.proofs.Services.{found}
use Rattle.machine.specs.Claims.NeverFull.{smaller, queue_most, ShortQueues}
use Rattle.machine.proofs.Laws.Counts.{step_most}
use Rattle.machine.proofs.Bounds.Sound.{service_sound, sound}
use Rattle.machine.proofs.Protocol.BlockState.{waiting_on, block_no, seen, project}
use Rattle.machine.proofs.Protocol.Invariant.{answer_count, order_count, grant_count, served_count}
use Rattle.machine.proofs.Projection.Queued.{queued_returns, queued_downs}
use Rattle.machine.proofs.Store.Consistent.{Consistent}
use Rattle.machine.proofs.Store.ConsistentLane.{lane_sized}
use Rattle.machine.proofs.Settle.Live.{eject_count, Live}
use Rattle.machine.proofs.Settle.LiveOwing.{unserved_none, fits, served_on_lem, owed_all, owed_fewer, owed_two_fewer, owed_limit, grants_none, grants_about, grants_one, queue_length, returns_split, downs_split}
use Rattle.std.specs.Prelude.{Some}

-- the smaller is at most the first
pub smaller_first : (a b : ℕ) → smaller a b ≤ a
smaller_first a b = pick (λ (z : ℕ). z ≤ a) (leb a b) a b (λ _. omega arith) (λ e. let h = leb-false a b e in omega arith)

-- .. and what is at most either is at most the smaller
under_smaller : (x a b : ℕ) → x ≤ a → x ≤ b → x ≤ smaller a b
under_smaller x a b p q = by_cond (λ (z : ℕ). x ≤ z) (leb a b) a b p q

module _ (s : Store) (f : List ℕ) (i : Consistent s f) (live : Live s) (k : ℕ) (h : k < s.shape.n) where
  abbrev l : Lane
  l = lane_at s k

  -- the ejections and the grants on their way
  abbrev ejects : ℕ
  ejects = eject_count (queued_returns l.returns)

  abbrev grants : ℕ
  grants = grant_count (queued_downs l.downs)

  eight : s.shape.n ≤ 8
  eight = (sound s i.sound).n_high

  -- the messages of each queue, and of both
  returns_is : answer_count (queued_returns l.returns) + ejects ≡ l.returns.len
  returns_is =
      let z = (lane_sized s f i k h).returns in
      let p = ((sound s i.sound).lane k h).returns.short in
      returns_split (queued_returns l.returns) ∙ queue_length l.returns.len l.returns.at (omega arith)

  downs_is : order_count (queued_downs l.downs) + grants ≡ l.downs.len
  downs_is =
      let z = (lane_sized s f i k h).downs in
      let p = ((sound s i.sound).lane k h).downs.short in
      downs_split (queued_downs l.downs) ∙ queue_length l.downs.len l.downs.at (omega arith)

  queued_is : l.returns.len + l.downs.len ≡ owed_all l + ejects + grants
  queued_is = let a = returns_is in let b = downs_is in omega arith

  -- a lane that waits for nothing or unserved has no grant on its way; one that does not wait unserved no ejection
  idle_grants : l.waiting ≡ Idle → grants ≡ 0
  idle_grants e = grants_none s f i live k h (λ a. rw e)

  unserved_grants : (o : Operation) → l.waiting ≡ Unserved o → grants ≡ 0
  unserved_grants o e = grants_none s f i live k h (λ a. ap (λ (w : Waiting). served_count (waiting_on a w)) e ∙ unserved_none o a)

  no_ejects : unserved_of l.waiting ≡ false → ejects ≡ 0
  no_ejects e = let a = (live.lane k).ejects in let b : ◌≡◌ {A = ℕ} (cond (unserved_of l.waiting) 1 0) 0 = rw e in omega arith

  one_more : ejects + grants ≤ 1
  one_more = go l.waiting refl
    where
      go : (w : Waiting) → l.waiting ≡ w → ejects + grants ≤ 1
      go Idle e = let a = no_ejects (ap unserved_of e) in let b = idle_grants e in omega arith
      go (Unserved o) e = let a = (live.lane k).ejects in let b = unserved_grants o e in let c = step_most (unserved_of l.waiting) in omega arith
      go (Served o) e = let a = no_ejects (ap unserved_of e) in let b = grants_one s f i live k h o e in omega arith

  abbrev queued : ℕ
  queued = l.returns.len + l.downs.len

  -- so both queues have what the lane owes and at most one message more
  queued_most : queued ≤ owed_all l + 1
  queued_most = let a = queued_is in let b = one_more in omega arith

  -- 02's figure
  pub queues_short : ShortQueues s.shape l
  queues_short = record { returns = let a = most in omega arith; downs = let a = most in omega arith; together = most }
    where
      most : queued ≤ queue_most s.shape
      most =
          let a = queued_most in
          let b = under_smaller (owed_all l) s.shape.limit (s.shape.n - 1) (owed_limit s f i live k h) (let d = owed_fewer s f i live k h in omega arith) in
          omega arith

  -- .. and room where a call adds to a queue. Where neither an ejection nor a grant is on its way:
  owed_room : ejects ≡ 0 → grants ≡ 0 → queued < capacity
  owed_room e g = let a = queued_is in let b = owed_fewer s f i live k h in let c = eight in omega arith

  -- an ejection, by a lane that waits for nothing
  pub eject_room : l.waiting ≡ Idle → l.returns.len < capacity
  eject_room e = let a = owed_room (no_ejects (ap unserved_of e)) (idle_grants e) in omega arith

  -- an answer, in place of the order that is taken
  pub answer_room : l.downs.len ≢ 0 → l.returns.len < capacity
  answer_room n = let a = queued_most in let b = owed_fewer s f i live k h in let c = eight in omega (arith, n)

  -- an order, for a lane d that waits unserved and so has no service yet
  pub order_room : (d : ℕ) → d < s.shape.n → d ≢ k → unserved_of (lane_at s d).waiting ≡ true → l.downs.len < capacity
  order_room d b n u = let a = queued_most in let c = owed_two_fewer s f i live k h d b n u in let e = eight in omega arith

  -- the lane's own grant, where the service closes at once
  pub own_room : (o : Operation) → l.waiting ≡ Unserved o → l.returns.len ≡ 0 → l.downs.len < capacity
  own_room o e z = let a = returns_is in let b = owed_room (omega arith) (unserved_grants o e) in omega arith

  -- .. and where it closes later: no grant is on its way while the service is open
  grant_room : (o : Operation) → l.waiting ≡ Served o → grant_count ((project s (block_of o.word).0).lane k).downs ≡ 0 → l.downs.len < capacity
  grant_room o e z =
      let a = grants_about s f i live k h o e in
      let b = owed_room (no_ejects (ap unserved_of e)) (omega arith) in
      omega arith

module _ (s : Store) (f : List ℕ) (i : Consistent s f) (live : Live s) where
  pub service_room : (a : ℕ) → a < s.shape.m → (v : Service) → service_of s.control (block_no a) ≡ Some v → (lane_at s v.lane.0).downs.len < capacity
  unfolding seen
  service_room a h v e =
      let z = sound s i.sound in
      let below = (service_sound s.shape.n s.shape.m s.shape.limit s.control (block_no a) v z.control (found s.control (block_no a) v e)).lane in
      let g = fits s f i live a h v e in
      let served : served_count (waiting_on (block_no a) (lane_at s v.lane.0).waiting) ≡ 1 = ap served_count g.waits in
      let u = served_on_lem (lane_at s v.lane.0).waiting (block_no a) (λ z. absurd (omega arith)) in
      grant_room s f i live v.lane.0 below u.0 u.1 (ap (λ (d : ℕ). grant_count ((project s d).lane v.lane.0).downs) u.2 ∙ ap grant_count g.downs)
