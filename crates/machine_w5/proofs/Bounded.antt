-- From an opening with L = 1 no queue ever has three messages (Bounded, which the crate machine proves). So no call before W6 is refused by 12 there, and
-- histories are equal with no exception. Assumes nothing.
use Prim.Native.Nat.{ℕ, zero, suc, ◌≤◌}
use native.Mathlib.Omega.{arith}
use mathlib.Core.Logic.{◌⊎◌, inl, inr}
use mathlib.Core.Path.{◌≡◌}
use mathlib.Core.Bool.{false}
use mathlib.Core.List.{List, [], ◌∷◌}
use Rattle.words.specs.declared.Shape.{Shape}
use Rattle.lanes.specs.UseOrder.{Insertion}
use Rattle.answers.specs.declared.Answer.TheVariants.{Opened}
use Rattle.store.specs.declared.Store.{Store}
use Rattle.store.specs.Stores.{lane_at}
use Rattle.store.specs.Opening.{bad_shape, bad_limit, fresh_of, open_of}
use Rattle.machine.specs.Machine.Settle.{settle_step}
use Rattle.machine.specs.Machine.Calls.{Call, Called, call_of, run}
use Rattle.machine.proofs.Laws.Tests.{on}
use Rattle.machine_w5.specs.Stores as Former
use Rattle.machine_w5.specs.Calls as FormerCalls
use Rattle.machine_w5.specs.Same.{Same, SameCalled, SameRun, SameHistory, SameLast}
use Rattle.machine_w5.proofs.Corruption.{limit_fits}
use Rattle.machine_w5.proofs.Commits.{Long}
use Rattle.machine_w5.proofs.Settle.{steps_from}
use Rattle.machine_w5.proofs.Calls.{Longer, Either, call_of_lem, run_more, run_none, same_openings}
use Rattle.machine_w5.proofs.Refused.{refused_history}
use Rattle.std.specs.Prelude.{Ok}

-- what an opening gives, and every call and every step of settle keeps, and what it says of queues where L = 1
pub record Bounded : Type 1 where
  pub Lively : Store → Type 0
  pub open_lively : (shape : Shape) → (open_of shape).answer ≡ Ok Opened → Lively (open_of shape).store
  pub fresh_lively : (shape : Shape) → bad_shape shape ≡ false → bad_limit shape ≡ false → Lively (fresh_of shape)
  pub call_lively : (ins : Insertion) (s : Store) (x : Call) → Lively s → Lively (call_of ins s x).store
  pub step_lively : (ins : Insertion) (s : Store) → Lively s → Lively (settle_step ins s).store
  pub lively_two : (s : Store) → Lively s → s.shape.limit ≡ 1 → (k : ℕ) → ((lane_at s k).returns.len ≤ 2) × ((lane_at s k).downs.len ≤ 2)

-- an opening in range
opens : (shape : Shape) → bad_shape shape ≡ false → bad_limit shape ≡ false → (open_of shape).answer ≡ Ok Opened
unfolding open_of
opens shape e f = rw (e, f)

module _ (b : Bounded) where
  -- no queue has three messages, now
  pub not_long : (s : Store) → b.Lively s → Long s → ⊥
  not_long s l h = let m = b.lively_two s l h.limit h.lane in go m h.long
    where
      go : ((lane_at s h.lane).returns.len ≤ 2) × ((lane_at s h.lane).downs.len ≤ 2) → (3 ≤ (lane_at s h.lane).returns.len) ⊎ (3 ≤ (lane_at s h.lane).downs.len) → ⊥
      go m (inl z) = omega (arith, m.0, z)
      go m (inr z) = omega (arith, m.1, z)

  -- .. and after any number of steps
  steps_lively : (ins : Insertion) (n : ℕ) (s : Store) → b.Lively s → b.Lively (steps_from ins n s)
  unfolding steps_from
  steps_lively ins zero s l = l
  steps_lively ins (suc n) s l = steps_lively ins n (settle_step ins s).store (b.step_lively ins s l)

  not_longer : (ins : Insertion) (s : Store) (q : Called) → b.Lively s → b.Lively q.store → Longer ins s q → ⊥
  not_longer ins s q l m (inl h) = not_long q.store m h
  not_longer ins s q l m (inr h) = not_long _ (steps_lively ins h.steps s l) h.long

  -- a call
  call_same : (ins : Insertion) (t : Former.Store) (s : Store) (x : Call) → Same t s → b.Lively s → SameCalled (FormerCalls.call_of ins t x) (call_of ins s x)
  call_same ins t s x e l = go (call_of_lem ins t s x e)
    where
      go : Either ins s (FormerCalls.call_of ins t x) (call_of ins s x) → SameCalled (FormerCalls.call_of ins t x) (call_of ins s x)
      go (inl h) = absurd (not_longer ins s (call_of ins s x) l (b.call_lively ins s x l) h.1)
      go (inr h) = h

  -- a list of calls
  run_same : (ins : Insertion) (t : Former.Store) (s : Store) (xs : List Call) → Same t s → b.Lively s → SameRun (FormerCalls.run ins t xs) (run ins s xs)
  run_same ins t s [] e l = run_none ins t s e
  run_same ins t s (x ∷ xs) e l = let h = call_same ins t s x e l in run_more ins t s x xs h (run_same ins (FormerCalls.call_of ins t x).store (call_of ins s x).store xs h.store (b.call_lively ins s x l))

  opened_run : (ins : Insertion) (shape : Shape) (calls : List Call) → shape.limit ≡ 1 → (open_of shape).answer ≡ Ok Opened →
      SameRun (FormerCalls.run ins (Former.open_of shape).store calls) (run ins (open_of shape).store calls)
  opened_run ins shape calls one e = run_same ins _ _ calls ((same_openings shape one).store e) (b.open_lively shape e)

  pub same_last : SameLast
  same_last ins shape calls one e = (opened_run ins shape calls one e).store

  pub same_history : SameHistory
  same_history ins shape calls one =
      on (bad_shape shape) (λ f. refused_history ins shape calls f) (λ f. (opened_run ins shape calls one (opens shape f (limit_fits shape one))).history)
