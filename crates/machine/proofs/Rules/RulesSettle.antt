-- A rule for settle's step, and one for its repetition, by which the proofs go. Assumes nothing.
use Prim.Native.Nat.{ℕ, zero, suc, ◌<◌}
use mathlib.Core.Path.{◌≡◌}
use mathlib.Core.Bool.{Bool, true, false, cond}
use mathlib.Core.Logic.{◌≢◌}
use lib.Dec.{ltb}
use borrow.Author.Tests.{ltb-true, ltb-false}
use native.Mathlib.Omega.{arith}
use Rattle.words.specs.Folds.{lowest_to}
use Rattle.words.proofs.Folds.{pick, lowest_passes, lowest_absent}
use Rattle.lanes.specs.Waits.{unserved_of}
use Rattle.lanes.specs.UseOrder.{Insertion}
use Rattle.answers.specs.declared.Refusal.TheVariants.{Unexpected}
use Rattle.store.specs.declared.Store.{Store}
use Rattle.store.specs.declared.Outcome.{Outcome}
use Rattle.store.specs.Stores.{lane_at}
use Rattle.machine.specs.Machine.Change.{refuse}
use Rattle.machine.specs.Machine.Serve.{serve_of}
use Rattle.machine.specs.Machine.Return.{return_of}
use Rattle.machine.specs.Machine.Deliver.{deliver_of}
use Rattle.machine.specs.Machine.Settle.{lane, settle_step, Progress, advance, ended, repeat_step}

-- the lowest lane that passes a test, or none passes
lowest_rule : {A : Type 0} (P : A → Type 0) (p : ℕ → Bool) (n : ℕ) (x y : A) → (lowest_to p n < n → p (lowest_to p n) ≡ true → P x) →
    (((k : ℕ) → k < n → p k ≡ false) → P y) → P (cond (ltb (lowest_to p n) n) x y)
lowest_rule P p n x y some none =
    pick P (ltb (lowest_to p n) n) x y (λ e. some (ltb-true _ _ e) (lowest_passes p n (ltb-true _ _ e))) (λ e. none (lowest_absent p n (ltb-false _ _ e)))

-- no lane has a filled down queue; a filled return queue; an unserved operation
abbrev pub NoDowns : Store → Type 0
NoDowns s = (k : ℕ) → k < s.shape.n → (lane_at s k).downs.len ≡ 0

abbrev pub NoReturns : Store → Type 0
NoReturns s = (k : ℕ) → k < s.shape.n → (lane_at s k).returns.len ≡ 0

abbrev pub NoUnserved : Store → Type 0
NoUnserved s = (k : ℕ) → k < s.shape.n → unserved_of (lane_at s k).waiting ≡ false

filled : (len : ℕ) → ltb 0 len ≡ true → len ≢ 0
filled len e q = let h = ltb-true 0 len e in absurd (omega arith)

empty : (len : ℕ) → ltb 0 len ≡ false → len ≡ 0
empty len e = let h = ltb-false 0 len e in omega arith

-- a step of settle is a deliver; or a return, where no deliver can be; or a serve, where neither can be; or 16
pub step_rule : (ins : Insertion) (P : Outcome → Type 0) (s : Store) → ((k : ℕ) → k < s.shape.n → (lane_at s k).downs.len ≢ 0 → P (deliver_of ins s (lane k))) →
    (NoDowns s → (k : ℕ) → k < s.shape.n → (lane_at s k).returns.len ≢ 0 → P (return_of s (lane k))) →
    (NoDowns s → NoReturns s → (k : ℕ) → k < s.shape.n → unserved_of (lane_at s k).waiting ≡ true → P (serve_of s (lane k))) →
    (NoDowns s → NoReturns s → NoUnserved s → P (refuse Unexpected s)) → P (settle_step ins s)
unfolding settle_step
step_rule ins P s delivers returns serves stuck =
    lowest_rule P (λ k. ltb 0 (lane_at s k).downs.len) s.shape.n _ _ (λ h e. delivers _ h (filled _ e))
    (λ d. lowest_rule P (λ k. ltb 0 (lane_at s k).returns.len) s.shape.n _ _ (λ h e. returns (λ k l. empty _ (d k l)) _ h (filled _ e))
    (λ r. lowest_rule P (λ k. unserved_of (lane_at s k).waiting) s.shape.n _ _
    (λ h e. serves (λ k l. empty _ (d k l)) (λ k l. empty _ (r k l)) _ h e)
    (λ u. stuck (λ k l. empty _ (d k l)) (λ k l. empty _ (r k l)) u)))

-- what holds at the start and is kept by every step holds at the end
pub repeat_rule : (ins : Insertion) (P : Progress → Type 0) → ((p : Progress) → ended p ≡ false → P p → P (advance ins p)) → (n : ℕ) (p : Progress) → P p → P (repeat_step ins n p)
unfolding repeat_step
repeat_rule ins P keeps zero p h = h
repeat_rule ins P keeps (suc n) p h = pick P (ended p) p (repeat_step ins n (advance ins p)) (λ _. h) (λ e. repeat_rule ins P keeps n (advance ins p) (keeps p e h))
