-- The control before W6 and today's control with at most one service: tests, lookups and changes agree. Assumes nothing.
use Prim.Native.Nat.{ℕ, ◌<◌, ◌≤◌}
use native.Mathlib.Omega.{arith}
use mathlib.Core.Logic.{◌⊎◌, inl, inr, ◌≢◌}
use mathlib.Core.Path.{◌≡◌, refl, sym, ap, ◌∙◌}
use mathlib.Core.Bool.{Bool, true, false, cond, or-true}
use lib.Dec.{eqb, ltb}
use lib.ListN.{length-set}
use borrow.Author.Tests.{eq-eqb, ne_eqb, eqb-true}
use Rattle.words.specs.declared.BlockNo.{BlockNo}
use Rattle.words.specs.declared.Shape.{Shape}
use Rattle.words.specs.Folds.{count_to, any_to}
use Rattle.words.proofs.Folds.{same?, any_true, any_never}
use Rattle.store.specs.declared.Service.{Service}
use Rattle.store.specs.declared.Control.{Control}
use Rattle.store.specs.Control.{slot_at, is_for, slot_of, service_of, open_services, busy_of, busy_for, free_slot, with_service, with_updated, without_service, is_busy}
use Rattle.store.proofs.Services.{Found, found, for_none, none_found, vacant, opened_count, opened_own, updated_own, updated_count, closed_count}
use Rattle.machine.specs.Machine.Corruption.{bad_service, bad_slot, bad_control}
use Rattle.machine.proofs.Laws.Sums.{sum_change, sum_part, count_sum}
use Rattle.machine.proofs.Laws.Tests.{on}
use Rattle.machine_w5.specs.Control.{Free, Busy}
use Rattle.machine_w5.specs.Control as Former
use Rattle.machine_w5.specs.Corruption as FormerCorruption
use Rattle.machine_w5.specs.Same.{SameControl}
use Rattle.std.specs.Prelude.{Some, None, Option}

-- two that pass a test count for two
count_two : (p : ℕ → Bool) (n i j : ℕ) → i < n → j < n → j ≢ i → p i ≡ true → p j ≡ true → 2 ≤ count_to p n
count_two p n i j hi hj ne ei ej =
    let f : ℕ → ℕ = λ k. cond (p k) 1 0 in
    let g : ℕ → ℕ = λ k. cond (eqb k i) 0 (cond (p k) 1 0) in
    let a = sum_change f g n i hi (λ k m. rw (ne_eqb k i m)) in
    let b = sum_part g n j hj in
    let fi : f i ≡ 1 = rw ei in
    let gi : g i ≡ 0 = rw (eq-eqb i i refl) in
    let gj : g j ≡ 1 = rw (ne_eqb j i ne, ej) in
    let c = count_sum p n in
    omega (arith, a, b, c, fi, gi, gj)

-- a count of 0: none passes
none_passes : (p : ℕ → Bool) (n k : ℕ) → count_to p n ≡ 0 → k < n → p k ≡ false
none_passes p n k e h =
    on (p k)
    (λ t.
    let a = sum_part (λ j. cond (p j) 1 0) n k h in
    let b : ◌≡◌ {A = ℕ} (cond (p k) 1 0) 1 = rw t in
    let c = count_sum p n in
    absurd (omega (arith, a, b, c, e)))
    (λ t. t)

-- a slot that is not busy is for no block
idle_for : (a : BlockNo) (y : Option Service) → is_busy y ≡ false → is_for a y ≡ false
idle_for a y e = rw e

-- no service
module _ (y : Control) (e : open_services y ≡ 0) where
  idle : (j : ℕ) → j < 8 → is_busy (slot_at y j) ≡ false
  unfolding open_services
  idle j h = none_passes (λ i. is_busy (slot_at y i)) 8 j e h

  none_slot : (a : BlockNo) → slot_of y a ≡ 8
  none_slot a = for_none y a (λ j h. idle_for a (slot_at y j) (idle j h))

  none_service : (a : BlockNo) → service_of y a ≡ None
  none_service a = none_found y a (let z = none_slot a in omega arith)

  none_bad : (n m : ℕ) → any_to (bad_slot n m y) 8 ≡ false
  none_bad n m = any_never (bad_slot n m y) 8 (λ j h. rw (idle j h))

-- one service, v
module _ (y : Control) (v : Service) (e : open_services y ≡ 1) (f : service_of y v.block ≡ Some v) where
  there : Found y v.block v
  there = found y v.block v f

  -- no other is busy
  alone : (j : ℕ) → j < 8 → j ≢ slot_of y v.block → is_busy (slot_at y j) ≡ false
  unfolding open_services
  alone j h n =
      on (is_busy (slot_at y j)) (λ t. let z = count_two (λ i. is_busy (slot_at y i)) 8 (slot_of y v.block) j there.below h n there.busy t in absurd (omega (arith, z, e))) (λ t. t)

  own_for : (a : BlockNo) → is_for a (slot_at y (slot_of y v.block)) ≡ eqb v.block.0 a.0
  own_for a = rw (there.busy, there.service)

  other_slot : (a : BlockNo) → eqb v.block.0 a.0 ≡ false → slot_of y a ≡ 8
  other_slot a t = for_none y a (λ j h. go j h (same? j (slot_of y v.block)))
    where
      go : (j : ℕ) → j < 8 → (j ≡ slot_of y v.block) ⊎ (j ≢ slot_of y v.block) → is_for a (slot_at y j) ≡ false
      go j h (inl q) = ap (λ (i : ℕ). is_for a (slot_at y i)) q ∙ own_for a ∙ t
      go j h (inr n) = idle_for a (slot_at y j) (alone j h n)

  one_service : (a : BlockNo) → cond (eqb v.block.0 a.0) (Some v) None ≡ service_of y a
  one_service a =
      on (eqb v.block.0 a.0)
      (λ t. let q = eqb-true _ _ t in let b : v.block ≡ a = λ i. record { 0 = q i } in rw t (sym f ∙ ap (service_of y) b))
      (λ t. let z = other_slot a t in rw t (sym (none_found y a (omega arith))))

  one_bad : (n m : ℕ) → bad_service n m v ≡ any_to (bad_slot n m y) 8
  one_bad n m =
      on (bad_service n m v)
      (λ t. t ∙ sym (any_true (bad_slot n m y) 8 (slot_of y v.block) (rw (there.busy, there.service, t)) there.below))
      (λ t. t ∙ sym (any_never (bad_slot n m y) 8 (λ j h. go t j h (same? j (slot_of y v.block)))))
    where
      -- no earlier slot has its block
      lower : any_to (λ j. is_for v.block (slot_at y j)) (slot_of y v.block) ≡ false
      lower = any_never _ (slot_of y v.block) (λ j h. idle_for v.block (slot_at y j) (alone j (let b = there.below in omega arith) (λ q. omega arith)))

      here : bad_service n m v ≡ false → bad_slot n m y (slot_of y v.block) ≡ false
      here t = rw (there.busy, there.service, t, lower)

      go : bad_service n m v ≡ false → (j : ℕ) → j < 8 → (j ≡ slot_of y v.block) ⊎ (j ≢ slot_of y v.block) → bad_slot n m y j ≡ false
      go t j h (inl q) = ap (bad_slot n m y) q ∙ here t
      go t j h (inr k) = rw (alone j h k)

-- a service is under way
pub busy_same : (x : Former.Control) (y : Control) → SameControl x y → Former.busy_of x ≡ busy_of y
busy_same Free y e = rw e.services
busy_same (Busy v) y e = rw e.services.0

-- how many
pub services_same : (x : Former.Control) (y : Control) → SameControl x y → cond (Former.busy_of x) 1 0 ≡ open_services y
services_same Free y e = sym e.services
services_same (Busy v) y e = sym e.services.0

-- 10, with L = 1
pub busy_for_same : (x : Former.Control) (y : Control) (a : BlockNo) → SameControl x y → Former.busy_of x ≡ busy_for 1 y a
busy_for_same Free y a e = rw (none_slot y e.services a, e.services)
busy_for_same (Busy v) y a e = rw e.services.0 (sym (or-true (ltb (slot_of y a) 8)))

-- the service of a block
pub service_same : (x : Former.Control) (y : Control) (a : BlockNo) → SameControl x y → Former.service_of x a ≡ service_of y a
service_same Free y a e = sym (none_service y e.services a)
service_same (Busy v) y a e = one_service y v e.services.0 e.services.1 a

-- a store whose control is out of bounds, with L = 1
pub bad_same : (shape : Shape) (x : Former.Control) (y : Control) → shape.limit ≡ 1 → SameControl x y →
    FormerCorruption.bad_control shape.n shape.m x ≡ bad_control shape y
unfolding bad_control
bad_same shape Free y l e = rw (l, e.services, none_bad y e.services shape.n shape.m)
bad_same shape (Busy v) y l e = rw (l, e.services.0) (one_bad y v e.services.0 e.services.1 shape.n shape.m)

-- a service is opened where there was none
pub open_same : (v : Service) (y : Control) → SameControl Free y → SameControl (Busy v) (with_service v y)
unfolding with_service
open_same v y e =
    let z = vacant y (let q = e.services in omega arith) in
    record {
      slots = length-set y.slots (free_slot y) _ ∙ e.slots;
      services = (opened_count y v e.slots z ∙ rw e.services, opened_own y v e.slots z (none_slot y e.services v.block));
    }

-- the service of a block is another one of that block
pub update_same : (v u : Service) (y : Control) → u.block ≡ v.block → SameControl (Busy v) y → SameControl (Busy u) (with_updated u y)
unfolding with_updated
update_same v u y b e =
    let f : Found y u.block v = rw b (found y v.block v e.services.1) in
    record { slots = length-set y.slots (slot_of y u.block) _ ∙ e.slots; services = (updated_count y u v f ∙ e.services.0, updated_own y u v f) }

-- the service is closed
pub close_same : (v : Service) (y : Control) → SameControl (Busy v) y → SameControl Free (without_service v y)
unfolding without_service
close_same v y e =
    let f = found y v.block v e.services.1 in
    record { slots = length-set y.slots (slot_of y v.block) _ ∙ e.slots; services = let z = closed_count y v v f in omega (arith, e.services.0) }
