-- 14, 17 and whether a store is quiet agree on the same stores. Assumes nothing.
use Prim.Native.Nat.{ℕ, zero, suc, ◌+◌, ◌<◌, ◌≤◌}
use native.Mathlib.Omega.{arith}
use native.Mathlib.Nat.{eq-or-lt_of_le}
use mathlib.Core.Logic.{◌⊎◌, inl, inr}
use mathlib.Core.Path.{◌≡◌, refl, sym, ap, ◌∙◌, fun_ext, subst}
use mathlib.Core.Bool.{Bool, true, false, not, cond, ◌||◌, ◌&&◌}
use mathlib.Core.List.{List, [], ◌∷◌}
use lib.Dec.{ltb}
use lib.ListN.{get_or, get_or-eq_default}
use borrow.Author.Tests.{ltb-true, le-ltb}
use Rattle.words.specs.declared.Line.{Line}
use Rattle.words.specs.declared.LineNo.{LineNo}
use Rattle.words.specs.declared.Shape.{Shape}
use Rattle.words.specs.Folds.{any_to, any_of, count_to}
use Rattle.words.proofs.Folds.{below?}
use Rattle.words.proofs.Folds as Folds
use Rattle.queues.specs.Queues.{ReturnQueue}
use Rattle.queues.specs.Messages.{ReturnMessage}
use Rattle.queues.specs.Queues.{DownQueue}
use Rattle.queues.specs.Messages.{DownMessage}
use Rattle.queues.specs.Queues.{capacity, no_return, no_down}
use Rattle.lanes.specs.declared.Lane.{Lane}
use Rattle.lanes.specs.declared.Waiting.{Waiting}
use Rattle.lanes.specs.Waits.{idle_of}
use Rattle.store.specs.declared.Store.{Store}
use Rattle.store.specs.declared.Block.{Block}
use Rattle.store.specs.declared.Control.{Control}
use Rattle.store.specs.Stores.{no_lane}
use Rattle.store.specs.Opening.{bad_shape, bad_limit}
use Rattle.store.specs.Quiet.{active_of, quiet_of}
use Rattle.machine.specs.Machine.Begun.{last_place, waiting_in, begun_in}
use Rattle.machine.specs.Machine.Corruption.{bad_block, bad_lines, bad_order, bad_returns, bad_downs, bad_waiting, bad_lane, bad_flags, bad_control, corrupt_of}
use Rattle.machine.proofs.Laws.Counts.{count_past}
use Rattle.machine.proofs.Laws.Tests.{on}
use Rattle.machine_w5.specs.Control as FormerControl
use Rattle.machine_w5.specs.Stores as Former
use Rattle.machine_w5.specs.Corruption as FormerCorruption
use Rattle.machine_w5.specs.Same.{SameQueue, SameReturns, SameDowns, SameLane, SameLanes, SameControl, Same}
use Rattle.machine_w5.proofs.Queues.{at_same}
use Rattle.machine_w5.proofs.Lanes.{lane_with, by_parts}
use Rattle.machine_w5.proofs.Controls.{busy_same, bad_same}

or_past : (a b : Bool) → b ≡ false → (a || b) ≡ a
or_past true b e = refl
or_past false b e = e

-- those from n on fail the test, so none of them tells
any_past : (p : ℕ → Bool) (n t : ℕ) → n ≤ t → ((j : ℕ) → n ≤ j → p j ≡ false) → any_to p t ≡ any_to p n
unfolding any_to
any_past p n zero h f = let e : n ≡ 0 = omega arith in rw e
any_past p n (suc t) h f = go (eq-or-lt_of_le h) (λ q. any_past p n t q f)
  where
    go : (n ≡ suc t) ⊎ (n < suc t) → (n ≤ t → any_to p t ≡ any_to p n) → (any_to p t || p t) ≡ any_to p n
    go (inl q) r = rw q
    go (inr q) r = or_past (any_to p t) (p t) (f t (omega arith)) ∙ r (omega arith)

-- two tests that agree below n
any_agree : (p q : ℕ → Bool) (n : ℕ) → ((j : ℕ) → j < n → p j ≡ q j) → any_to p n ≡ any_to q n
unfolding any_to
any_agree p q zero h = refl
any_agree p q (suc n) h = rw (any_agree p q n (λ j l. h j (omega arith)), h n (omega arith))

-- a test of the messages of the same queues: over two places, and over eight
module _ {A : Type 0} (f : ℕ) (fs : List A) (n : ℕ) (ns : List A) (d : A) (e : SameQueue f fs n ns) (g : A → Bool) where
  abbrev former : ℕ → Bool
  former i = ltb i f && g (get_or fs i d)

  abbrev today : ℕ → Bool
  today i = ltb i n && g (get_or ns i d)

  place_same : (i : ℕ) → former i ≡ today i
  place_same i =
      on (ltb i f) (λ t. let h = ltb-true i f t in rw e.lens (ap (λ x. ltb i n && g x) (at_same f fs n ns d i e h)))
      (λ t. let u : ltb i n ≡ false = rw (← e.lens) t in rw (t, u))

  past : (i : ℕ) → 2 ≤ i → today i ≡ false
  past i h = rw (le-ltb i n (omega (arith, e.lens, e.short)))

  pub any_same : any_to former 2 ≡ any_to today 8
  any_same = ap (λ p. any_to p 2) (fun_ext place_same) ∙ sym (any_past today 2 8 (omega arith) past)

  pub count_same : count_to former 2 ≡ count_to today 8
  count_same = ap (λ p. count_to p 2) (fun_ext place_same) ∙ sym (count_past today 2 8 (omega arith) (λ j h _. past j h))

  -- neither is longer than its places
  pub fits_same : (ltb 2 f || any_to former 2) ≡ (ltb 8 n || any_to today 8)
  fits_same = rw (le-ltb 2 f e.short, le-ltb 8 n (omega (arith, e.lens, e.short))) any_same

bad_lane_parts : (c m : ℕ) (ls : List Line) (o : List LineNo) (w : Waiting) (p q : ReturnQueue) (x y : DownQueue) → SameReturns p q → SameDowns x y →
    bad_lane Former.capacity c m (lane_with ls o w p x) ≡ bad_lane capacity c m (lane_with ls o w q y)
unfolding bad_lane
bad_lane_parts c m ls o w p q x y e f =
    let u : bad_returns Former.capacity m p ≡ bad_returns capacity m q = fits_same _ _ _ _ no_return e (λ (z : ReturnMessage). bad_block m z.block) in
    let v : bad_downs Former.capacity m x ≡ bad_downs capacity m y = fits_same _ _ _ _ no_down f (λ (z : DownMessage). bad_block m z.block) in
    λ i. any_of (bad_lines c m ls ∷ bad_order c o ∷ u i ∷ v i ∷ bad_waiting m w ∷ [])

bad_lane_same : (c m : ℕ) (p l : Lane) → SameLane p l → bad_lane Former.capacity c m p ≡ bad_lane capacity c m l
bad_lane_same c m = by_parts (λ p l. bad_lane Former.capacity c m p ≡ bad_lane capacity c m l) (bad_lane_parts c m)

-- a lane that is not there
no_lane_same : (c m : ℕ) → bad_lane Former.capacity c m no_lane ≡ bad_lane capacity c m no_lane
unfolding bad_lane any_to
no_lane_same c m = refl

active_same : (p l : Lane) → SameLane p l → active_of p ≡ active_of l
unfolding active_of
active_same p l e = λ i. cond (idle_of (e.waiting i)) (ltb 0 (e.returns.lens i) || ltb 0 (e.downs.lens i)) true

-- what agrees on the same lanes agrees on lane k of the same stores, where k is below n
pub each_lane : {A : Type 0} (f g : Lane → A) (n : ℕ) (ps ls : List Lane) → SameLanes n ps ls → ((p l : Lane) → SameLane p l → f p ≡ g l) → f no_lane ≡ g no_lane →
    (k : ℕ) → k < n → f (get_or ps k no_lane) ≡ g (get_or ls k no_lane)
each_lane f g n ps ls e same none k b = elim (below? k 8) [ inl h ↦ same _ _ (e.lane k h b) | inr h ↦ past h ]
  where
    past : 8 ≤ k → f (get_or ps k no_lane) ≡ g (get_or ls k no_lane)
    past h = rw (get_or-eq_default ps no_lane {n = k} (omega (arith, e.former_lanes)), get_or-eq_default ls no_lane {n = k} (omega (arith, e.lanes))) none

-- a condition that does not hold is left out
left_out : (a f b : Bool) (r : List Bool) → f ≡ false → any_of (a ∷ b ∷ r) ≡ any_of (a ∷ f ∷ b ∷ r)
unfolding any_of
left_out a f b r e = rw e

-- L = 1 is in range
pub limit_fits : (shape : Shape) → shape.limit ≡ 1 → bad_limit shape ≡ false
unfolding any_of
limit_fits shape e = rw e

-- a store before W6, and one of today, by their parts
abbrev pub former_with : Shape → FormerControl.Control → ℕ → List Lane → List Block → Former.Store
former_with shape x done ps bs = record { shape = shape; control = x; completions = done; lanes = ps; blocks = bs }

abbrev pub store_with : Shape → Control → ℕ → List Lane → List Block → Store
store_with shape y done ls bs = record { shape = shape; control = y; completions = done; lanes = ls; blocks = bs }

-- what holds of all stores with the same parts but for control and lanes holds of the same stores
pub by_stores : (P : Former.Store → Store → Type 0) →
    ((shape : Shape) (x : FormerControl.Control) (y : Control) (done : ℕ) (ps ls : List Lane) (bs : List Block) → shape.limit ≡ 1 → SameControl x y → SameLanes shape.n ps ls →
    P (former_with shape x done ps bs) (store_with shape y done ls bs)) →
    (t : Former.Store) (s : Store) → Same t s → P t s
by_stores P h t s e =
    let z : former_with s.shape t.control s.completions t.lanes s.blocks ≡ t = sym (λ i. former_with (e.shape i) t.control (e.completions i) t.lanes (e.blocks i)) in
    subst (λ (x : Former.Store). P x s) z (h s.shape t.control s.control s.completions t.lanes s.lanes s.blocks e.limit e.control e.lanes)

module _ (shape : Shape) (x : FormerControl.Control) (y : Control) (done : ℕ) (ps ls : List Lane) (bs : List Block) (one : shape.limit ≡ 1) (ec : SameControl x y) (el : SameLanes shape.n ps ls) where
  -- the two stores
  abbrev t : Former.Store
  t = former_with shape x done ps bs

  abbrev s : Store
  s = store_with shape y done ls bs

  pub parts_same : Same t s
  parts_same = record { shape = refl; limit = one; control = ec; completions = refl; lanes = el; blocks = refl }

  pub begun_same : FormerCorruption.begun_in t ≡ begun_in s
  unfolding FormerCorruption.begun_in FormerCorruption.waiting_in begun_in waiting_in
  begun_same =
      ap (λ k. done + k) (Folds.count_same _ _ shape.n (each_lane (λ l. not (idle_of l.waiting)) (λ l. not (idle_of l.waiting)) shape.n ps ls el (λ p l e. ap (λ w. not (idle_of w)) e.waiting) refl))

  pub corrupt_same : FormerCorruption.corrupt_of t ≡ corrupt_of s
  unfolding FormerCorruption.corrupt_of corrupt_of
  corrupt_same =
      let u : FormerCorruption.bad_control shape.n shape.m x ≡ bad_control shape y = bad_same shape x y one ec in
      let v : any_to (λ k. bad_lane Former.capacity shape.c shape.m (get_or ps k no_lane)) shape.n ≡ any_to (λ k. bad_lane capacity shape.c shape.m (get_or ls k no_lane)) shape.n =
      any_agree _ _ shape.n (each_lane _ _ shape.n ps ls el (bad_lane_same shape.c shape.m) (no_lane_same shape.c shape.m)) in
      let w : ltb last_place (FormerCorruption.begun_in t) ≡ ltb last_place (begun_in s) = ap (ltb last_place) begun_same in
      (λ i. any_of (bad_shape shape ∷ u i ∷ v i ∷ any_to (λ a. bad_flags shape.n (Former.block_at t a)) shape.m ∷ w i ∷ [])) ∙ left_out _ _ _ _ (limit_fits shape one)

  pub quiet_same : Former.quiet_of t ≡ quiet_of s
  unfolding Former.quiet_of quiet_of
  quiet_same =
      let u : FormerControl.busy_of x ≡ _ = busy_same x y ec in
      let v = any_agree _ _ shape.n (each_lane active_of active_of shape.n ps ls el active_same refl) in
      λ i. cond (u i) false (not (v i))
