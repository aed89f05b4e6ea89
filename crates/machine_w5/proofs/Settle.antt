-- Settle on the same stores. Assumes nothing.
use Prim.Native.Nat.{ℕ, zero, suc, ◌+◌, ◌-◌, ◌*◌}
use mathlib.Core.Logic.{◌⊎◌, inl, inr}
use mathlib.Core.Path.{◌≡◌, refl, ap, ◌∙◌, subst}
use mathlib.Core.Bool.{Bool, true, false, not, cond, ◌||◌}
use mathlib.Core.List.{List, [], ◌++◌}
use Rattle.words.specs.declared.Shape.{Shape}
use Rattle.words.specs.Folds.{count_to}
use Rattle.words.proofs.Folds as Folds
use Rattle.queues.specs.Messages.{DownMessage}
use Rattle.queues.specs.Queues.{no_down}
use Rattle.lanes.specs.declared.Lane.{Lane}
use Rattle.lanes.specs.UseOrder.{Insertion}
use Rattle.lanes.specs.Waits.{unserved_of}
use Rattle.answers.specs.declared.Answer.{Answer}
use Rattle.answers.specs.declared.Refusal.TheVariants.{QueueFull}
use Rattle.answers.specs.Refusals.{refused_of}
use Rattle.answers.specs.Completions.{done_in}
use Rattle.store.specs.declared.Store.{Store}
use Rattle.store.specs.declared.Block.{Block}
use Rattle.store.specs.declared.Control.{Control}
use Rattle.store.specs.Stores.{no_lane}
use Rattle.store.specs.Quiet.{quiet_of}
use Rattle.machine.specs.Machine.Corruption.{corrupt_of}
use Rattle.machine.specs.Machine.Settle.{settle_step, is_order, downs_of, orders_in, bound_of, Progress, advance, ended, repeat_step, Settlement, reached, unless_refused, settle_of}
use Rattle.machine.specs.Machine.Calls.{Called, SettledWith, settled_call}
use Rattle.machine.proofs.Laws.Sums.{sum_same}
use Rattle.machine_w5.specs.Control as FormerControl
use Rattle.machine_w5.specs.Stores as Former
use Rattle.machine_w5.specs.Corruption as FormerCorruption
use Rattle.machine_w5.specs.Settle as FormerSettle
use Rattle.machine_w5.specs.Calls as FormerCalls
use Rattle.machine_w5.specs.Same.{SameLane, SameLanes, SameControl, Same, full_in, SameCalled}
use Rattle.machine_w5.proofs.Pairs.{both}
use Rattle.machine_w5.proofs.Controls.{services_same}
use Rattle.machine_w5.proofs.Corruption.{former_with, store_with, by_stores, each_lane, count_same, corrupt_same, quiet_same}
use Rattle.machine_w5.proofs.Commits.{SameOutcome, Long, SameResult}
use Rattle.machine_w5.proofs.Steps.{step_of}
use Rattle.std.specs.Prelude.{Ok, Err, Result}
use Rattle.answers.specs.declared.Refusal.{Refusal}

-- the orders, or the grants, of a down queue
downs_same : (order : Bool) (p l : Lane) → SameLane p l → FormerSettle.downs_of order p.downs ≡ downs_of order l.downs
downs_same order p l e = count_same _ _ _ _ no_down e.downs (λ (z : DownMessage). cond order (is_order z.kind) (not (is_order z.kind)))

no_downs : (order : Bool) → FormerSettle.downs_of order no_lane.downs ≡ downs_of order no_lane.downs
unfolding count_to
no_downs order = refl

orders_parts : (shape : Shape) (x : FormerControl.Control) (y : Control) (done : ℕ) (ps ls : List Lane) (bs : List Block) → shape.limit ≡ 1 → SameControl x y → SameLanes shape.n ps ls →
    FormerSettle.orders_in (former_with shape x done ps bs) ≡ orders_in (store_with shape y done ls bs)
orders_parts shape x y done ps ls bs one ec el =
    sum_same _ _ shape.n (each_lane (λ l. FormerSettle.downs_of true l.downs) (λ l. downs_of true l.downs) shape.n ps ls el (downs_same true) (no_downs true))

bound_parts : (shape : Shape) (x : FormerControl.Control) (y : Control) (done : ℕ) (ps ls : List Lane) (bs : List Block) → shape.limit ≡ 1 → SameControl x y → SameLanes shape.n ps ls →
    FormerSettle.bound_of (former_with shape x done ps bs) ≡ bound_of (store_with shape y done ls bs)
unfolding FormerSettle.bound_of bound_of
bound_parts shape x y done ps ls bs one ec el =
    let n = shape.n in
    let r = sum_same _ _ n (each_lane (λ l. l.returns.len) (λ l. l.returns.len) n ps ls el (λ p l e. e.returns.lens) refl) in
    let g = sum_same _ _ n (each_lane (λ l. FormerSettle.downs_of false l.downs) (λ l. downs_of false l.downs) n ps ls el (downs_same false) (no_downs false)) in
    let o = orders_parts shape x y done ps ls bs one ec el in
    let v = services_same x y ec in
    let u = Folds.count_same _ _ n (each_lane (λ l. unserved_of l.waiting) (λ l. unserved_of l.waiting) n ps ls el (λ p l e. ap unserved_of e.waiting) refl) in
    λ i. r i + g i + 2 * o i + v i + 2 * n * u i

pub bound_of_lem : (t : Former.Store) (s : Store) → Same t s → FormerSettle.bound_of t ≡ bound_of s
bound_of_lem = by_stores (λ t s. FormerSettle.bound_of t ≡ bound_of s) bound_parts

orders_of : (t : Former.Store) (s : Store) → Same t s → FormerSettle.orders_in t ≡ orders_in s
orders_of = by_stores (λ t s. FormerSettle.orders_in t ≡ orders_in s) orders_parts

pub corrupt_of_lem : (t : Former.Store) (s : Store) → Same t s → FormerCorruption.corrupt_of t ≡ corrupt_of s
corrupt_of_lem = by_stores (λ t s. FormerCorruption.corrupt_of t ≡ corrupt_of s) corrupt_same

pub quiet_of_lem : (t : Former.Store) (s : Store) → Same t s → Former.quiet_of t ≡ quiet_of s
quiet_of_lem = by_stores (λ t s. Former.quiet_of t ≡ quiet_of s) quiet_same

-- the store after so many steps of settle
unfoldable pub steps_from : Insertion → ℕ → Store → Store
steps_from ins zero s = s
steps_from ins (suc n) s = steps_from ins n (settle_step ins s).store

-- after some number of steps a queue has three messages
pub record Seen (ins : Insertion) (s : Store) : Type 0 where
  pub steps : ℕ
  pub long : Long (steps_from ins steps s)

-- .. after this step, and after one of those that follow
seen_now : (ins : Insertion) (s : Store) → Long (settle_step ins s).store → Seen ins s
unfolding steps_from
seen_now ins s h = record { steps = 1; long = h }

seen_later : (ins : Insertion) (s : Store) → Seen ins (settle_step ins s).store → Seen ins s
unfolding steps_from
seen_later ins s h = record { steps = suc h.steps; long = h.long }

-- how far two settles are
record SameProgress (p : FormerSettle.Progress) (q : Progress) : Type 0 where
  count : p.count ≡ q.count
  orders : p.orders ≡ q.orders
  completions : p.completions ≡ q.completions
  answer : p.answer ≡ q.answer
  store : Same p.store q.store

-- .. or the one before W6 was refused by 12
abbrev Goes : Insertion → Store → FormerSettle.Progress → Progress → Type 0
Goes ins s p q = ((p.answer ≡ Err QueueFull) × Seen ins s) ⊎ SameProgress p q

-- a settle that was refused goes no further
refused_stays : (ins : Insertion) (n : ℕ) (p : FormerSettle.Progress) → refused_of p.answer ≡ true → FormerSettle.repeat_step ins n p ≡ p
unfolding FormerSettle.repeat_step FormerSettle.ended
refused_stays ins zero p e = refl
refused_stays ins (suc n) p e = rw e

ended_same : (p : FormerSettle.Progress) (q : Progress) → SameProgress p q → FormerSettle.ended p ≡ ended q
unfolding FormerSettle.ended ended
ended_same p q e = let a = e.answer in let b = quiet_of_lem p.store q.store e.store in λ i. refused_of (a i) || b i

advance_same : (ins : Insertion) (p : FormerSettle.Progress) (q : Progress) → SameProgress p q → SameOutcome (FormerSettle.settle_step ins p.store) (settle_step ins q.store) →
    SameProgress (FormerSettle.advance ins p) (advance ins q)
unfolding FormerSettle.advance advance
advance_same ins p q e f = record {
  count = ap suc e.count;
  orders =
      let a = e.orders in
      let b = orders_of p.store q.store e.store in
      let c = orders_of _ _ f.store in
      λ i. a i + (c i - b i);
  completions = let a = e.completions in let b = f.answer in λ i. a i ++ done_in (b i);
  answer = f.answer;
  store = f.store;
}

seen_advance : (ins : Insertion) (q : Progress) → Seen ins (advance ins q).store → Seen ins q.store
unfolding advance
seen_advance ins q h = seen_later ins q.store h

full_ends : (ins : Insertion) (n : ℕ) (p : FormerSettle.Progress) → (FormerSettle.settle_step ins p.store).answer ≡ Err QueueFull →
    (FormerSettle.repeat_step ins n (FormerSettle.advance ins p)).answer ≡ Err QueueFull
unfolding FormerSettle.advance
full_ends ins n p e = ap (λ (r : FormerSettle.Progress). r.answer) (refused_stays ins n (FormerSettle.advance ins p) (ap refused_of e)) ∙ e

repeat_same : (ins : Insertion) (n : ℕ) (p : FormerSettle.Progress) (q : Progress) → SameProgress p q →
    Goes ins q.store (FormerSettle.repeat_step ins n p) (repeat_step ins n q)
unfolding FormerSettle.repeat_step repeat_step
repeat_same ins zero p q e = inr e
repeat_same ins (suc n) p q e =
    both (Goes ins q.store) (FormerSettle.ended p) (ended q) (ended_same p q e) (λ _. inr e)
    (λ _. step (repeat_same ins n (FormerSettle.advance ins p) (advance ins q)) (step_of ins p.store q.store e.store))
  where
    -- where the two settles end, after this step
    before : FormerSettle.Progress
    before = FormerSettle.repeat_step ins n (FormerSettle.advance ins p)

    today : Progress
    today = repeat_step ins n (advance ins q)

    later : Goes ins (advance ins q).store before today → Goes ins q.store before today
    later (inl f) = inl (f.0, seen_advance ins q f.1)
    later (inr f) = inr f

    step : (SameProgress (FormerSettle.advance ins p) (advance ins q) → Goes ins (advance ins q).store before today) →
        SameResult (FormerSettle.settle_step ins p.store) (settle_step ins q.store) → Goes ins q.store before today
    step more (inl f) = inl (full_ends ins n p f.full, seen_now ins q.store f.long)
    step more (inr f) = later (more (advance_same ins p q e f))

-- the same replies and stores, or 12 before W6 and a queue of three messages on the way
abbrev Settles : Insertion → Store → FormerCalls.Called → Called → Type 0
Settles ins s r q = ((full_in r.reply ≡ true) × Seen ins s) ⊎ SameCalled r q

reached_same : (t : Former.Store) (s : Store) (p : FormerSettle.Progress) (q : Progress) → Same t s → SameProgress p q →
    SameCalled (FormerCalls.settled_call (FormerSettle.reached t p)) (settled_call (reached s q))
reached_same t s p q e f =
    both (λ a b. SameCalled (FormerCalls.settled_call a) (settled_call b)) (Former.quiet_of p.store) (quiet_of q.store) (quiet_of_lem p.store q.store f.store)
    (λ _. record { reply = let a = f.count in let o = f.orders in let b = f.completions in λ i. SettledWith (Ok (record { steps = a i; orders = o i })) (b i); store = f.store })
    (λ _. record { reply = refl; store = e })

unless_same : (a : Result Answer Refusal) (t : Former.Store) (s : Store) (r : FormerSettle.Settlement) (q : Settlement) → Same t s → SameCalled (FormerCalls.settled_call r) (settled_call q) →
    SameCalled (FormerCalls.settled_call (FormerSettle.unless_refused a t r)) (settled_call (unless_refused a s q))
unless_same (Ok Answer.Opened) t s r q e f = f
unless_same (Ok (Answer.Done x)) t s r q e f = f
unless_same (Ok Answer.Wait) t s r q e f = f
unless_same (Ok Answer.Step) t s r q e f = f
unless_same (Err n) t s r q e f = record { reply = refl; store = e }

ends_same : (ins : Insertion) (t : Former.Store) (s : Store) (p : FormerSettle.Progress) (q : Progress) → Same t s → Goes ins s p q →
    Settles ins s (FormerCalls.settled_call (FormerSettle.unless_refused p.answer t (FormerSettle.reached t p))) (settled_call (unless_refused q.answer s (reached s q)))
ends_same ins t s p q e (inl f) = inl (ap (λ a. full_in (FormerCalls.settled_call (FormerSettle.unless_refused a t (FormerSettle.reached t p))).reply) f.0, f.1)
ends_same ins t s p q e (inr f) =
    inr (subst (λ (a : Result Answer Refusal). SameCalled (FormerCalls.settled_call (FormerSettle.unless_refused p.answer t (FormerSettle.reached t p))) (settled_call (unless_refused a s (reached s q)))) f.answer
    (unless_same p.answer t s _ _ e (reached_same t s p q e f)))

pub settle_of_lem : (ins : Insertion) (t : Former.Store) (s : Store) → Same t s → Settles ins s (FormerCalls.settled_call (FormerSettle.settle_of ins t)) (settled_call (settle_of ins s))
unfolding FormerSettle.settle_of settle_of
settle_of_lem ins t s e =
    let p : FormerSettle.Progress = record { count = 0; orders = 0; completions = []; answer = Ok Answer.Step; store = t } in
    let q : Progress = record { count = 0; orders = 0; completions = []; answer = Ok Answer.Step; store = s } in
    both (λ a b. Settles ins s (FormerCalls.settled_call a) (settled_call b)) (FormerCorruption.corrupt_of t) (corrupt_of s) (corrupt_of_lem t s e)
    (λ _. inr (record { reply = refl; store = e }))
    (λ _. ends_same ins t s _ _ e
    (subst (λ (n : ℕ). Goes ins s (FormerSettle.repeat_step ins (suc (FormerSettle.bound_of t)) p) (repeat_step ins (suc n) q)) (bound_of_lem t s e)
    (repeat_same ins (suc (FormerSettle.bound_of t)) p q (record { count = refl; orders = refl; completions = refl; answer = refl; store = e }))))
