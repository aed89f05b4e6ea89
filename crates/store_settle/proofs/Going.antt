-- Settle's loop: what holds at its test, and what a step, a refusal and a quiet store make of it. Assumes nothing.
use Prim.Native.Nat.{ℕ, suc, ◌+◌, ◌-◌, ◌*◌, ◌<◌, ◌≤◌}
use native.Mathlib.Omega.{arith}
use native.Mathlib.Numerals.{add-one}
use mathlib.Core.Bool.{true, false, true≢false}
use mathlib.Core.Path.{◌≡◌, refl, sym, ap, subst, ◌∙◌}
use mathlib.Core.List.{List, [], ◌∷◌, ◌++◌, append_assoc, append-nil}
use lib.ListN.{length, set, replicate, length-append}
use lib.Seq.{set-append_seam}
use Rattle.lanes.specs.UseOrder.{LoadsOldest}
use Rattle.answers.specs.declared.Answer.{Answer}
use Rattle.answers.specs.declared.Answer.TheVariants.{Opened, Done, Wait, Step}
use Rattle.answers.specs.declared.Completion.{Completion}
use Rattle.answers.specs.Completions.{completion_of, done_in}
use Rattle.answers.specs.Refusals.{refused_of}
use Rattle.store.specs.declared.Store.{Store}
use Rattle.store.specs.declared.Outcome.{Outcome}
use Rattle.store.specs.Quiet.{quiet_of}
use Rattle.machine.specs.Machine.Corruption.{corrupt_of}
use Rattle.machine.specs.Claims.Potential.{potential_of}
use Rattle.machine.specs.Machine.Settle.{settle_step, orders_queued, bound_of, Progress, ended, advance, repeat_step, Settlement, refuse_settle, reached, unless_refused, settle_of}
use Rattle.machine.specs.Machine.Sized.{Sized}
use Rattle.machine.specs.Machine.Begun.{waiting_in}
use Rattle.machine.proofs.Settle.Falls.{settle_falls, settle_completes, bound_most, waiting_most}
use Rattle.machine.proofs.Settle.FallsSettle.{advance_onward, repeat_ended, repeat_more, bound_more, settle_exact, settle_count}
use Rattle.store_settle_step.specs.declared.TakenStep.{TakenStep}
use Rattle.store_settle_step.specs.Kinds.{taken_of}
use Rattle.store_settle.specs.declared.Completions.{Completions}
use Rattle.store_settle.specs.declared.SettleOutcome.{SettleOutcome}
use Rattle.store_settle.specs.Settles.{padded, array_of, outcome_of, Counted, listed_of}
use Rattle.std.specs.Prelude.{Result, Ok, Err}
use Rattle.answers.specs.declared.Refusal.{Refusal}
use Rattle.machine.specs.declared.SettleCounts.{SettleCounts}

-- ---- the completions in their array
-- the first element that is not used takes one completion more
padded_more : (cs : List Completion) (x : Completion) → length cs < 8 → set (padded cs) (length cs) x ≡ padded (cs ++ (x ∷ []))
padded_more cs x h =
    let z = completion_of (record { 0 = 0 }) 0 0 in
    let l = length-append cs (x ∷ []) in
    let e : 8 - length cs ≡ suc (8 - length (cs ++ (x ∷ []))) = omega arith in
    let rest = replicate (8 - length (cs ++ (x ∷ []))) z in
    ap (λ n. set (cs ++ replicate n z) (length cs) x) e ∙ (set-append_seam cs z rest x ∙ sym (append_assoc cs (x ∷ []) rest))

-- the completion of an answer goes behind the others, if there is room for it
list_adds : (cs : List Completion) (a : Result Answer Refusal) → length (done_in a) + length cs ≤ 8 → listed_of (array_of cs) a ≡ array_of (cs ++ done_in a)
list_adds cs (Ok Opened) h = ap array_of (sym (append-nil cs))
list_adds cs (Ok (Done x)) h = rw (padded_more cs x (omega arith), length-append cs (x ∷ []))
list_adds cs (Ok Wait) h = ap array_of (sym (append-nil cs))
list_adds cs (Ok Step) h = ap array_of (sym (append-nil cs))
list_adds cs (Err r) h = ap array_of (sym (append-nil cs))

-- ---- where settle ends
passes : (a : Result Answer Refusal) (s : Store) (r : Settlement) → refused_of a ≡ false → unless_refused a s r ≡ r
passes (Ok Opened) s r e = refl
passes (Ok (Done x)) s r e = refl
passes (Ok Wait) s r e = refl
passes (Ok Step) s r e = refl
passes (Err x) s r e = absurd (true≢false e)

-- what a step answered and queued that was taken, and what one answered that was refused
pub taken : (s : Store) (q : Outcome) (x : TakenStep) → Ok x ≡ taken_of s q → (q.answer ≡ Ok x.answer) × (orders_queued s q.store ≡ x.orders)
taken s q x e = go q.answer refl
  where
    go : (a : Result Answer Refusal) → q.answer ≡ a → (q.answer ≡ Ok x.answer) × (orders_queued s q.store ≡ x.orders)
    go (Ok b) p =
        let f : ◌≡◌ {A = Result TakenStep Refusal} (Ok x) (Ok (record { answer = b; orders = orders_queued s q.store })) = rw p at e in
        let g : x ≡ record { answer = b; orders = orders_queued s q.store } = cc in
        (p ∙ ap (λ (y : TakenStep). Ok y.answer) (sym g), ap (λ (y : TakenStep). y.orders) (sym g))
    go (Err m) p = let f = rw p at e in absurd cc

pub refused : (s : Store) (q : Outcome) (x : Refusal) → Err x ≡ taken_of s q → q.answer ≡ Err x
refused s q x e = go q.answer refl
  where
    go : (a : Result Answer Refusal) → q.answer ≡ a → q.answer ≡ Err x
    go (Ok b) p = let f = rw p at e in absurd cc
    go (Err m) p =
        let f : ◌≡◌ {A = Result TakenStep Refusal} (Err x) (Err m) = rw p at e in
        let g : x ≡ m = cc in
        p ∙ ap Err (sym g)

-- what settle gives of the store before it and the progress that it ends with
abbrev ends_with : Store → Progress → Settlement
ends_with s p = unless_refused p.answer s (reached s p)

-- the progress after some steps
abbrev after : ℕ → ℕ → List Completion → Result Answer Refusal → Store → Progress
after count orders cs a s = record { count = count; orders = orders; completions = cs; answer = a; store = s }

-- count steps have led from the first store to s with the completions d and queued so many orders; none was refused, and what is left of the
-- settle is the same
pub record Going (first s : Store) (d : Completions) (count orders : ℕ) : Type 0 where
  pub sound : corrupt_of s ≡ false
  pub sized : Sized s
  pub bounded : count + bound_of s ≤ bound_of first
  pub exact : count + potential_of s ≡ potential_of first + 2 * orders
  pub completed : List Completion
  pub listed : d ≡ array_of completed
  pub fits : length completed + waiting_in s ≤ 8
  pub answer : Result Answer Refusal
  pub passed : refused_of answer ≡ false
  pub same : settle_of LoadsOldest first ≡ ends_with first (repeat_step LoadsOldest (suc (bound_of first - count)) (after count orders completed answer s))

pub going_start : (s : Store) → corrupt_of s ≡ false → Sized s → Going s s (array_of []) 0 0
unfolding settle_of
going_start s e g =
    let w = waiting_most s e in
    let z : bound_of s - 0 ≡ bound_of s = omega arith in
    record { sound = e; sized = g; bounded = omega arith; exact = omega arith; completed = []; listed = refl; fits = omega arith; answer = Ok Step; passed = refl; same = rw (e, z) }

-- what a settle of so many steps and orders answers
abbrev pub steps_of : ℕ → ℕ → Result SettleCounts Refusal
steps_of count orders = Ok (record { steps = count; orders = orders })

module _ (first s : Store) (d : Completions) (count orders : ℕ) (g : Going first s d count orders) where
  -- the store is quiet
  pub going_quiet : quiet_of s ≡ true → record { answer = steps_of count orders; completions = d; store = s } ≡ outcome_of (settle_of LoadsOldest first)
  unfolding ended
  going_quiet q =
      let p = after count orders g.completed g.answer s in
      let e : ended p ≡ true = rw (g.passed, q) in
      let f : settle_of LoadsOldest first ≡ record { answer = steps_of count orders; completions = g.completed; store = s } =
      g.same ∙ rw (repeat_ended LoadsOldest (suc (bound_of first - count)) p e, passes g.answer first (reached first p) g.passed, q) in
      rw (f, g.listed)

  -- .. with the counts that 01 and 02 give
  pub going_counted : Sized first → quiet_of s ≡ true → Counted first (steps_of count orders)
  going_counted z q =
      let e = sym (ap (λ (o : SettleOutcome). o.answer) (going_quiet q)) in
      ((settle_exact LoadsOldest first z _ e).steps, settle_count LoadsOldest first z _ e)

  -- the counts are small
  pub going_small : corrupt_of first ≡ false → (count ≤ 328) × (orders ≤ 164)
  going_small e =
      let a = g.bounded in
      let b = g.exact in
      let m = bound_most first e in
      let n = bound_more s g.sound in
      (omega arith, omega arith)

  -- there is room for the completion of a step
  pub going_fits : length (done_in (settle_step LoadsOldest s).answer) + d.len ≤ 8
  going_fits =
      let c = settle_completes LoadsOldest s g.sized in
      let f = g.fits in
      rw g.listed (omega arith)

  module _ (q : quiet_of s ≡ false) where
    -- one step is taken
    steps : settle_of LoadsOldest first ≡ ends_with first (repeat_step LoadsOldest (bound_of first - count) (advance LoadsOldest (after count orders g.completed g.answer s)))
    unfolding ended
    steps =
        let p = after count orders g.completed g.answer s in
        let e : ended p ≡ false = rw (g.passed, q) in
        g.same ∙ ap (ends_with first) (repeat_more LoadsOldest (bound_of first - count) p e)

    -- it is refused
    pub going_refused : (x : Refusal) → (settle_step LoadsOldest s).answer ≡ Err x → settle_of LoadsOldest first ≡ refuse_settle x first
    unfolding ended advance
    going_refused x a =
        let p = advance LoadsOldest (after count orders g.completed g.answer s) in
        let e : ended p ≡ true = rw a in
        steps ∙ (ap (ends_with first) (repeat_ended LoadsOldest (bound_of first - count) p e) ∙ ap (λ b. unless_refused b first (reached first p)) a)

    -- it is not
    pub going_next : refused_of (settle_step LoadsOldest s).answer ≡ false →
        Going first (settle_step LoadsOldest s).store (listed_of d (settle_step LoadsOldest s).answer) (count + 1) (orders + orders_queued s (settle_step LoadsOldest s).store)
    unfolding advance
    going_next x =
        let a = advance_onward LoadsOldest (after count orders g.completed g.answer s) g.sound g.sized x in
        let c = a.listed in
        let e = a.exact in
        let f = g.fits in
        let b = g.bounded in
        let p = g.exact in
        let m = settle_falls LoadsOldest s g.sound g.sized x in
        let l = length-append g.completed (done_in (settle_step LoadsOldest s).answer) in
        let h : length (done_in (settle_step LoadsOldest s).answer) + length g.completed ≤ 8 = omega arith in
        let z : bound_of first - count ≡ suc (bound_of first - (count + 1)) = omega arith in
        record {
          sound = a.not_corrupt;
          sized = a.sized;
          bounded = omega arith;
          exact = omega arith;
          completed = g.completed ++ done_in (settle_step LoadsOldest s).answer;
          listed = rw g.listed (list_adds g.completed (settle_step LoadsOldest s).answer h);
          fits = omega arith;
          answer = (settle_step LoadsOldest s).answer;
          passed = x;
          same = steps ∙ rw (z, add-one);
        }

    -- the step is what the code took
    pub going_taken : (x : TakenStep) → Ok x ≡ taken_of s (settle_step LoadsOldest s) →
        Going first (settle_step LoadsOldest s).store (listed_of d (Ok x.answer)) (count + 1) (orders + x.orders)
    going_taken x e =
        let r = settle_step LoadsOldest s in
        let t = taken s r x e in
        subst (λ (a : Result Answer Refusal). Going first r.store (listed_of d a) (count + 1) (orders + x.orders)) t.0
        (subst (λ (n : ℕ). Going first r.store (listed_of d r.answer) (count + 1) (orders + n)) t.1 (going_next (ap refused_of t.0)))

  -- .. which has room, and less to do after it
  pub taken_fits : (x : TakenStep) → Ok x ≡ taken_of s (settle_step LoadsOldest s) → length (done_in (Ok x.answer)) + d.len ≤ 8
  taken_fits x e = subst (λ (a : Result Answer Refusal). length (done_in a) + d.len ≤ 8) (taken s (settle_step LoadsOldest s) x e).0 going_fits

  pub taken_falls : (x : TakenStep) → Ok x ≡ taken_of s (settle_step LoadsOldest s) → bound_of (settle_step LoadsOldest s).store < bound_of s
  taken_falls x e = let t = taken s (settle_step LoadsOldest s) x e in settle_falls LoadsOldest s g.sound g.sized (ap refused_of t.0)
