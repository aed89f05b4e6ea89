-- 01, "Settle"; 02, W8: its count is exact, so at most the bound, and its completions are at most the operations that wait. The definition repeats
-- often enough: more repetitions change nothing. Assumes nothing.
use Prim.Native.Nat.{ℕ, zero, suc, ◌+◌, ◌-◌, ◌*◌, ◌<◌, ◌≤◌}
use mathlib.Core.Path.{◌≡◌, refl, sym, ap, ◌∙◌}
use mathlib.Core.Bool.{true, false, ◌||◌, true≢false}
use mathlib.Core.List.{[]}
use lib.ListN.{length, length-append}
use native.Mathlib.Omega.{arith}
use Rattle.words.proofs.Folds.{pick}
use Rattle.lanes.specs.UseOrder.{Insertion}
use Rattle.answers.specs.declared.Answer.{Answer}
use Rattle.answers.specs.declared.Answer.TheVariants.{Opened, Done, Wait, Step}
use Rattle.answers.specs.declared.Refusal.{Refusal}
use Rattle.answers.specs.declared.Refusal.TheVariants.{Corrupt, Unexpected}
use Rattle.answers.specs.Refusals.{refused_of}
use Rattle.answers.specs.Completions.{done_in}
use Rattle.store.specs.declared.Store.{Store}
use Rattle.machine.specs.Machine.Begun.{waiting_in}
use Rattle.store.specs.Quiet.{quiet_of}
use Rattle.machine.specs.declared.SettleCounts.{SettleCounts}
use Rattle.machine.specs.Machine.Corruption.{corrupt_of}
use Rattle.machine.specs.Claims.Potential.{tally_of, potential_of}
use Rattle.machine.specs.Claims.Completion.{Exact, SettleExact, SettleBound}
use Rattle.machine.specs.Machine.Settle.{Progress, settle_step, unserved_in, bound_of, exact_of, advance, ended, repeat_step, Settlement, refuse_settle, reached, unless_refused, settle_of}
use Rattle.machine.specs.Machine.Sized.{Sized}
use Rattle.machine.proofs.Laws.Tests.{on}
use Rattle.machine.proofs.Bounds.Sound.{sound}
use Rattle.machine.proofs.Bounds.KeepsLane.{clash}
use Rattle.machine.proofs.Bounds.KeepsRepeat.{settle_step_keeps}
use Rattle.machine.proofs.Bounds.SizedKeeps.{settle_step_sized, sized_whole}
use Rattle.machine.proofs.Settle.FallsStore.{quiet_tally}
use Rattle.machine.proofs.Settle.Falls.{orders_left, step_falls, settle_falls, settle_completes}
use Rattle.std.specs.Prelude.{Result, Ok, Err}

-- where settle starts
abbrev pub start_at : Store → Progress
start_at s = record { count = 0; orders = 0; completions = []; answer = Ok Step; store = s }

-- a settle of no steps; one that has ended goes no further; one that has not takes a step
pub repeat_none : (ins : Insertion) (p : Progress) → repeat_step ins zero p ≡ p
unfolding repeat_step
repeat_none ins p = refl

pub repeat_ended : (ins : Insertion) (f : ℕ) (p : Progress) → ended p ≡ true → repeat_step ins f p ≡ p
unfolding repeat_step
repeat_ended ins zero p e = refl
repeat_ended ins (suc f) p e = rw e

pub repeat_more : (ins : Insertion) (f : ℕ) (p : Progress) → ended p ≡ false → repeat_step ins (suc f) p ≡ repeat_step ins f (advance ins p)
unfolding repeat_step
repeat_more ins f p e = rw e

-- a refused step ends it
refused_ended : (p : Progress) → refused_of p.answer ≡ true → ended p ≡ true
unfolding ended
refused_ended p e = rw e

-- what holds of a settle before a step and of it later: the store stays so, each step costs 1 of the potential, to which each order queued adds 2,
-- the orders are no more than the operations served can send, and each completion is of an operation that waited
pub record Onward (p q : Progress) : Type 0 where
  pub not_corrupt : corrupt_of q.store ≡ false
  pub sized : Sized q.store
  pub exact : q.count + potential_of q.store + 2 * p.orders ≡ p.count + potential_of p.store + 2 * q.orders
  pub sent : q.orders + orders_left q.store ≤ p.orders + orders_left p.store
  pub listed : length q.completions + waiting_in q.store ≡ length p.completions + waiting_in p.store

same_onward : (p : Progress) → corrupt_of p.store ≡ false → Sized p.store → Onward p p
same_onward p e g = record { not_corrupt = e; sized = g; exact = refl; sent = omega arith; listed = refl }

-- a step that is not refused
pub advance_onward : (ins : Insertion) (p : Progress) → corrupt_of p.store ≡ false → Sized p.store → refused_of (advance ins p).answer ≡ false → Onward p (advance ins p)
unfolding advance
advance_onward ins p e g h =
    let a = step_falls ins p.store e g h in
    let d = a.potential in
    let f = a.orders in
    let b = settle_completes ins p.store g in
    let c = length-append p.completions (done_in (settle_step ins p.store).answer) in
    record {
      not_corrupt = settle_step_keeps ins p.store e (sized_whole p.store (sound p.store e).n_high g);
      sized = settle_step_sized ins p.store g;
      exact = omega arith;
      sent = omega arith;
      listed = omega arith;
    }

advance_falls : (ins : Insertion) (p : Progress) → corrupt_of p.store ≡ false → Sized p.store → refused_of (advance ins p).answer ≡ false →
    bound_of (advance ins p).store < bound_of p.store
unfolding advance
advance_falls ins p e g h = settle_falls ins p.store e g h

-- more steps than the bound are enough: it has ended, refused or quiet
pub repeat_enough : (ins : Insertion) (f : ℕ) (p : Progress) → corrupt_of p.store ≡ false → Sized p.store → bound_of p.store < f → ended (repeat_step ins f p) ≡ true
repeat_enough ins zero p e g h = absurd (omega arith)
repeat_enough ins (suc f) p e g h = on (ended p) (λ q. rw (repeat_ended ins (suc f) p q) q) (λ q. rw (repeat_more ins f p q) (next (λ a b c. repeat_enough ins f (advance ins p) a b c)))
  where
    next : (corrupt_of (advance ins p).store ≡ false → Sized (advance ins p).store → bound_of (advance ins p).store < f → ended (repeat_step ins f (advance ins p)) ≡ true) →
        ended (repeat_step ins f (advance ins p)) ≡ true
    next r =
        on (refused_of (advance ins p).answer)
        (λ o. let z = refused_ended (advance ins p) o in rw (repeat_ended ins f (advance ins p) z) z)
        (λ o.
        let a = advance_onward ins p e g o in
        let b = advance_falls ins p e g o in
        r a.not_corrupt a.sized (omega arith))

pub repeat_ends : (ins : Insertion) (s : Store) → corrupt_of s ≡ false → Sized s → ended (repeat_step ins (suc (bound_of s)) (start_at s)) ≡ true
repeat_ends ins s e g = repeat_enough ins (suc (bound_of s)) (start_at s) e g (omega arith)

-- any two such numbers give the same
pub repeat_same : (ins : Insertion) (f g : ℕ) (p : Progress) → corrupt_of p.store ≡ false → Sized p.store → bound_of p.store < f → bound_of p.store < g →
    repeat_step ins f p ≡ repeat_step ins g p
repeat_same ins zero g p e z h l = absurd (omega arith)
repeat_same ins (suc f) zero p e z h l = absurd (omega arith)
repeat_same ins (suc f) (suc g) p e z h l =
    on (ended p) (λ q. repeat_ended ins (suc f) p q ∙ sym (repeat_ended ins (suc g) p q))
    (λ q. repeat_more ins f p q ∙ next (λ a b c d. repeat_same ins f g (advance ins p) a b c d) ∙ sym (repeat_more ins g p q))
  where
    next : (corrupt_of (advance ins p).store ≡ false → Sized (advance ins p).store → bound_of (advance ins p).store < f → bound_of (advance ins p).store < g →
        repeat_step ins f (advance ins p) ≡ repeat_step ins g (advance ins p)) → repeat_step ins f (advance ins p) ≡ repeat_step ins g (advance ins p)
    next r =
        on (refused_of (advance ins p).answer)
        (λ o. let y = refused_ended (advance ins p) o in repeat_ended ins f (advance ins p) y ∙ sym (repeat_ended ins g (advance ins p) y))
        (λ o.
        let a = advance_onward ins p e z o in
        let b = advance_falls ins p e z o in
        r a.not_corrupt a.sized (omega arith) (omega arith))

-- a settle of which no step is refused
pub repeat_onward : (ins : Insertion) (f : ℕ) (p : Progress) → corrupt_of p.store ≡ false → Sized p.store → refused_of (repeat_step ins f p).answer ≡ false → Onward p (repeat_step ins f p)
repeat_onward ins zero p e g h = rw (repeat_none ins p) (same_onward p e g)
repeat_onward ins (suc f) p e g h =
    on (ended p) (λ q. rw (repeat_ended ins (suc f) p q) (same_onward p e g))
    (λ q. rw (repeat_more ins f p q) (next (rw (repeat_more ins f p q) at h) (λ a b c. repeat_onward ins f (advance ins p) a b c)))
  where
    next : refused_of (repeat_step ins f (advance ins p)).answer ≡ false →
        (corrupt_of (advance ins p).store ≡ false → Sized (advance ins p).store → refused_of (repeat_step ins f (advance ins p)).answer ≡ false → Onward (advance ins p) (repeat_step ins f (advance ins p))) →
        Onward p (repeat_step ins f (advance ins p))
    next d r =
        on (refused_of (advance ins p).answer)
        (λ o. let y = refused_ended (advance ins p) o in absurd (true≢false (sym o ∙ (rw (repeat_ended ins f (advance ins p) y) at d))))
        (λ o.
        let a = advance_onward ins p e g o in
        let b = r a.not_corrupt a.sized d in
        let c = a.sent in
        let i = b.sent in
        let j = a.exact in
        let k = b.exact in
        record { not_corrupt = b.not_corrupt; sized = b.sized; exact = omega arith; sent = omega arith; listed = b.listed ∙ a.listed })

-- what a settle that has ended counts
abbrev pub counts_of : Progress → SettleCounts
counts_of p = record { steps = p.count; orders = p.orders }

-- where the whole settle ends
abbrev pub last_of : Insertion → Store → Progress
last_of ins s = repeat_step ins (suc (bound_of s)) (start_at s)

-- .. is refused or quiet, so the definition's last case is never met
pub last_quiet : (ins : Insertion) (s : Store) → corrupt_of s ≡ false → Sized s → refused_of (last_of ins s).answer ≡ false → quiet_of (last_of ins s).store ≡ true
unfolding ended
last_quiet ins s e g h = sym (ap (λ b. b || quiet_of (last_of ins s).store) h) ∙ repeat_ends ins s e g

-- the whole settle: it is refused, or no step was and the store is quiet
pub settle_rule : (ins : Insertion) (P : Settlement → Type 0) (s : Store) → ((r : Refusal) → P (refuse_settle r s)) →
    (corrupt_of s ≡ false → refused_of (last_of ins s).answer ≡ false → quiet_of (last_of ins s).store ≡ true →
    P (record { answer = Ok (counts_of (last_of ins s)); completions = (last_of ins s).completions; store = (last_of ins s).store })) → P (settle_of ins s)
unfolding settle_of
settle_rule ins P s refused settled =
    pick P (corrupt_of s) (refuse_settle Corrupt s) _ (λ _. refused Corrupt) (λ e. go e (last_of ins s).answer refl)
  where
    quiet : corrupt_of s ≡ false → refused_of (last_of ins s).answer ≡ false → P (reached s (last_of ins s))
    quiet e h = pick P (quiet_of (last_of ins s).store) _ (refuse_settle Unexpected s) (λ q. settled e h q) (λ _. refused Unexpected)

    go : corrupt_of s ≡ false → (a : Result Answer Refusal) → (last_of ins s).answer ≡ a → P (unless_refused a s (reached s (last_of ins s)))
    go e (Ok Opened) q = quiet e (ap refused_of q)
    go e (Ok (Done x)) q = quiet e (ap refused_of q)
    go e (Ok Wait) q = quiet e (ap refused_of q)
    go e (Ok Step) q = quiet e (ap refused_of q)
    go e (Err n) q = refused n

-- the exact count of a settle that sends so many orders
exact_potential : (s : Store) (orders : ℕ) → exact_of s orders ≡ potential_of s + 2 * orders
unfolding exact_of tally_of
exact_potential s orders = refl

-- the bound has 2 × (n − 1) more than the potential for each unserved operation
pub bound_more : (s : Store) → corrupt_of s ≡ false → bound_of s ≡ potential_of s + 2 * orders_left s
unfolding bound_of tally_of
bound_more s e =
    let h = (sound s e).n_low in
    let n : s.shape.n ≡ s.shape.n - 1 + 1 = omega arith in
    let b = ap (λ (k : ℕ). 2 * k * unserved_in s) n in
    omega arith

-- 02, W8: the count is R + G + 2Q + S + 2U + 2O, and O is at most (n − 1) × U, for every settle that isn't refused
pub settle_exact : SettleExact
settle_exact ins s g =
    settle_rule ins (λ (r : Settlement). (counts : SettleCounts) → r.answer ≡ Ok counts → Exact s counts) s (λ r counts e. clash (cc))
    (λ c h q counts e. let b : counts_of (last_of ins s) ≡ counts = cc in rw (← b) (last c h q))
  where
    last : corrupt_of s ≡ false → refused_of (last_of ins s).answer ≡ false → quiet_of (last_of ins s).store ≡ true → Exact s (counts_of (last_of ins s))
    last c h q =
        let a = repeat_onward ins (suc (bound_of s)) (start_at s) c g h in
        let x = a.exact in
        let z = quiet_tally 2 (last_of ins s).store q in
        let y = exact_potential s (last_of ins s).orders in
        let w = a.sent in
        record { steps = omega arith; orders = omega arith }

-- 01: so it is at most R + G + 2Q + S + 2nU
pub settle_count : SettleBound
settle_count ins s g counts e =
    let a = settle_exact ins s g counts e in
    let b = a.steps in
    let c = a.orders in
    let d = exact_potential s counts.orders in
    let m = bound_more s (settle_rule ins (λ (r : Settlement). r.answer ≡ Ok counts → corrupt_of s ≡ false) s (λ r x. clash (cc)) (λ x _ _ _. x) e) in
    omega arith
