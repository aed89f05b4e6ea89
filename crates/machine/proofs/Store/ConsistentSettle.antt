-- Settle keeps a store consistent: it is a list of deliver, return and serve. Assumes nothing.
use Prim.Native.Nat.{ℕ, suc}
use mathlib.Core.Path.{refl}
use mathlib.Core.List.{List, [], ◌∷◌, ◌++◌}
use Rattle.words.specs.declared.LaneNo.{LaneNo}
use Rattle.lanes.specs.UseOrder.{Insertion}
use Rattle.answers.specs.declared.Completion.{Completion}
use Rattle.answers.specs.Completions.{done_in}
use Rattle.store.specs.declared.Store.{Store}
use Rattle.store.specs.declared.Outcome.{Outcome}
use Rattle.machine.specs.Machine.Serve.{serve_of}
use Rattle.machine.specs.Machine.Return.{return_of}
use Rattle.machine.specs.Machine.Deliver.{deliver_of}
use Rattle.machine.specs.Machine.Settle.{settle_step, bound_of, Progress, advance, repeat_step, Settlement, settle_of, lane}
use Rattle.machine.specs.Machine.Calls.{SettledWith, completions_of}
use Rattle.machine.proofs.Bounds.Sound.{sound}
use Rattle.machine.proofs.Bounds.Keeps.{serve_keeps, return_keeps, deliver_keeps}
use Rattle.machine.proofs.List.Owes.{Pending, Rests, upd, fed, Completes}
use Rattle.machine.specs.Claims.Flat.{flat_after}
use Rattle.machine.proofs.Bounds.SizedKeeps.{serve_sized, return_sized, deliver_sized, sized_whole}
use Rattle.machine.proofs.Settle.FallsSettle.{start_at, settle_rule}
use Rattle.machine.proofs.Store.Consistent.{Consistent, pending_in}
use Rattle.machine.proofs.Store.ConsistentServe.{serve_consistent}
use Rattle.machine.proofs.Store.ConsistentReturn.{return_consistent}
use Rattle.machine.proofs.Store.ConsistentDeliver.{deliver_consistent}
use Rattle.machine.proofs.Rules.RulesSettle.{step_rule, repeat_rule}

-- completions xs lead from the store s with flat memory f to a consistent store t
abbrev pub Leads : Store → List ℕ → List Completion → Store → Type 0
Leads s f xs t = (g : List ℕ) × Consistent t g × Completes (pending_in s) f xs (pending_in t) g

pub serve_leads : (s : Store) (f : List ℕ) (k : LaneNo) → Consistent s f → Leads s f (done_in (serve_of s k).answer) (serve_of s k).store
serve_leads s f k i =
    let r = serve_consistent s f k i in
    (r.flat, record { sound = serve_keeps s k i.sound; sized = serve_sized s k i.sized; unique = r.unique; block = r.block }, r.completes)

pub return_leads : (s : Store) (f : List ℕ) (k : LaneNo) → Consistent s f → Leads s f (done_in (return_of s k).answer) (return_of s k).store
return_leads s f k i =
    let r = return_consistent s f k i in
    (r.flat, record { sound = return_keeps s k i.sound; sized = return_sized s k i.sized; unique = r.unique; block = r.block }, r.completes)

pub deliver_leads : (ins : Insertion) (s : Store) (f : List ℕ) (k : LaneNo) → Consistent s f → Leads s f (done_in (deliver_of ins s k).answer) (deliver_of ins s k).store
deliver_leads ins s f k i =
    let r = deliver_consistent ins s f k i in
    let w = sized_whole s (sound s i.sound).n_high i.sized in
    (r.flat, record { sound = deliver_keeps ins s k i.sound w; sized = deliver_sized ins s k i.sized; unique = r.unique; block = r.block }, r.completes)

pub step_leads : (ins : Insertion) (s : Store) (f : List ℕ) → Consistent s f → Leads s f (done_in (settle_step ins s).answer) (settle_step ins s).store
step_leads ins s f i =
    step_rule ins (λ (r : Outcome). Leads s f (done_in r.answer) r.store) s (λ k _ _. deliver_leads ins s f (lane k) i) (λ _ k _ _. return_leads s f (lane k) i)
    (λ _ _ k _ _. serve_leads s f (lane k) i) (λ _ _ _. (f, i, (refl, refl)))

-- completions after completions
completes_more : (p : ℕ → Pending) (f : List ℕ) (xs ys : List Completion) (q r : ℕ → Pending) (g h : List ℕ) → Completes p f xs q g → Completes q g ys r h → Completes p f (xs ++ ys) r h
completes_more p f [] ys q r g h a b = rw (← a.0, ← a.1) b
completes_more p f (x ∷ xs) ys q r g h a b = (a.0, a.1, a.2, a.3, completes_more (upd p x.lane.0 Rests) (flat_after f (fed a.0 a.1)) xs ys q r g h a.4 b)

advance_leads : (ins : Insertion) (s : Store) (f : List ℕ) (p : Progress) → Leads s f p.completions p.store → Leads s f (advance ins p).completions (advance ins p).store
unfolding advance
advance_leads ins s f p l =
    let r = step_leads ins p.store l.0 l.1 in
    (r.0, r.1, completes_more (pending_in s) f p.completions (done_in (settle_step ins p.store).answer) (pending_in p.store) (pending_in (settle_step ins p.store).store) l.0 r.0 l.2 r.2)

repeat_leads : (ins : Insertion) (n : ℕ) (s : Store) (f : List ℕ) (p : Progress) → Leads s f p.completions p.store → Leads s f (repeat_step ins n p).completions (repeat_step ins n p).store
repeat_leads ins n s f p l = repeat_rule ins (λ (r : Progress). Leads s f r.completions r.store) (λ q _. advance_leads ins s f q) n p l

pub settle_leads : (ins : Insertion) (s : Store) (f : List ℕ) → Consistent s f →
    Leads s f (completions_of (SettledWith (settle_of ins s).answer (settle_of ins s).completions)) (settle_of ins s).store
settle_leads ins s f i =
    settle_rule ins (λ (r : Settlement). Leads s f (completions_of (SettledWith r.answer r.completions)) r.store) s (λ r. (f, i, (refl, refl)))
    (λ _ _ _. repeat_leads ins (suc (bound_of s)) s f (start_at s) (f, i, (refl, refl)))
