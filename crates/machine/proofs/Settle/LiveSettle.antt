-- Settle is never refused after any list of calls from an opening, and leaves a quiet store; so every operation begun completes. What
-- it says is in specs/Claims/Completion.antt. Assumes nothing.
use Prim.Native.Nat.{ℕ, suc}
use mathlib.Core.Path.{◌≡◌, refl, ap, ◌∙◌}
use mathlib.Core.Bool.{true, false}
use mathlib.Core.List.{List, [], ◌∷◌, ◌++◌, Memᴰ}
use Rattle.words.specs.declared.Shape.{Shape}
use Rattle.words.proofs.Folds.{or_right}
use Rattle.lanes.specs.UseOrder.{Insertion}
use Rattle.answers.specs.declared.Answer.{Answer}
use Rattle.answers.specs.declared.Answer.TheVariants.{Opened, Done, Wait, Step}
use Rattle.answers.specs.Refusals.{refused_of}
use Rattle.store.specs.declared.Store.{Store}
use Rattle.store.specs.Opening.{open_of}
use Rattle.store.specs.Quiet.{quiet_of}
use Rattle.machine.specs.Machine.Corruption.{corrupt_of}
use Rattle.machine.specs.Machine.Settle.{bound_of, Progress, advance, ended, repeat_step, Settlement, unless_refused, reached, settle_of}
use Rattle.machine.specs.Machine.Calls.{Call, Settle, call_of, run}
use Rattle.machine.specs.Claims.Attribution.{Begun}
use Rattle.machine.specs.Claims.Demand3.{begun, operations}
use Rattle.machine.specs.Claims.Completion.{Settles, AlwaysSettles}
use Rattle.machine.proofs.Bounds.KeepsLane.{clash}
use Rattle.machine.proofs.Settle.FallsSettle.{counts_of, start_at, last_of, last_quiet}
use Rattle.machine.proofs.Store.OrderOfMemory.{order_of_memory}
use Rattle.machine.proofs.Settle.Lively.{Lively, open_lively, step_lively, run_lively}
use Rattle.machine.proofs.Settle.LiveStep.{step_goes}
use Rattle.machine.proofs.Rules.RulesSettle.{repeat_rule}
use Rattle.machine.proofs.List.Joined.{run_more}
use Rattle.std.specs.Prelude.{Result, Ok, Err}
use Rattle.answers.specs.declared.Refusal.{Refusal}

-- an answer that is no refusal
unless_goes : (a : Result Answer Refusal) (s : Store) (r : Settlement) → refused_of a ≡ false → unless_refused a s r ≡ r
unless_goes (Ok Opened) s r e = refl
unless_goes (Ok (Done x)) s r e = refl
unless_goes (Ok Wait) s r e = refl
unless_goes (Ok Step) s r e = refl
unless_goes (Err n) s r e = clash (cc)

-- a settle of which no step is refused
settle_steps : (ins : Insertion) (s : Store) → corrupt_of s ≡ false → refused_of (last_of ins s).answer ≡ false → quiet_of (last_of ins s).store ≡ true →
    settle_of ins s ≡ record { answer = Ok (counts_of (last_of ins s)); completions = (last_of ins s).completions; store = (last_of ins s).store }
unfolding settle_of
settle_steps ins s e h q = rw e (unless_goes (last_of ins s).answer s (reached s (last_of ins s)) h ∙ rw q)

-- no step is refused
repeat_goes : (ins : Insertion) (n : ℕ) (p : Progress) → refused_of p.answer ≡ false → Lively p.store → refused_of (repeat_step ins n p).answer ≡ false
unfolding advance ended
repeat_goes ins n p e l = (repeat_rule ins (λ (r : Progress). (refused_of r.answer ≡ false) × Lively r.store) goes n p (e, l)).0
  where
    goes : (q : Progress) → ended q ≡ false → (refused_of q.answer ≡ false) × Lively q.store → (refused_of (advance ins q).answer ≡ false) × Lively (advance ins q).store
    goes q a (_, l) = (
      step_goes q.store l.flat l.consistent l.live l.spare ins (or_right (refused_of q.answer) (quiet_of q.store) a),
      step_lively ins q.store l,
    )

-- so settle answers with its counts, and the store is then quiet
pub settle_goes : (ins : Insertion) (s : Store) → Lively s → Settles ins s
settle_goes ins s l =
    let e = l.consistent.sound in
    let h = repeat_goes ins (suc (bound_of s)) (start_at s) refl l in
    let q = last_quiet ins s e l.consistent.sized h in
    let z = settle_steps ins s e h q in
    record { counts = counts_of (last_of ins s); answer = ap (λ (r : Settlement). r.answer) z; quiet = ap (λ (r : Settlement). quiet_of r.store) z ∙ q }

-- settle is never refused, and leaves a quiet store
pub always_settles : AlwaysSettles
always_settles ins shape calls e = settle_goes ins (run ins (open_of shape).store calls).store (run_lively ins (open_of shape).store calls (open_lively shape e))

settled_quiet : (ins : Insertion) (shape : Shape) (calls : List Call) → (open_of shape).answer ≡ Ok Opened → quiet_of (run ins (open_of shape).store (calls ++ (Settle ∷ []))).store ≡ true
unfolding run call_of
settled_quiet ins shape calls e = ap quiet_of (run_more ins (open_of shape).store calls (Settle ∷ [])) ∙ (always_settles ins shape calls e).quiet

-- after any list of calls and a settle, every operation begun has completed
pub all_complete : (ins : Insertion) (shape : Shape) (calls : List Call) → (open_of shape).answer ≡ Ok Opened →
    (b : Begun) → Memᴰ b (begun (run ins (open_of shape).store (calls ++ (Settle ∷ []))).history) →
    Memᴰ b (operations (run ins (open_of shape).store (calls ++ (Settle ∷ []))).history)
all_complete ins shape calls e = ((order_of_memory ins shape (calls ++ (Settle ∷ [])) e).when_quiet (settled_quiet ins shape calls e)).all_completed
