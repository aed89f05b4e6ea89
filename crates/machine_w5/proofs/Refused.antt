-- After a refused opening the store is the blank one, before W6 and today: every call is refused by 14. Assumes nothing.
use mathlib.Core.Path.{◌≡◌, refl, sym, ap, ◌∙◌}
use mathlib.Core.Bool.{true}
use mathlib.Core.List.{List, [], ◌∷◌}
use Rattle.words.specs.declared.Shape.{Shape}
use Rattle.words.specs.Folds.{any_of}
use Rattle.lanes.specs.UseOrder.{Insertion}
use Rattle.answers.specs.declared.Refusal.TheVariants.{Corrupt}
use Rattle.store.specs.declared.Store.{Store}
use Rattle.store.specs.Opening.{bad_shape, fresh_of, blank_store, open_of}
use Rattle.machine.specs.Machine.Corruption.{corrupt_of}
use Rattle.machine.specs.Machine.Begin.{begin_of}
use Rattle.machine.specs.Machine.Serve.{serve_of}
use Rattle.machine.specs.Machine.Return.{return_of}
use Rattle.machine.specs.Machine.Deliver.{deliver_of}
use Rattle.machine.specs.Machine.Settle.{settle_of}
use Rattle.machine.specs.Machine.Calls.{Call, Begin, Serve, Return, Deliver, Settle, Reply, Answers, SettledWith, call_of, run, history_of}
use Rattle.machine_w5.specs.Stores as Former
use Rattle.machine_w5.specs.Corruption as FormerCorruption
use Rattle.machine_w5.specs.Steps as FormerSteps
use Rattle.machine_w5.specs.Settle as FormerSettle
use Rattle.machine_w5.specs.Calls as FormerCalls
use Rattle.std.specs.Prelude.{Err}

-- 14, as the reply of a call
abbrev corrupt_reply : Call → Reply
corrupt_reply (Begin k op w) = Answers (Err Corrupt)
corrupt_reply (Serve k) = Answers (Err Corrupt)
corrupt_reply (Return k) = Answers (Err Corrupt)
corrupt_reply (Deliver k) = Answers (Err Corrupt)
corrupt_reply Settle = SettledWith (Err Corrupt) []

former_corrupt : (ins : Insertion) (t : Former.Store) (x : Call) → FormerCorruption.corrupt_of t ≡ true → FormerCalls.call_of ins t x ≡ record { reply = corrupt_reply x; store = t }
unfolding FormerCalls.call_of FormerSteps.begin_of FormerSteps.serve_of FormerSteps.return_of FormerSteps.deliver_of FormerSettle.settle_of
former_corrupt ins t (Begin k op w) e = rw e
former_corrupt ins t (Serve k) e = rw e
former_corrupt ins t (Return k) e = rw e
former_corrupt ins t (Deliver k) e = rw e
former_corrupt ins t Settle e = rw e

today_corrupt : (ins : Insertion) (s : Store) (x : Call) → corrupt_of s ≡ true → call_of ins s x ≡ record { reply = corrupt_reply x; store = s }
unfolding call_of begin_of serve_of return_of deliver_of settle_of
today_corrupt ins s (Begin k op w) e = rw e
today_corrupt ins s (Serve k) e = rw e
today_corrupt ins s (Return k) e = rw e
today_corrupt ins s (Deliver k) e = rw e
today_corrupt ins s Settle e = rw e

corrupt_run : (ins : Insertion) (t : Former.Store) (s : Store) (xs : List Call) → FormerCorruption.corrupt_of t ≡ true → corrupt_of s ≡ true →
    (FormerCalls.run ins t xs).history ≡ (run ins s xs).history
unfolding FormerCalls.run run
corrupt_run ins t s [] e f = refl
corrupt_run ins t s (x ∷ xs) e f = rw (former_corrupt ins t x e, today_corrupt ins s x f, corrupt_run ins t s xs e f)

former_blank : FormerCorruption.corrupt_of Former.blank_store ≡ true
unfolding FormerCorruption.corrupt_of Former.fresh_of bad_shape any_of
former_blank = refl

today_blank : corrupt_of blank_store ≡ true
unfolding corrupt_of fresh_of bad_shape any_of
today_blank = refl

former_refused : (shape : Shape) → bad_shape shape ≡ true → (Former.open_of shape).store ≡ Former.blank_store
unfolding Former.open_of
former_refused shape e = rw e

today_refused : (shape : Shape) → bad_shape shape ≡ true → (open_of shape).store ≡ blank_store
unfolding open_of
today_refused shape e = rw e

pub refused_history : (ins : Insertion) (shape : Shape) (calls : List Call) → bad_shape shape ≡ true → FormerCalls.history_of ins shape calls ≡ history_of ins shape calls
refused_history ins shape calls e =
    ap (λ (t : Former.Store). (FormerCalls.run ins t calls).history) (former_refused shape e) ∙
    corrupt_run ins Former.blank_store blank_store calls former_blank today_blank ∙
    sym (ap (λ (s : Store). (run ins s calls).history) (today_refused shape e))
