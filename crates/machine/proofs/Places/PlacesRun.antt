-- 02, W1, of a list of calls: the places of its completions run on from the store's count without a gap; so from an opening they are 1, 2, 3 ..
-- Assumes nothing.
use Prim.Native.Nat.{ℕ, suc}
use mathlib.Core.Path.{◌≡◌, refl, sym, ap, ◌∙◌}
use mathlib.Core.List.{List, [], ◌∷◌, ◌++◌, map, map-append, map-map, map-id}
use lib.ListN.{length, length-map}
use Rattle.words.specs.declared.Shape.{Shape}
use Rattle.words.proofs.Folds.{by_cond}
use Rattle.lanes.specs.UseOrder.{Insertion}
use Rattle.answers.specs.declared.Completion.{Completion}
use Rattle.store.specs.declared.Store.{Store}
use Rattle.store.specs.declared.Outcome.{Outcome}
use Rattle.store.specs.Opening.{bad_shape, bad_limit, fresh_of, open_of}
use Rattle.machine.specs.Machine.Calls.{Call, call_of, run, Entry, completions_of, is_wait}
use Rattle.machine.specs.Claims.Attribution.{Attributed, LastWaits, no_waits, waits_after, attribute}
use Rattle.machine.specs.Claims.Places.{numbers_from}
use Rattle.machine.specs.Claims.Demand3.{completed}
use Rattle.machine.proofs.Bounds.Counts.{Given, given_none}
use Rattle.machine.proofs.Places.PlacesCalls.{given_more, call_given}

-- the completions of a history
abbrev given_by : List Entry → List Completion
given_by [] = []
given_by (e ∷ es) = completions_of e.reply ++ given_by es

run_given : (ins : Insertion) (cs : List Call) (s : Store) → Given s (given_by (run ins s cs).history) (run ins s cs).store
unfolding run
run_given ins [] s = given_none s s refl
run_given ins (c ∷ cs) s =
    let t = (call_of ins s c).store in
    given_more s t (run ins t cs).store (completions_of (call_of ins s c).reply) (given_by (run ins t cs).history) (call_given ins s c) (run_given ins cs t)

-- .. are those that are attributed
attributed_given : (i : ℕ) (last : LastWaits) (es : List Entry) → map (λ (x : Attributed). x.completion) (attribute i last es) ≡ given_by es
unfolding attribute
attributed_given i last [] = refl
attributed_given i last (e ∷ es) =
    rw (map-append, map-map, map-id, attributed_given (suc i) (waits_after i last e.call (is_wait e.reply)) es)

-- an opening has completed nothing
open_none : (shape : Shape) → (open_of shape).store.completions ≡ 0
unfolding open_of fresh_of
open_none shape =
    by_cond (λ (r : Outcome). r.store.completions ≡ 0) (bad_shape shape) _ _ refl (by_cond (λ (r : Outcome). r.store.completions ≡ 0) (bad_limit shape) _ _ refl refl)

-- from an opening the places are 1, 2, 3 ..
pub places_run : (ins : Insertion) (shape : Shape) (cs : List Call) →
    map (λ (x : Attributed). x.completion.place) (completed (run ins (open_of shape).store cs).history) ≡ numbers_from 1 (length (completed (run ins (open_of shape).store cs).history))
places_run ins shape cs =
    let h = (run ins (open_of shape).store cs).history in
    let a = attributed_given 0 no_waits h in
    let n = sym (length-map (completed h) (λ (x : Attributed). x.completion)) ∙ ap length a in
    sym (map-map (λ (x : Completion). x.place) (λ (x : Attributed). x.completion) (completed h)) ∙ ap (map (λ (x : Completion). x.place)) a ∙
    (run_given ins cs (open_of shape).store).next ∙ rw (open_none shape, n)
