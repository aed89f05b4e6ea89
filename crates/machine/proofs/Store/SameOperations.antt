-- 02, W3: the same operations in the same order get the same values and places, whatever the insertions of fills and the shapes: by demand 3, since flat
-- memory knows neither. Assumes nothing.
use Prim.Native.Nat.{ℕ, suc, ◌*◌, ◌<◌}
use mathlib.Core.Logic.{inl, inr}
use mathlib.Core.Path.{◌≡◌, refl, sym, ap, ◌∙◌}
use mathlib.Core.Bool.{Bool, true, false}
use mathlib.Core.List.Memᴰ
use mathlib.Core.List.{List, [], ◌∷◌, Memᴰ}
use lib.ListN.{length, length-map}
use native.Mathlib.Omega.{arith}
use Rattle.words.specs.declared.Shape.{Shape}
use Rattle.words.specs.declared.LaneNo.{LaneNo}
use Rattle.words.specs.declared.WordNo.{WordNo}
use Rattle.words.specs.declared.Op.{Op}
use Rattle.lanes.specs.UseOrder.{Insertion}
use Rattle.answers.specs.declared.Answer.TheVariants.{Opened}
use Rattle.answers.specs.Refusals.{refused_of}
use Rattle.store.specs.declared.Store.{Store}
use Rattle.store.specs.declared.Outcome.{Outcome}
use Rattle.store.specs.Opening.{open_of}
use Rattle.machine.specs.Machine.Begin.{begin_of}
use Rattle.machine.specs.Machine.Calls.{Call, Begin, Serve, Return, Deliver, Settle, call_of, run, history_of, is_refused}
use Rattle.machine.specs.Claims.Attribution.{Begun, Origin, Unknown, Of, Attributed, begun_by, begun_from, known, operations_of}
use Rattle.machine.specs.Claims.Places.{numbers_from}
use Rattle.machine.specs.Claims.Demand3.{Coherent, completed, operations, values_in}
use Rattle.machine.specs.Claims.SameValues.{SameValues}
use Rattle.machine.proofs.Rules.Rules.{begin_rule}
use Rattle.machine.proofs.Bounds.KeepsLane.{clash}
use Rattle.machine.proofs.Bounds.ShapeKeeps.{call_shape}
use Rattle.machine.proofs.List.SameFlat.{Inside, flat_same}
use Rattle.machine.proofs.Store.ConsistentOpen.{open_shape}
use Rattle.machine.proofs.Store.OrderOfMemory.{order_of_memory}
use Rattle.std.specs.Prelude.{Ok}

-- a begin that isn't refused is of a word of the store
begin_inside : (s : Store) (k : LaneNo) (op : Op) (w : WordNo) → refused_of (begin_of s k op w).answer ≡ false → w.0 < 4 * s.shape.m
begin_inside s k op w =
    begin_rule (λ (r : Outcome). refused_of r.answer ≡ false → w.0 < 4 * s.shape.m) s k op w (λ x e. clash (cc e))
    (λ ready _. let h = ready.inside in omega arith)

-- so is the operation that a call begins
call_inside : (ins : Insertion) (s : Store) (i : ℕ) (x : Call) → Inside (4 * s.shape.m) (begun_by i x (is_refused (call_of ins s x).reply))
unfolding begun_by call_of
call_inside ins s i (Begin k op w) b n = go (refused_of (begin_of s k op w).answer) refl n
  where
    go : (r : Bool) → refused_of (begin_of s k op w).answer ≡ r → Memᴰ b (begun_by i (Begin k op w) r) → b.word.0 < 4 * s.shape.m
    go true e m = absurd (Memᴰ.not-nil m)
    go false e m = rw (Memᴰ.eq_of_singleton m) (begin_inside s k op w e)
call_inside ins s i (Serve k) b n = absurd (Memᴰ.not-nil n)
call_inside ins s i (Return k) b n = absurd (Memᴰ.not-nil n)
call_inside ins s i (Deliver k) b n = absurd (Memᴰ.not-nil n)
call_inside ins s i Settle b n = absurd (Memᴰ.not-nil n)

-- and are those of a list of calls
run_inside : (ins : Insertion) (s : Store) (i : ℕ) (xs : List Call) → Inside (4 * s.shape.m) (begun_from i (run ins s xs).history)
unfolding begun_from run
run_inside ins s i [] b n = absurd (Memᴰ.not-nil n)
run_inside ins s i (x ∷ xs) b n =
    elim (Memᴰ.append_cases (begun_by i x (is_refused (call_of ins s x).reply)) n)
    [ inl p ↦ call_inside ins s i x b p | inr p ↦ rw (← call_shape ins s x) (run_inside ins (call_of ins s x).store (suc i) xs b p) ]

-- an operation that completes is of a completion
operation_of : (xs : List Attributed) (b : Begun) → Memᴰ b (operations_of xs) → (x : Attributed) × Memᴰ x xs × (x.origin ≡ Of b)
unfolding operations_of
operation_of [] b n = absurd (Memᴰ.not-nil n)
operation_of (x ∷ xs) b n =
    elim (Memᴰ.append_cases (known x.origin) n)
    [ inl p ↦ first x.origin refl p | inr p ↦ (let r = operation_of xs b p in (r.0, Memᴰ.tail r.1, r.2)) ]
  where
    first : (o : Origin) → x.origin ≡ o → Memᴰ b (known o) → (y : Attributed) × Memᴰ y (x ∷ xs) × (y.origin ≡ Of b)
    first Unknown e p = absurd (Memᴰ.not-nil p)
    first (Of a) e p = (x, Memᴰ.head refl, e ∙ ap Of (sym (Memᴰ.eq_of_singleton p)))

-- so its word is one of the store
module _ (ins : Insertion) (shape : Shape) (calls : List Call) (e : (open_of shape).answer ≡ Ok Opened) where
  coherent : Coherent shape (history_of ins shape calls) (run ins (open_of shape).store calls).store
  coherent = order_of_memory ins shape calls e

  completed_inside : Inside (4 * shape.m) (operations (history_of ins shape calls))
  completed_inside b n =
      let r = operation_of (completed (history_of ins shape calls)) b n in
      let o = coherent.owned r.0 r.1 in
      let same : b ≡ o.operation = cc (r.2, o.found) in
      let inside = run_inside ins (open_of shape).store 0 calls o.operation o.was_begun in
      rw same (rw (open_shape shape e) at inside)

-- the values are flat memory's, and the places count them
pub same_operations : SameValues
same_operations ins ins' shape shape' calls calls' e e' asked =
    record { values = values; places = a.places ∙ ap (numbers_from 1) count ∙ sym b.places }
  where
    a : Coherent shape (history_of ins shape calls) (run ins (open_of shape).store calls).store
    a = coherent ins shape calls e

    b : Coherent shape' (history_of ins' shape' calls') (run ins' (open_of shape').store calls').store
    b = coherent ins' shape' calls' e'

    values : values_in (history_of ins shape calls) ≡ values_in (history_of ins' shape' calls')
    values =
        a.values ∙ flat_same shape.m shape'.m _ _ (completed_inside ins shape calls e) (completed_inside ins' shape' calls' e') asked ∙ sym b.values

    count : length (completed (history_of ins shape calls)) ≡ length (completed (history_of ins' shape' calls'))
    count = sym (length-map (completed (history_of ins shape calls)) _) ∙ ap length values ∙ length-map (completed (history_of ins' shape' calls')) _
