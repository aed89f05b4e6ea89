-- Histories one behind the other: a list of calls and then another, its operations begun and completed. Assumes nothing.
use Prim.Native.Nat.{ℕ, suc, ◌+◌, ◌<◌}
use mathlib.Core.Logic.{◌⊎◌, inl, inr}
use mathlib.Core.Path.{◌≡◌, refl, ap, sym, ◌∙◌}
use mathlib.Core.Bool.{Bool, true, false}
use mathlib.Core.List.Memᴰ
use mathlib.Core.List.{List, [], ◌∷◌, ◌++◌, append_assoc, Memᴰ}
use lib.ListN.{length}
use native.Mathlib.Omega.{arith}
use Rattle.lanes.specs.UseOrder.{Insertion}
use Rattle.store.specs.declared.Store.{Store}
use Rattle.machine.specs.Machine.Calls.{Call, Begin, Serve, Return, Deliver, Settle, Entry, call_of, run, is_wait, is_refused}
use Rattle.machine.specs.Claims.Attribution.{Begun, Attributed, LastWaits, waits_after, attribute, begun_by, begun_from, known, operations_of}

-- a list of calls and then another
module _ (ins : Insertion) where
  pub run_more : (s : Store) (xs ys : List Call) → (run ins s (xs ++ ys)).store ≡ (run ins (run ins s xs).store ys).store
  unfolding run
  run_more s [] ys = refl
  run_more s (x ∷ xs) ys = run_more (call_of ins s x).store xs ys

  pub history_more : (s : Store) (xs ys : List Call) → (run ins s (xs ++ ys)).history ≡ (run ins s xs).history ++ (run ins (run ins s xs).store ys).history
  unfolding run
  history_more s [] ys = refl
  history_more s (x ∷ xs) ys = ap (λ (h : List Entry). record { call = x; reply = (call_of ins s x).reply } ∷ h) (history_more (call_of ins s x).store xs ys)

  pub history_length : (s : Store) (xs : List Call) → length (run ins s xs).history ≡ length xs
  unfolding run
  history_length s [] = refl
  history_length s (x ∷ xs) = ap suc (history_length (call_of ins s x).store xs)

-- behind a history from index i on: the next index, and for each lane the last begin call that was answered with a wait
pub index_by : ℕ → List Entry → ℕ
index_by i [] = i
index_by i (e ∷ es) = index_by (suc i) es

pub waits_by : ℕ → LastWaits → List Entry → LastWaits
waits_by i last [] = last
waits_by i last (e ∷ es) = waits_by (suc i) (waits_after i last e.call (is_wait e.reply)) es

pub index_length : (i : ℕ) (es : List Entry) → index_by i es ≡ length es + i
unfolding index_by
index_length i [] = omega arith
index_length i (e ∷ es) = let n = index_length (suc i) es in omega arith

-- completions with their operations
pub attribute_more : (i : ℕ) (last : LastWaits) (es fs : List Entry) → attribute i last (es ++ fs) ≡ attribute i last es ++ attribute (index_by i es) (waits_by i last es) fs
unfolding attribute index_by waits_by
attribute_more i last [] fs = refl
attribute_more i last (e ∷ es) fs = rw (attribute_more (suc i) (waits_after i last e.call (is_wait e.reply)) es fs, append_assoc)

pub operations_more : (xs ys : List Attributed) → operations_of (xs ++ ys) ≡ operations_of xs ++ operations_of ys
unfolding operations_of
operations_more [] ys = refl
operations_more (x ∷ xs) ys = ap (λ (bs : List Begun). known x.origin ++ bs) (operations_more xs ys) ∙ sym (append_assoc (known x.origin) (operations_of xs) (operations_of ys))

-- operations begun
pub begun_more : (i : ℕ) (es fs : List Entry) → begun_from i (es ++ fs) ≡ begun_from i es ++ begun_from (index_by i es) fs
unfolding begun_from index_by
begun_more i [] fs = refl
begun_more i (e ∷ es) fs = rw (begun_more (suc i) es fs, append_assoc)

-- .. have the indices of their calls
begun_here : (i : ℕ) (c : Call) (refused : Bool) (b : Begun) → Memᴰ b (begun_by i c refused) → b.index ≡ i
unfolding begun_by
begun_here i (Begin k op w) true b m = absurd (Memᴰ.not-nil m)
begun_here i (Begin k op w) false b m = elim (Memᴰ.cases_cons m) [ inl e ↦ ap (λ (x : Begun). x.index) e | inr n ↦ absurd (Memᴰ.not-nil n) ]
begun_here i (Serve k) refused b m = absurd (Memᴰ.not-nil m)
begun_here i (Return k) refused b m = absurd (Memᴰ.not-nil m)
begun_here i (Deliver k) refused b m = absurd (Memᴰ.not-nil m)
begun_here i Settle refused b m = absurd (Memᴰ.not-nil m)

pub begun_below : (i : ℕ) (es : List Entry) (b : Begun) → Memᴰ b (begun_from i es) → b.index < length es + i
unfolding begun_from
begun_below i [] b m = absurd (Memᴰ.not-nil m)
begun_below i (e ∷ es) b m = go (begun_below (suc i) es b) (Memᴰ.append_cases (begun_by i e.call (is_refused e.reply)) m)
  where
    go : (Memᴰ b (begun_from (suc i) es) → b.index < length es + suc i) → Memᴰ b (begun_by i e.call (is_refused e.reply)) ⊎ Memᴰ b (begun_from (suc i) es) → b.index < suc (length es) + i
    go rest (inl n) = let q = begun_here i e.call (is_refused e.reply) b n in omega arith
    go rest (inr n) = let q = rest n in omega arith
