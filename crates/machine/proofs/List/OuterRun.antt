-- Calls that keep an invariant and pay what they owe pay for every list of them. Assumes nothing.
use Prim.Native.Nat.{ℕ}
use mathlib.Core.Path.{refl}
use mathlib.Core.List.{List, [], ◌∷◌}
use Rattle.lanes.specs.UseOrder.{Insertion}
use Rattle.store.specs.declared.Store.{Store}
use Rattle.machine.specs.Machine.Calls.{Call, call_of, run}
use Rattle.machine.proofs.List.Owes.{Pending, Owes, Paid}

-- one call keeps the invariant, of a store with flat memory, and pays
abbrev pub Keeps : Insertion → (Store → List ℕ → Type 0) → (Store → ℕ → Pending) → Store → List ℕ → Call → Type 0
Keeps ins Inv pending s f c = (g : List ℕ) × Inv (call_of ins s c).store g × Owes (pending s) f c (call_of ins s c).reply (pending (call_of ins s c).store) g

-- .. and so does a list of calls
pub run_pays : (ins : Insertion) (Inv : Store → List ℕ → Type 0) (pending : Store → ℕ → Pending) (keeps : (s : Store) (f : List ℕ) (c : Call) → Inv s f → Keeps ins Inv pending s f c)
    (s : Store) (f : List ℕ) (cs : List Call) → Inv s f → (g : List ℕ) × Inv (run ins s cs).store g × Paid (pending s) f (run ins s cs).history (pending (run ins s cs).store) g
unfolding run
run_pays ins Inv pending keeps s f [] v = (f, v, (refl, refl))
run_pays ins Inv pending keeps s f (c ∷ cs) v =
    let one = keeps s f c v in
    let rest = run_pays ins Inv pending keeps (call_of ins s c).store one.0 cs one.1 in
    (rest.0, rest.1, (pending (call_of ins s c).store, one.0, one.2, rest.2))
