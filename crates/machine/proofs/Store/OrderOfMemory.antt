-- Demand 3, proved: the order of completion is the order of memory. What it says is in specs/Claims/Demand3.antt. Assumes nothing.
use Prim.Native.Nat.{ℕ}
use mathlib.Core.Path.{◌≡◌, ◌∙◌}
use mathlib.Core.List.{List}
use Rattle.words.specs.declared.Shape.{Shape}
use Rattle.lanes.specs.UseOrder.{Insertion}
use Rattle.answers.specs.declared.Answer.TheVariants.{Opened}
use Rattle.store.specs.declared.Store.{Store}
use Rattle.store.specs.Opening.{open_of}
use Rattle.machine.specs.Machine.Calls.{Call, Begin, Serve, Return, Deliver, Settle, call_of, run}
use Rattle.machine.specs.Claims.Flat.{flat_of}
use Rattle.machine.specs.Claims.Demand3.{Demand3}
use Rattle.machine.proofs.Bounds.Sound.{sound}
use Rattle.machine.proofs.Bounds.Keeps.{begin_keeps}
use Rattle.machine.proofs.Bounds.ShapeKeeps.{call_shape}
use Rattle.machine.proofs.Bounds.SizedKeeps.{begin_sized, sized_whole}
use Rattle.machine.proofs.List.Owes.{Paid}
use Rattle.machine.proofs.List.Outer.{Told, outer}
use Rattle.machine.proofs.List.OuterRun.{Keeps, run_pays}
use Rattle.machine.proofs.Places.PlacesRun.{places_run}
use Rattle.machine.proofs.Store.Consistent.{Consistent, pending_in}
use Rattle.machine.proofs.Store.ConsistentOpen.{open_consistent, open_shape, open_rests}
use Rattle.machine.proofs.Store.ConsistentBegin.{begin_consistent}
use Rattle.machine.proofs.Store.ConsistentSettle.{serve_leads, return_leads, deliver_leads, settle_leads}
use Rattle.machine.proofs.Store.ConsistentQuiet.{quiet_rests, quiet_shows, quiet_flags}
use Rattle.std.specs.Prelude.{Ok}

-- every call keeps a store consistent and pays what it owes
pub call_consistent : (ins : Insertion) (s : Store) (f : List ℕ) (c : Call) → Consistent s f → Keeps ins Consistent pending_in s f c
unfolding call_of
call_consistent ins s f (Begin k op w) i =
    let r = begin_consistent s f k op w i in
    let z = sized_whole s (sound s i.sound).n_high i.sized in
    (r.flat, record { sound = begin_keeps s k op w i.sound z; sized = begin_sized s k op w i.sized; unique = r.unique; block = r.block }, r.owes)
call_consistent ins s f (Serve k) i = serve_leads s f k i
call_consistent ins s f (Return k) i = return_leads s f k i
call_consistent ins s f (Deliver k) i = deliver_leads ins s f k i
call_consistent ins s f Settle i = settle_leads ins s f i

-- a consistent store of a shape
pub record Reached (shape : Shape) (s : Store) (f : List ℕ) : Type 0 where
  pub same : s.shape ≡ shape
  pub consistent : Consistent s f

reached_keeps : (ins : Insertion) (shape : Shape) (s : Store) (f : List ℕ) (x : Call) → Reached shape s f → Keeps ins (Reached shape) pending_in s f x
reached_keeps ins shape s f x i =
    let r = call_consistent ins s f x i.consistent in
    (r.0, record { same = call_shape ins s x ∙ i.same; consistent = r.1 }, r.2)

pub reached_open : (shape : Shape) → (open_of shape).answer ≡ Ok Opened → Reached shape (open_of shape).store (flat_of shape.m)
reached_open shape e = record { same = open_shape shape e; consistent = open_consistent shape e }

-- what a list of calls from an opening reaches, and that it paid what it owes
pub reaches : (ins : Insertion) (shape : Shape) (calls : List Call) → (open_of shape).answer ≡ Ok Opened →
    (g : List ℕ) × Reached shape (run ins (open_of shape).store calls).store g ×
    Paid (pending_in (open_of shape).store) (flat_of shape.m) (run ins (open_of shape).store calls).history (pending_in (run ins (open_of shape).store calls).store) g
reaches ins shape calls e = run_pays ins (Reached shape) pending_in (reached_keeps ins shape) (open_of shape).store (flat_of shape.m) calls (reached_open shape e)

-- .. so the outer induction tells of it
pub told : (ins : Insertion) (shape : Shape) (calls : List Call) (e : (open_of shape).answer ≡ Ok Opened) →
    Told shape.m (run ins (open_of shape).store calls).history (pending_in (run ins (open_of shape).store calls).store) (reaches ins shape calls e).0
told ins shape calls e = let r = reaches ins shape calls e in outer shape.m _ (pending_in (run ins (open_of shape).store calls).store) r.0 (rw (open_rests shape e) at r.2)

-- the order of completion is the order of memory
pub order_of_memory : Demand3
order_of_memory ins shape calls e =
    let r = reaches ins shape calls e in
    let s = (run ins (open_of shape).store calls).store in
    let t = told ins shape calls e in
    let i = r.1.consistent in
    record {
      same = r.1.same;
      owned = t.owned;
      once = t.once;
      values = t.values;
      places = places_run ins shape calls;
      when_quiet = λ q. record {
        all_completed = t.all_completed (quiet_rests s r.0 i q);
        shows = λ a l. rw (← t.end) (quiet_shows s r.0 i q a (rw r.1.same l));
        flags = quiet_flags s r.0 i q;
      };
    }
