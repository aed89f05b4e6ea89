-- What a store has that an opening and any calls give: it is consistent and live, and the places past its lanes are empty. Assumes nothing.
use Prim.Native.Nat.{ℕ}
use mathlib.Core.Path.{◌≡◌}
use mathlib.Core.Bool.{false}
use mathlib.Core.List.{List, [], ◌∷◌}
use Rattle.words.specs.declared.Shape.{Shape}
use Rattle.lanes.specs.UseOrder.{Insertion}
use Rattle.answers.specs.declared.Answer.TheVariants.{Opened}
use Rattle.store.specs.declared.Store.{Store}
use Rattle.store.specs.Opening.{bad_shape, bad_limit, fresh_of, open_of}
use Rattle.machine.specs.Machine.Settle.{settle_step}
use Rattle.machine.specs.Machine.Calls.{Call, call_of, run}
use Rattle.machine.proofs.Store.Consistent.{Consistent}
use Rattle.machine.proofs.Store.ConsistentOpen.{open_consistent}
use Rattle.machine.proofs.Store.ConsistentSettle.{step_leads}
use Rattle.machine.proofs.Store.OrderOfMemory.{call_consistent}
use Rattle.machine.proofs.Settle.Live.{Live}
use Rattle.machine.proofs.Settle.LiveSpare.{Spare, open_spare, step_spare, call_spare}
use Rattle.machine.proofs.Settle.LiveKeeps.{open_live, settle_step_live, call_live}
use Rattle.std.specs.Prelude.{Ok}

pub record Lively (s : Store) : Type 0 where
  pub flat : List ℕ
  pub consistent : Consistent s flat
  pub live : Live s
  pub spare : Spare s

-- an opening
pub open_lively : (shape : Shape) → (open_of shape).answer ≡ Ok Opened → Lively (open_of shape).store
open_lively shape e = record { flat = _; consistent = open_consistent shape e; live = open_live shape e; spare = open_spare shape }

-- .. as the store that an opening in range makes
pub fresh_lively : (shape : Shape) → bad_shape shape ≡ false → bad_limit shape ≡ false → Lively (fresh_of shape)
unfolding open_of
fresh_lively shape e f = let a : (open_of shape).answer ≡ Ok Opened = rw (e, f) in let l = open_lively shape a in rw (e, f) at l

-- every call keeps it
pub call_lively : (ins : Insertion) (s : Store) (x : Call) → Lively s → Lively (call_of ins s x).store
call_lively ins s x l =
    let q = call_consistent ins s l.flat x l.consistent in
    record { flat = q.0; consistent = q.1; live = call_live ins s l.flat x l.consistent l.live; spare = call_spare ins s x l.spare }

-- .. every step of settle
pub step_lively : (ins : Insertion) (s : Store) → Lively s → Lively (settle_step ins s).store
step_lively ins s l =
    let r = step_leads ins s l.flat l.consistent in
    record { flat = r.0; consistent = r.1; live = settle_step_live ins s l.flat l.consistent l.live; spare = step_spare ins s l.spare }

-- .. and every list of calls
pub run_lively : (ins : Insertion) (s : Store) (calls : List Call) → Lively s → Lively (run ins s calls).store
unfolding run
run_lively ins s [] l = l
run_lively ins s (x ∷ calls) l = run_lively ins (call_of ins s x).store calls (call_lively ins s x l)
