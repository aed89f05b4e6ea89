-- Every step keeps a store that is not corrupt so, whatever its answer: who repeats steps pays 14 once.
--
-- Begin and deliver use a line, and a use moves places of a use order. In the definitions an order is a list of any length, and one
-- that is a place short of c is not corrupt (a read past its end gives line 0) until a use carries a line past its end. So
-- these two laws also want the 8 places of each lane's order. A store of the program has them (its arrays are of 8), an opening
-- gives them and every step keeps them, corrupt or not. Assumes nothing.
use Prim.Native.Nat.{ℕ, ◌<◌, ◌≤◌}
use mathlib.Core.Path.{◌≡◌}
use mathlib.Core.Bool.{false}
use lib.ListN.{length}
use native.Mathlib.Omega.{arith}
use Rattle.words.specs.declared.LaneNo.{LaneNo}
use Rattle.words.specs.declared.WordNo.{WordNo}
use Rattle.words.specs.declared.Op.{Op}
use Rattle.words.specs.declared.Shape.{Shape}
use Rattle.lanes.specs.UseOrder.{Insertion}
use Rattle.store.specs.declared.Store.{Store}
use Rattle.store.specs.Opening.{bad_shape, bad_limit, fresh_of}
use Rattle.store.specs.Stores.{lane_at}
use Rattle.machine.specs.Machine.Corruption.{corrupt_of}
use Rattle.machine.specs.Machine.Begin.{begin_of}
use Rattle.machine.specs.Machine.Serve.{serve_of}
use Rattle.machine.specs.Machine.Return.{return_of}
use Rattle.machine.specs.Machine.Deliver.{deliver_of}
use Rattle.machine.proofs.Laws.Tests.{on}
use Rattle.machine.proofs.Bounds.Sound.{sound, not_corrupt}
use Rattle.machine.proofs.Bounds.KeepsStore.{Fit}
use Rattle.machine.proofs.Bounds.KeepsBegin.{begin_fit}
use Rattle.machine.proofs.Bounds.KeepsServe.{serve_fit}
use Rattle.machine.proofs.Bounds.KeepsReturn.{return_fit}
use Rattle.machine.proofs.Bounds.KeepsDeliver.{deliver_fit}
use Rattle.machine.proofs.Bounds.KeepsOpen.{open_fit}

-- the use order of each lane has its 8 places
abbrev pub Whole : Store → Type 0
Whole s = (k : ℕ) → k < s.shape.n → 8 ≤ length (lane_at s k).order

fit : (s : Store) → corrupt_of s ≡ false → Whole s → Fit 8 s
fit s e w = record { sound = sound s e; long = w }

-- a store of any lengths
any_fit : (s : Store) → corrupt_of s ≡ false → Fit 0 s
any_fit s e = record { sound = sound s e; long = λ k h. omega arith }

pub open_keeps : (shape : Shape) → bad_shape shape ≡ false → bad_limit shape ≡ false → corrupt_of (fresh_of shape) ≡ false
open_keeps shape e f = not_corrupt (fresh_of shape) (open_fit shape e f).sound

pub begin_keeps : (s : Store) (k : LaneNo) (op : Op) (w : WordNo) → corrupt_of s ≡ false → Whole s → corrupt_of (begin_of s k op w).store ≡ false
begin_keeps s k op w e h = not_corrupt (begin_of s k op w).store (begin_fit 8 s k op w (sound s e).c_high (fit s e h)).sound

pub serve_keeps : (s : Store) (k : LaneNo) → corrupt_of s ≡ false → corrupt_of (serve_of s k).store ≡ false
serve_keeps s k e = not_corrupt (serve_of s k).store (serve_fit 0 s k (any_fit s e)).sound

pub return_keeps : (s : Store) (k : LaneNo) → corrupt_of s ≡ false → corrupt_of (return_of s k).store ≡ false
return_keeps s k e = not_corrupt (return_of s k).store (return_fit 0 s k (any_fit s e)).sound

pub deliver_keeps : (ins : Insertion) (s : Store) (k : LaneNo) → corrupt_of s ≡ false → Whole s → corrupt_of (deliver_of ins s k).store ≡ false
deliver_keeps ins s k e h = not_corrupt (deliver_of ins s k).store (deliver_fit ins 8 s k (sound s e).c_high (fit s e h)).sound

pub open_whole : (shape : Shape) → bad_shape shape ≡ false → bad_limit shape ≡ false → Whole (fresh_of shape)
open_whole shape e f = (open_fit shape e f).long

pub begin_whole : (s : Store) (k : LaneNo) (op : Op) (w : WordNo) → Whole s → Whole (begin_of s k op w).store
unfolding begin_of
begin_whole s k op w h = on (corrupt_of s) (λ e. rw e h) (λ e. (begin_fit 8 s k op w (sound s e).c_high (fit s e h)).long)

pub serve_whole : (s : Store) (k : LaneNo) → Whole s → Whole (serve_of s k).store
unfolding serve_of
serve_whole s k h = on (corrupt_of s) (λ e. rw e h) (λ e. (serve_fit 8 s k (fit s e h)).long)

pub return_whole : (s : Store) (k : LaneNo) → Whole s → Whole (return_of s k).store
unfolding return_of
return_whole s k h = on (corrupt_of s) (λ e. rw e h) (λ e. (return_fit 8 s k (fit s e h)).long)

pub deliver_whole : (ins : Insertion) (s : Store) (k : LaneNo) → Whole s → Whole (deliver_of ins s k).store
unfolding deliver_of
deliver_whole ins s k h = on (corrupt_of s) (λ e. rw e h) (λ e. (deliver_fit ins 8 s k (sound s e).c_high (fit s e h)).long)
