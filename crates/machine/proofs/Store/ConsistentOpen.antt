-- An opening that isn't refused gives a consistent store, with flat memory all 0. Assumes nothing.
use Prim.Native.Nat.{ℕ, zero, suc, ◌+◌, ◌-◌, ◌*◌, ◌<◌, ◌≤◌}
use mathlib.Core.Logic.{◌⊎◌, inl, inr}
use mathlib.Core.Path.{◌≡◌, refl, sym, ap, ◌∙◌, fun_ext}
use mathlib.Core.Bool.{Bool, true, false, cond}
use mathlib.Core.List.{◌∷◌}
use lib.Dec.{ltb}
use lib.ListN.{length, get_or, take, drop, replicate, get_or-replicate, get_or-eq_default}
use native.Mathlib.Omega.{arith}
use Rattle.words.specs.declared.BlockNo.{BlockNo}
use Rattle.words.specs.declared.Shape.{Shape}
use Rattle.words.specs.Lines.{no_line}
use Rattle.words.specs.Units.{zeros}
use Rattle.words.proofs.Folds.{below?}
use Rattle.lanes.specs.declared.Lane.{Lane}
use Rattle.lanes.specs.declared.Waiting.TheVariants.{Idle}
use Rattle.answers.specs.declared.Answer.TheVariants.{Opened}
use Rattle.store.specs.declared.Block.{Block}
use Rattle.store.specs.Control.{free, is_for, service_of}
use Rattle.store.specs.Opening.{bad_shape, bad_limit, blank_line, blank_lane, blank_block, blank_control, fresh_of, open_of}
use Rattle.store.proofs.Services.{for_none, none_found}
use Rattle.store.specs.Stores.{no_lane, no_block, lane_at, block_at}
use Rattle.machine.specs.Claims.Flat.{flat_of, flat_block}
use Rattle.machine.proofs.Laws.Tests.{on}
use Rattle.machine.proofs.Bounds.KeepsLane.{clash}
use Rattle.machine.proofs.Bounds.Keeps.{open_keeps}
use Rattle.machine.proofs.Bounds.Shape.{shape_bounds}
use Rattle.machine.proofs.List.Owes.{Rests, none_pending}
use Rattle.machine.proofs.Bounds.SizedKeeps.{open_sized}
use Rattle.machine.proofs.Protocol.BlockState.{Invalid, seen, block_no, project}
use Rattle.machine.proofs.Protocol.Invariant.{Inv}
use Rattle.machine.proofs.Protocol.BlockQuiet.{Blank, blank_inv}
use Rattle.machine.proofs.Laws.Lines.{invalid_holds}
use Rattle.machine.proofs.Projection.Searches.{Unique, search_none}
use Rattle.machine.proofs.Store.Consistent.{Consistent, pending_of, pending_in}
use Rattle.std.specs.Prelude.{None, Ok}

-- what holds of the blank lane and of none holds of each lane of an opening
pub each_lane : (P : Lane → Type 0) (shape : Shape) → P blank_lane → P no_lane → (k : ℕ) → P (lane_at (fresh_of shape) k)
unfolding fresh_of
each_lane P shape blank past k = go (below? k 8)
  where
    go : (k < 8) ⊎ (8 ≤ k) → P (get_or (replicate 8 blank_lane) k no_lane)
    go (inl h) = rw (get_or-replicate 8 k blank_lane no_lane h) blank
    go (inr h) = let p : length (replicate 8 blank_lane) ≤ k = h in rw (get_or-eq_default (replicate 8 blank_lane) no_lane p) past

-- no line of it is valid
abbrev NoneValid : Lane → Type 0
NoneValid l = (i : ℕ) → (get_or l.lines i no_line).valid ≡ false

blank_none : NoneValid blank_lane
unfolding blank_lane
blank_none i = go (below? i 8)
  where
    go : (i < 8) ⊎ (8 ≤ i) → (get_or (replicate 8 blank_line) i no_line).valid ≡ false
    go (inl h) = rw (get_or-replicate 8 i blank_line no_line h)
    go (inr h) = let p : length (replicate 8 blank_line) ≤ i = h in rw (get_or-eq_default (replicate 8 blank_line) no_line p)

none_unique : (c : ℕ) (l : Lane) → NoneValid l → Unique c l
none_unique c l e i j hi hj v w q = let z = e i in clash (cc)

-- .. so that no block sees anything of it
none_blank : (c : ℕ) (a : BlockNo) (l : Lane) → NoneValid l → l.returns.len ≡ 0 → l.downs.len ≡ 0 → l.waiting ≡ Idle → Blank (seen c a l)
unfolding seen
none_blank c a l e r d w =
    let n = search_none c l a (λ j _. invalid_holds (get_or l.lines j no_line) a (e j)) in
    record { line = rw n; returns = rw r; downs = rw d; waiting = rw w }

blank_seen : (c : ℕ) (a : BlockNo) → Blank (seen c a blank_lane)
unfolding blank_lane
blank_seen c a = none_blank c a blank_lane blank_none refl refl refl

-- a part of as many
take_replicate : {A : Type 0} (i n : ℕ) (x : A) → i ≤ n → take i (replicate n x) ≡ replicate i x
take_replicate zero n x h = refl
take_replicate (suc i) zero x h = absurd (omega arith)
take_replicate (suc i) (suc n) x h = ap (λ l. x ∷ l) (take_replicate i n x (omega arith))

drop_replicate : {A : Type 0} (i n t : ℕ) (x : A) → t ≡ n + i → drop i (replicate t x) ≡ replicate n x
drop_replicate zero n t x e = let q : t ≡ n = omega arith in rw q
drop_replicate (suc i) n zero x e = absurd (omega arith)
drop_replicate (suc i) n (suc t) x e = drop_replicate i n t x (omega arith)

-- flat memory's words of a block
flat_zeros : (m a : ℕ) → a < m → flat_block (flat_of m) a ≡ zeros
flat_zeros m a h =
    let d = 4 * m - 4 * a in
    ap (take 4) (drop_replicate (4 * a) d (4 * m) 0 (omega arith)) ∙ take_replicate 4 d 0 (omega arith)

-- each block of an opening
entry : (shape : Shape) (a : ℕ) → a < 64 → block_at (fresh_of shape) a ≡ blank_block
unfolding fresh_of
entry shape a h = get_or-replicate 64 a blank_block no_block h

no_flag : (k : ℕ) → get_or blank_block.present k false ≡ false
unfolding blank_block
no_flag k = go (below? k 8)
  where
    go : (k < 8) ⊎ (8 ≤ k) → get_or (replicate 8 false) k false ≡ false
    go (inl h) = get_or-replicate 8 k false false h
    go (inr h) = let p : length (replicate 8 false) ≤ k = h in get_or-eq_default (replicate 8 false) false p

-- no block has a service
pub blank_service : (a : BlockNo) → service_of blank_control a ≡ None
blank_service a =
    let e = for_none blank_control a (λ i h. ap (is_for a) (get_or-replicate 8 i free free h)) in
    none_found blank_control a (omega arith)

fresh_inv : (shape : Shape) (a : ℕ) → a < shape.m → shape.m ≤ 64 → Inv (λ k. Invalid) (project (fresh_of shape) a) (flat_block (flat_of shape.m) a)
unfolding fresh_of blank_block
fresh_inv shape a h l =
    let e = entry shape a (omega arith) in
    blank_inv (project (fresh_of shape) a) (flat_block (flat_of shape.m) a)
    (each_lane (λ (x : Lane). Blank (seen shape.c (block_no a) x)) shape (blank_seen shape.c (block_no a)) (none_blank shape.c (block_no a) no_lane (λ i. refl) refl refl refl))
    (ap (λ (b : Block). length b.present) e)
    (λ k. ap (λ (b : Block). get_or b.present k false) e ∙ no_flag k)
    (ap (λ (b : Block). b.modified) e)
    (ap (λ (b : Block). b.words) e ∙ sym (flat_zeros shape.m a h))
    (blank_service (block_no a))

fresh_consistent : (shape : Shape) → bad_shape shape ≡ false → bad_limit shape ≡ false → Consistent (fresh_of shape) (flat_of shape.m)
unfolding fresh_of
fresh_consistent shape e f =
    record {
      sound = open_keeps shape e f;
      sized = open_sized shape;
      unique = each_lane (Unique shape.c) shape (none_unique shape.c blank_lane blank_none) (none_unique shape.c no_lane (λ i. refl));
      block = λ a h. ((λ k. Invalid), fresh_inv shape a h (shape_bounds shape e).5);
    }

-- an opening that isn't refused
pub opened_fresh : (shape : Shape) → (open_of shape).answer ≡ Ok Opened → (bad_shape shape ≡ false) × (bad_limit shape ≡ false) × ((open_of shape).store ≡ fresh_of shape)
unfolding open_of
opened_fresh shape e = on (bad_shape shape) (λ b. clash (cc (rw b at e))) (λ b. on (bad_limit shape) (λ l. clash (cc (rw (b, l) at e))) (λ l. (b, l, rw (b, l))))

pub open_consistent : (shape : Shape) → (open_of shape).answer ≡ Ok Opened → Consistent (open_of shape).store (flat_of shape.m)
open_consistent shape e = let p = opened_fresh shape e in rw p.2 (fresh_consistent shape p.0 p.1)

pub open_shape : (shape : Shape) → (open_of shape).answer ≡ Ok Opened → (open_of shape).store.shape ≡ shape
unfolding fresh_of
open_shape shape e = let p = opened_fresh shape e in rw p.2 refl

-- a lane that does not wait, whatever the test
rests_either : (b : Bool) (l : Lane) → l.waiting ≡ Idle → cond b (pending_of l.waiting) Rests ≡ Rests
rests_either true l e = rw e
rests_either false l e = refl

blank_idle : blank_lane.waiting ≡ Idle
unfolding blank_lane
blank_idle = refl

fresh_rests : (shape : Shape) (k : ℕ) → pending_in (fresh_of shape) k ≡ Rests
unfolding pending_in
fresh_rests shape k = rests_either (ltb k (fresh_of shape).shape.n) (lane_at (fresh_of shape) k) (each_lane (λ (l : Lane). l.waiting ≡ Idle) shape blank_idle refl k)

pub open_rests : (shape : Shape) → (open_of shape).answer ≡ Ok Opened → pending_in (open_of shape).store ≡ none_pending
open_rests shape e = let p = opened_fresh shape e in rw p.2 (fun_ext (fresh_rests shape))
