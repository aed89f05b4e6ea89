-- A rule for each call, by which the proofs go: what holds of every refusal, and of the step where nothing refuses it, holds of the call.
-- Most proofs go by these and not by the calls' text. A rule with `checks` in its name says of a refusal that it isn't 12. Assumes nothing.
use Prim.Native.Nat.{ℕ, ◌<◌, ◌*◌}
use mathlib.Core.Path.{◌≡◌, refl, ap, ◌∙◌}
use mathlib.Core.Bool.{Bool, true, false, cond, ◌||◌, ◌&&◌}
use mathlib.Core.Logic.{◌≢◌}
use lib.Dec.{leb, ltb, eqb}
use lib.ListN.{set}
use borrow.Author.Tests.{lt-leb, leb-true, leb-false, ltb-false, eqb-false, ne_eqb}
use native.Mathlib.Omega.{arith}
use Rattle.words.specs.declared.LaneNo.{LaneNo}
use Rattle.words.specs.declared.BlockNo.{BlockNo}
use Rattle.words.specs.declared.WordNo.{WordNo}
use Rattle.words.specs.declared.Op.{Op}
use Rattle.words.specs.Units.{block_of}
use Rattle.words.specs.Operations.{is_load}
use Rattle.words.proofs.Folds.{pick}
use Rattle.queues.specs.Queues.{capacity, empty_at, head_return}
use Rattle.lanes.specs.declared.Lane.{Lane}
use Rattle.lanes.specs.declared.Operation.{Operation}
use Rattle.lanes.specs.declared.Waiting.{Waiting}
use Rattle.lanes.specs.declared.Waiting.TheVariants.{Idle, Unserved, Served}
use Rattle.lanes.specs.Search.{search_of}
use Rattle.lanes.specs.Waits.{idle_of}
use Rattle.lanes.specs.UseOrder.{Insertion}
use Rattle.answers.specs.declared.Answer.{Answer}
use Rattle.answers.specs.declared.Answer.TheVariants.{Opened, Done, Wait, Step}
use Rattle.answers.specs.declared.Refusal.{Refusal}
use Rattle.answers.specs.declared.Refusal.TheVariants.{Corrupt, NoSuchLane, NoSuchWord, LaneBusy, NothingPending, ControlBusy, ReturnsPending, QueueFull, PlacesExhausted}
use Rattle.answers.specs.Refusals.{number_of, refused_of}
use Rattle.store.specs.declared.Store.{Store}
use Rattle.store.specs.declared.Outcome.{Outcome}
use Rattle.store.specs.Stores.{lane_at, block_at}
use Rattle.machine.specs.Machine.Begun.{begun_in, last_place, exhausted_of}
use Rattle.store.specs.Control.{busy_for}
use Rattle.machine.specs.declared.LaneAnswer.{LaneAnswer}
use Rattle.machine.specs.declared.LaneAnswer.TheVariants.{Value, Waits, Stepped}
use Rattle.machine.specs.Machine.Parts.{LaneStep}
use Rattle.machine.specs.Machine.Parts.{Move}
use Rattle.machine.specs.Machine.Corruption.{corrupt_of}
use Rattle.machine.specs.Machine.Change.{refuse, guarded, counted, answer_to, refused_in, lane_store, commit_lane, commit_move, some_full, moved_store}
use Rattle.machine.specs.Machine.Begin.{is_hit, admits_of, begin_lane, begin_admitted, begin_of}
use Rattle.machine.specs.Machine.Serve.{ready_with, ready_of, serve_ready, serve_move, serve_of}
use Rattle.machine.specs.Machine.Return.{return_move, return_of}
use Rattle.machine.specs.Machine.Deliver.{deliver_lane, deliver_of}
use Rattle.machine.proofs.Bounds.KeepsLane.{clash}
use Rattle.std.specs.Prelude.{None, Result, Ok, Err}

-- a refusal by another number than 12, as those are that a call checks before its part: only the part finds a queue full
abbrev pub OtherThan12 : Refusal → Type 0
OtherThan12 x = eqb (number_of x) 12 ≡ false

pub other_than_12 : (x : Refusal) → OtherThan12 x → number_of x ≢ 12
other_than_12 x e = eqb-false (number_of x) 12 e

-- 14, then 6
guarded_checks : (P : Outcome → Type 0) (s : Store) (k : LaneNo) (r : Outcome) → ((x : Refusal) → OtherThan12 x → P (refuse x s)) → (corrupt_of s ≡ false → k.0 < s.shape.n → P r) →
    P (guarded s k r)
guarded_checks P s k r stays next =
    pick P (corrupt_of s) (refuse Corrupt s) (cond (leb s.shape.n k.0) (refuse NoSuchLane s) r) (λ _. stays Corrupt refl)
    (λ e. pick P (leb s.shape.n k.0) (refuse NoSuchLane s) r (λ _. stays NoSuchLane refl) (λ q. next e (leb-false _ _ q)))

guarded_is : (s : Store) (k : LaneNo) (r : Outcome) → corrupt_of s ≡ false → k.0 < s.shape.n → guarded s k r ≡ r
guarded_is s k r e h = pick (λ (x : Outcome). x ≡ r) (corrupt_of s) _ _ (λ q. clash (cc)) (λ _. pick (λ (x : Outcome). x ≡ r) (leb s.shape.n k.0) _ _ (λ q. above q) (λ _. refl))
  where
    above : leb s.shape.n k.0 ≡ true → refuse NoSuchLane s ≡ r
    above q = let p = leb-true s.shape.n k.0 q in absurd (omega arith)

pub idle_waiting : (x : Waiting) → idle_of x ≡ true → x ≡ Idle
idle_waiting Idle e = refl
idle_waiting (Unserved o) e = clash (cc)
idle_waiting (Served o) e = clash (cc)

-- 8 does not refuse the operation: what misses, and what is no load, begins on a lane that waits for nothing
pub record Admitted (c : ℕ) (op : Op) (w : WordNo) (l : Lane) : Type 0 where
  pub miss : search_of l c (block_of w) ≡ None → l.waiting ≡ Idle
  pub write : is_load op ≡ false → l.waiting ≡ Idle

pub admitted : (c : ℕ) (op : Op) (w : WordNo) (l : Lane) → admits_of c op w l ≡ true → Admitted c op w l
unfolding admits_of
admitted c op w l e = record {
  miss = λ q. idle_waiting l.waiting (first (idle_of l.waiting) (is_hit (search_of l c (block_of w))) (is_load op) e (ap is_hit q));
  write = λ q. idle_waiting l.waiting (second (idle_of l.waiting) (is_hit (search_of l c (block_of w))) (is_load op) e q);
}
  where
    first : (i p q : Bool) → (i || (p && q)) ≡ true → p ≡ false → i ≡ true
    first true p q e f = refl
    first false true q e f = clash (cc)
    first false false q e f = clash (cc)

    second : (i p q : Bool) → (i || (p && q)) ≡ true → q ≡ false → i ≡ true
    second true p q e f = refl
    second false true q e f = clash (cc)
    second false false q e f = clash (cc)

-- nothing refuses a begin before the lane's part
pub record BeginReady (s : Store) (k : LaneNo) (op : Op) (w : WordNo) : Type 0 where
  pub sound : corrupt_of s ≡ false
  pub lane : k.0 < s.shape.n
  pub inside : (block_of w).0 < s.shape.m
  pub admits : Admitted s.shape.c op w (lane_at s k.0)
  pub left : begun_in s ≢ last_place

pub begin_checks : (P : Outcome → Type 0) (s : Store) (k : LaneNo) (op : Op) (w : WordNo) → ((x : Refusal) → OtherThan12 x → P (refuse x s)) →
    (BeginReady s k op w → P (commit_lane s k (begin_lane capacity s.shape.c op w (lane_at s k.0)))) → P (begin_of s k op w)
unfolding begin_of
begin_checks P s k op w stays next =
    guarded_checks P s k _ stays
    (λ c h. pick P (leb (4 * s.shape.m) w.0) _ _ (λ _. stays NoSuchWord refl)
    (λ e. pick P (admits_of s.shape.c op w (lane_at s k.0)) _ _
    (λ q. pick P (exhausted_of s) _ _ (λ _. stays PlacesExhausted refl)
    (λ d. next (record {
      sound = c;
      lane = h;
      inside = let v = leb-false (4 * s.shape.m) w.0 e in omega arith;
      admits = admitted s.shape.c op w (lane_at s k.0) q;
      left = eqb-false _ _ d;
    })))
    (λ _. stays LaneBusy refl)))

pub begin_rule : (P : Outcome → Type 0) (s : Store) (k : LaneNo) (op : Op) (w : WordNo) → ((x : Refusal) → P (refuse x s)) →
    (BeginReady s k op w → P (commit_lane s k (begin_lane capacity s.shape.c op w (lane_at s k.0)))) → P (begin_of s k op w)
begin_rule P s k op w stays next = begin_checks P s k op w (λ x _. stays x) next

-- begin where 14, 6 and 7 do not refuse it
pub begin_is : (s : Store) (k : LaneNo) (op : Op) (w : WordNo) → corrupt_of s ≡ false → k.0 < s.shape.n → w.0 < 4 * s.shape.m →
    begin_of s k op w ≡ cond (admits_of s.shape.c op w (lane_at s k.0)) (begin_admitted s k op w) (refuse LaneBusy s)
unfolding begin_of
begin_is s k op w c h i = guarded_is s k _ c h ∙ rw (lt-leb (4 * s.shape.m) w.0 i) refl

-- nothing refuses a serve before memory's part: operation o waits, unserved; its block has no service, and fewer than L are open; no return is queued
pub record ServeReady (s : Store) (k : LaneNo) (o : Operation) : Type 0 where
  pub sound : corrupt_of s ≡ false
  pub lane : k.0 < s.shape.n
  pub unserved : (lane_at s k.0).waiting ≡ Unserved o
  pub free : busy_for s.shape.limit s.control (block_of o.word) ≡ false
  pub clear : (lane_at s k.0).returns.len ≡ 0

-- serve where nothing refuses it
abbrev pub served : Store → LaneNo → Operation → Outcome
served s k o = commit_move s k (block_of o.word) (serve_move k o (lane_at s k.0) (block_at s (block_of o.word).0) s.control)

pub serve_checks : (P : Outcome → Type 0) (s : Store) (k : LaneNo) → ((x : Refusal) → OtherThan12 x → P (refuse x s)) → ((o : Operation) → ServeReady s k o → P (served s k o)) → P (serve_of s k)
unfolding serve_of ready_of
serve_checks P s k stays next = guarded_checks P s k _ stays (λ c h. go c h (lane_at s k.0).waiting refl)
  where
    go : corrupt_of s ≡ false → k.0 < s.shape.n → (w : Waiting) → (lane_at s k.0).waiting ≡ w → P (serve_ready (ready_with w (lane_at s k.0) s.shape.limit s.control) s k)
    go c h Idle e = stays NothingPending refl
    go c h (Served o) e = stays NothingPending refl
    go c h (Unserved o) e =
        pick (λ (y : Result Operation Refusal). P (serve_ready y s k)) (busy_for s.shape.limit s.control (block_of o.word)) _ _ (λ _. stays ControlBusy refl)
        (λ q. pick (λ (y : Result Operation Refusal). P (serve_ready y s k)) (ltb 0 (lane_at s k.0).returns.len) _ _ (λ _. stays ReturnsPending refl)
        (λ d. let p = ltb-false 0 (lane_at s k.0).returns.len d in next o (record { sound = c; lane = h; unserved = e; free = q; clear = omega arith })))

pub serve_rule : (P : Outcome → Type 0) (s : Store) (k : LaneNo) → ((x : Refusal) → P (refuse x s)) → ((o : Operation) → ServeReady s k o → P (served s k o)) → P (serve_of s k)
serve_rule P s k stays next = serve_checks P s k (λ x _. stays x) next

pub serve_is : (s : Store) (k : LaneNo) (o : Operation) → ServeReady s k o → serve_of s k ≡ served s k o
unfolding serve_of ready_of
serve_is s k o r = guarded_is s k _ r.sound r.lane ∙ rw (r.unserved, r.free, r.clear) refl

-- nothing refuses a return before memory's part
pub record ReturnReady (s : Store) (k : LaneNo) : Type 0 where
  pub sound : corrupt_of s ≡ false
  pub lane : k.0 < s.shape.n
  pub filled : (lane_at s k.0).returns.len ≢ 0

-- return where nothing refuses it
abbrev pub returned : Store → LaneNo → Outcome
returned s k =
    let x = head_return (lane_at s k.0).returns in
    commit_move s k x.block (return_move k x (lane_at s k.0) (block_at s x.block.0) s.control)

pub return_checks : (P : Outcome → Type 0) (s : Store) (k : LaneNo) → ((x : Refusal) → OtherThan12 x → P (refuse x s)) → (ReturnReady s k → P (returned s k)) → P (return_of s k)
unfolding return_of
return_checks P s k stays next =
    guarded_checks P s k _ stays
    (λ c h. pick P (empty_at (lane_at s k.0).returns.len) _ _ (λ _. stays NothingPending refl) (λ e. next (record { sound = c; lane = h; filled = eqb-false _ _ e })))

pub return_rule : (P : Outcome → Type 0) (s : Store) (k : LaneNo) → ((x : Refusal) → P (refuse x s)) → (ReturnReady s k → P (returned s k)) → P (return_of s k)
return_rule P s k stays next = return_checks P s k (λ x _. stays x) next

pub return_is : (s : Store) (k : LaneNo) → ReturnReady s k → return_of s k ≡ returned s k
unfolding return_of
return_is s k r = guarded_is s k _ r.sound r.lane ∙ rw (ne_eqb _ _ r.filled) refl

-- deliver: 9 is the lane's own
pub deliver_checks : (ins : Insertion) (P : Outcome → Type 0) (s : Store) (k : LaneNo) → ((x : Refusal) → OtherThan12 x → P (refuse x s)) →
    (corrupt_of s ≡ false → k.0 < s.shape.n → P (commit_lane s k (deliver_lane capacity ins s.shape.c (lane_at s k.0)))) → P (deliver_of ins s k)
unfolding deliver_of
deliver_checks ins P s k stays next = guarded_checks P s k _ stays next

pub deliver_rule : (ins : Insertion) (P : Outcome → Type 0) (s : Store) (k : LaneNo) → ((x : Refusal) → P (refuse x s)) →
    (corrupt_of s ≡ false → k.0 < s.shape.n → P (commit_lane s k (deliver_lane capacity ins s.shape.c (lane_at s k.0)))) → P (deliver_of ins s k)
deliver_rule ins P s k stays next = deliver_checks ins P s k (λ x _. stays x) next

pub deliver_is : (ins : Insertion) (s : Store) (k : LaneNo) → corrupt_of s ≡ false → k.0 < s.shape.n → deliver_of ins s k ≡ commit_lane s k (deliver_lane capacity ins s.shape.c (lane_at s k.0))
unfolding deliver_of
deliver_is ins s k c h = guarded_is s k _ c h

-- a call on a lane is refused where the lane's part is
pub answer_goes : (k : LaneNo) (done : ℕ) (a : Result LaneAnswer Refusal) → refused_of (answer_to k done a) ≡ refused_in a
answer_goes k done (Ok (Value v)) = refl
answer_goes k done (Ok Waits) = refl
answer_goes k done (Ok Stepped) = refl
answer_goes k done (Err x) = refl

-- a lane's part put back where it isn't refused
abbrev pub put_back : Store → LaneNo → LaneStep → Outcome
put_back s k r = record { answer = answer_to k (counted r.answer s.completions) r.answer; store = lane_store s k r }

-- a lane's part put back: refused, or lane k is another, and a completion is counted
pub lane_rule : (P : Outcome → Type 0) (s : Store) (k : LaneNo) (r : LaneStep) → ((x : Refusal) → r.answer ≡ Err x → P (refuse x s)) →
    (refused_in r.answer ≡ false → P (put_back s k r)) → P (commit_lane s k r)
unfolding commit_lane
lane_rule P s k r stays next = go r.answer refl
  where
    go : (a : Result LaneAnswer Refusal) → r.answer ≡ a → P (record { answer = (put_back s k r).answer; store = cond (refused_in r.answer) s (lane_store s k r) })
    go (Ok (Value v)) e = rw e (rw e at (next (rw e refl)))
    go (Ok Waits) e = rw e (rw e at (next (rw e refl)))
    go (Ok Stepped) e = rw e (rw e at (next (rw e refl)))
    go (Err x) e = rw e (stays x e)

-- memory's part put back: refused by what it says or by 12, or the store has moved
pub move_rule : (P : Outcome → Type 0) (s : Store) (k : LaneNo) (a : BlockNo) (v : Move) → ((x : Refusal) → P (refuse x s)) →
    (refused_of v.answer ≡ false → some_full capacity v.to (set s.lanes k.0 v.lane) ≡ false → P (record { answer = v.answer; store = moved_store s k a v })) →
    P (commit_move s k a v)
unfolding commit_move
move_rule P s k a v stays next =
    pick P (refused_of v.answer) _ _ (λ q. go v.answer q)
    (λ q. pick P (some_full capacity v.to _) _ _ (λ _. stays QueueFull) (λ e. next q e))
  where
    go : (x : Result Answer Refusal) → refused_of x ≡ true → P (record { answer = x; store = s })
    go (Ok Opened) q = clash (cc)
    go (Ok (Done y)) q = clash (cc)
    go (Ok Wait) q = clash (cc)
    go (Ok Step) q = clash (cc)
    go (Err x) q = stays x
