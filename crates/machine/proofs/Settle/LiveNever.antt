-- No call is refused by 12 on a store that an opening and any calls give, and its queues keep to 02's figure (W7): what a call adds to a queue finds room.
-- What it says is in specs/Claims/NeverFull.antt. Assumes nothing.
use Prim.Native.Nat.{ℕ, ◌-◌, ◌<◌, ◌≤◌}
use mathlib.Core.Logic.{◌⊎◌, inl, inr, ◌≢◌}
use mathlib.Core.Path.{◌≡◌, refl, sym, ap, ◌∙◌, subst}
use mathlib.Core.Bool.{false}
use mathlib.Core.List.Memᴰ
use mathlib.Core.List.{List, [], ◌∷◌, Memᴰ}
use native.Mathlib.Omega.{arith}
use Rattle.words.specs.declared.Shape.{Shape}
use Rattle.words.specs.declared.LaneNo.{LaneNo}
use Rattle.words.specs.declared.WordNo.{WordNo}
use Rattle.words.specs.declared.Op.{Op}
use Rattle.words.proofs.Folds.{below?}
use Rattle.queues.specs.Queues.{capacity}
use Rattle.lanes.specs.UseOrder.{Insertion}
use Rattle.answers.specs.declared.Answer.{Answer}
use Rattle.answers.specs.declared.Answer.TheVariants.{Opened, Done, Wait, Step}
use Rattle.answers.specs.declared.Refusal.TheVariants.{NothingPending}
use Rattle.answers.specs.Refusals.{refused_of}
use Rattle.store.specs.declared.Store.{Store}
use Rattle.store.specs.declared.Outcome.{Outcome}
use Rattle.store.specs.Opening.{open_of}
use Rattle.store.specs.Stores.{lane_at}
use Rattle.machine.specs.Machine.Parts.{LaneStep}
use Rattle.machine.specs.Machine.Corruption.{corrupt_of}
use Rattle.machine.specs.Machine.Change.{refused_in, commit_lane}
use Rattle.machine.specs.Machine.Begin.{begin_of}
use Rattle.machine.specs.Machine.Serve.{serve_of}
use Rattle.machine.specs.Machine.Return.{return_of}
use Rattle.machine.specs.Machine.Deliver.{deliver_lane, deliver_of}
use Rattle.machine.specs.Machine.Settle.{settle_of}
use Rattle.machine.specs.Machine.Calls.{Call, Begin, Serve, Return, Deliver, Settle, SettledWith, Entry, call_of, run}
use Rattle.machine.specs.Claims.NeverFull.{refusal_number, refused_by, NeverFull, ShortQueues, QueuesStayShort}
use Rattle.machine.proofs.Laws.Sets.{same?}
use Rattle.machine.proofs.Bounds.KeepsLane.{clash}
use Rattle.machine.proofs.Store.OrderOfMemory.{order_of_memory}
use Rattle.machine.proofs.Settle.LiveShort.{smaller_first, queues_short}
use Rattle.machine.proofs.Settle.LiveBegin.{begin_goes}
use Rattle.machine.proofs.Settle.LiveDeliver.{deliver_lane_goes}
use Rattle.machine.proofs.Settle.LiveMemory.{returned_goes, served_goes}
use Rattle.machine.proofs.Settle.Lively.{Lively, open_lively, call_lively, run_lively}
use Rattle.machine.proofs.Settle.LiveSettle.{settle_goes}
use Rattle.machine.proofs.Rules.Rules.{other_than_12, begin_checks, serve_checks, return_checks, deliver_checks, served, returned, answer_goes}
use Rattle.std.specs.Prelude.{Result, Ok, Err}
use Rattle.answers.specs.declared.Refusal.{Refusal}
use Rattle.machine.specs.declared.SettleCounts.{SettleCounts}

-- the answer isn't 12
abbrev NotFull : Outcome → Type 0
NotFull r = refusal_number r.answer ≢ 12

-- no refusal
goes_not_full : (a : Result Answer Refusal) → refused_of a ≡ false → refusal_number a ≢ 12
goes_not_full (Ok Opened) e q = absurd (omega arith)
goes_not_full (Ok (Done x)) e q = absurd (omega arith)
goes_not_full (Ok Wait) e q = absurd (omega arith)
goes_not_full (Ok Step) e q = absurd (omega arith)
goes_not_full (Err r) e q = clash (cc)

-- a lane's part that isn't refused, put back
lane_not_full : (s : Store) (k : LaneNo) (r : LaneStep) → refused_in r.answer ≡ false → NotFull (commit_lane s k r)
unfolding commit_lane
lane_not_full s k r e = goes_not_full (commit_lane s k r).answer (answer_goes k _ r.answer ∙ e)

module _ (s : Store) (l : Lively s) where
  begin_not_full : (k : LaneNo) (op : Op) (w : WordNo) → NotFull (begin_of s k op w)
  begin_not_full k op w = begin_checks NotFull s k op w other_than_12 (λ r. lane_not_full s k _ (begin_goes s l.flat l.consistent l.live k op w r))

  serve_not_full : (k : LaneNo) → NotFull (serve_of s k)
  serve_not_full k = serve_checks NotFull s k other_than_12 (λ o r. goes_not_full (served s k o).answer (served_goes s l.flat l.consistent l.live k r.lane o r))

  return_not_full : (k : LaneNo) → NotFull (return_of s k)
  return_not_full k = return_checks NotFull s k other_than_12 (λ r. goes_not_full (returned s k).answer (returned_goes s l.flat l.consistent l.live k r.lane r.filled))

  -- 9 where nothing is under way to the lane
  deliver_not_full : (ins : Insertion) (k : LaneNo) → NotFull (deliver_of ins s k)
  unfolding deliver_lane commit_lane
  deliver_not_full ins k = deliver_checks ins NotFull s k other_than_12 (λ c h. go c h (same? (lane_at s k.0).downs.len 0))
    where
      go : corrupt_of s ≡ false → k.0 < s.shape.n → ((lane_at s k.0).downs.len ≡ 0) ⊎ ((lane_at s k.0).downs.len ≢ 0) → NotFull (commit_lane s k (deliver_lane capacity ins s.shape.c (lane_at s k.0)))
      go c h (inl e) = rw e (other_than_12 NothingPending refl)
      go c h (inr n) = lane_not_full s k (deliver_lane capacity ins s.shape.c (lane_at s k.0)) (deliver_lane_goes ins s l.flat l.consistent l.live k h n)

  -- a call, settle included
  pub call_not_full : (ins : Insertion) (x : Call) → refused_by (call_of ins s x).reply ≢ 12
  unfolding call_of
  call_not_full ins (Begin k op w) = begin_not_full k op w
  call_not_full ins (Serve k) = serve_not_full k
  call_not_full ins (Return k) = return_not_full k
  call_not_full ins (Deliver k) = deliver_not_full ins k
  call_not_full ins Settle = λ q. let e = ap (λ (a : Result SettleCounts Refusal). refused_by (SettledWith a (settle_of ins s).completions)) (settle_goes ins s l).answer in absurd (omega arith)

  -- the queues of every lane; past the n lanes they are empty
  lively_short : (k : ℕ) → ShortQueues s.shape (lane_at s k)
  lively_short k = go (below? k s.shape.n)
    where
      go : (k < s.shape.n) ⊎ (s.shape.n ≤ k) → ShortQueues s.shape (lane_at s k)
      go (inl h) = queues_short s l.flat l.consistent l.live k h
      go (inr h) = let r = (l.spare k h).returns in let d = (l.spare k h).downs in record { returns = omega arith; downs = omega arith; together = omega arith }

-- with L = 1 a queue has at most two messages
pub lively_two : (s : Store) → Lively s → s.shape.limit ≡ 1 → (k : ℕ) → ((lane_at s k).returns.len ≤ 2) × ((lane_at s k).downs.len ≤ 2)
lively_two s l e k =
    let q = lively_short s l k in
    let r = q.returns in
    let d = q.downs in
    let z = smaller_first s.shape.limit (s.shape.n - 1) in
    (omega arith, omega arith)

-- a list of calls
run_not_full : (ins : Insertion) (s : Store) (calls : List Call) → Lively s → (e : Entry) → Memᴰ e (run ins s calls).history → refused_by e.reply ≢ 12
unfolding run
run_not_full ins s [] l e m = absurd (Memᴰ.not-nil m)
run_not_full ins s (x ∷ calls) l e m = go (Memᴰ.cases_cons m) (run_not_full ins (call_of ins s x).store calls (call_lively ins s x l) e)
  where
    go : (e ≡ record { call = x; reply = (call_of ins s x).reply }) ⊎ Memᴰ e (run ins (call_of ins s x).store calls).history →
        (Memᴰ e (run ins (call_of ins s x).store calls).history → refused_by e.reply ≢ 12) → refused_by e.reply ≢ 12
    go (inl q) rest = λ z. call_not_full s l ins x (ap (λ (y : Entry). refused_by y.reply) (sym q) ∙ z)
    go (inr n) rest = rest n

-- from an opening
pub never_full : NeverFull
never_full ins shape calls e = run_not_full ins (open_of shape).store calls (open_lively shape e)

pub stay_short : QueuesStayShort
stay_short ins shape calls e k =
    subst (λ (z : Shape). ShortQueues z (lane_at (run ins (open_of shape).store calls).store k)) (order_of_memory ins shape calls e).same
    (lively_short (run ins (open_of shape).store calls).store (run_lively ins (open_of shape).store calls (open_lively shape e)) k)
