-- 02, W5: begin on a lane that waits, and where its load stands in the order of completion. Assumes nothing.
use Prim.Native.Nat.{ℕ, suc, ◌*◌, ◌<◌}
use mathlib.Core.Logic.{◌⊎◌, inl, inr}
use mathlib.Core.Path.{◌≡◌, refl, ap, ◌∙◌}
use mathlib.Core.Bool.{true, false, and-false}
use mathlib.Core.List.Memᴰ
use mathlib.Core.List.{List, ◌∷◌, ◌++◌, Memᴰ}
use lib.ListN.{length, get_or, set}
use lib.Seq.{set-get_or}
use native.Mathlib.Omega.{arith}
use Rattle.words.specs.declared.LaneNo.{LaneNo}
use Rattle.words.specs.declared.LineNo.{LineNo}
use Rattle.words.specs.declared.WordNo.{WordNo}
use Rattle.words.specs.declared.Line.{Line}
use Rattle.words.specs.declared.Op.{Op}
use Rattle.words.specs.declared.Op.TheVariants.{Load}
use Rattle.words.specs.declared.Shape.{Shape}
use Rattle.words.specs.Units.{block_of, place_of}
use Rattle.words.specs.Lines.{no_line, with_words}
use Rattle.words.specs.Operations.{is_load, perform_of}
use Rattle.queues.specs.Queues.{capacity}
use Rattle.lanes.specs.declared.Lane.{Lane}
use Rattle.lanes.specs.declared.Operation.{Operation}
use Rattle.lanes.specs.declared.Waiting.{Waiting}
use Rattle.lanes.specs.declared.Waiting.TheVariants.{Idle, Unserved, Served}
use Rattle.lanes.specs.Search.{line_at, search_of}
use Rattle.lanes.specs.UseOrder.{Insertion, used_of}
use Rattle.lanes.specs.Lanes.{with_lines, with_order}
use Rattle.lanes.specs.Waits.{idle_of}
use Rattle.answers.specs.declared.Answer.TheVariants.{Opened, Done}
use Rattle.answers.specs.declared.Completion.{Completion}
use Rattle.answers.specs.declared.Refusal.TheVariants.{LaneBusy}
use Rattle.store.specs.declared.Store.{Store}
use Rattle.store.specs.declared.Outcome.{Outcome}
use Rattle.store.specs.Opening.{open_of}
use Rattle.store.specs.Stores.{lane_at}
use Rattle.machine.specs.declared.LaneAnswer.TheVariants.{Value}
use Rattle.machine.specs.Machine.Corruption.{corrupt_of}
use Rattle.machine.specs.Machine.Change.{refuse, commit_lane}
use Rattle.machine.specs.Machine.Begin.{complete_with, hit, is_hit, admits_of, begin_lane, begin_admitted, begin_of}
use Rattle.machine.specs.Machine.Calls.{Call, Begin, Entry, Reply, Answers, call_of, run, history_of}
use Rattle.machine.specs.Claims.Attribution.{Begun, begun_at, LastWaits, no_waits, waits_after, origin_of, attribute, operations_of}
use Rattle.machine.specs.Claims.Demand3.{begun, operations}
use Rattle.machine.specs.Claims.LoadBeside.{BesideWait, LoadBesideWait, WaitsFor, StandsAhead, LoadStandsAhead}
use Rattle.machine.proofs.Rules.Rules.{begin_is, begin_rule}
use Rattle.machine.proofs.Bounds.KeepsLane.{clash}
use Rattle.machine.proofs.List.Owes.{Pending}
use Rattle.machine.proofs.List.Joined.{history_more, history_length, index_by, waits_by, index_length, attribute_more, operations_more, begun_more, begun_below}
use Rattle.machine.proofs.Store.Consistent.{pending_of}
use Rattle.machine.proofs.Store.ConsistentLane.{pending_here}
use Rattle.machine.proofs.Store.OrderOfMemory.{reaches, told, order_of_memory}
use Rattle.std.specs.Prelude.{Some, None, Ok}

-- a load leaves its line as it is, and so the lane but for the use order
load_line : (x : Line) (w : WordNo) → (perform_of x Load w).line ≡ x
load_line x w = ap (λ (ws : List ℕ). with_words ws x) (set-get_or x.words (place_of w) 0)

load_lane : (o : List LineNo) (i : LineNo) (w : WordNo) (l : Lane) → (complete_with o i (line_at l i) Load w l).lane ≡ with_order o l
unfolding complete_with
load_lane o i w l = ap (λ (ls : List Line). with_order o (with_lines ls l)) (ap (set l.lines i.0) (load_line (line_at l i) w) ∙ set-get_or l.lines i.0 no_line)

module _ (s : Store) (k : LaneNo) (w : WordNo) (sound : corrupt_of s ≡ false) (h : k.0 < s.shape.n) (inside : w.0 < 4 * s.shape.m) (busy : idle_of (lane_at s k.0).waiting ≡ false) where
  abbrev l : Lane
  l = lane_at s k.0

  -- what the lane takes, and what it doesn't
  admits_hit : (i : LineNo) → search_of l s.shape.c (block_of w) ≡ Some i → admits_of s.shape.c Load w l ≡ true
  unfolding admits_of
  admits_hit i e = rw (admits_of, busy, e)

  admits_no_miss : search_of l s.shape.c (block_of w) ≡ None → admits_of s.shape.c Load w l ≡ false
  unfolding admits_of
  admits_no_miss e = rw (admits_of, busy, e)

  admits_no_other : (op : Op) → is_load op ≡ false → admits_of s.shape.c op w l ≡ false
  unfolding admits_of
  admits_no_other op e = rw (admits_of, busy, e) (and-false (is_hit (search_of l s.shape.c (block_of w))))

  -- begin of an operation that the lane takes, and of one that it doesn't
  taken : (op : Op) → admits_of s.shape.c op w l ≡ true → begin_of s k op w ≡ begin_admitted s k op w
  taken op e = begin_is s k op w sound h inside ∙ rw e refl

  not_taken : (op : Op) → admits_of s.shape.c op w l ≡ false → begin_of s k op w ≡ refuse LaneBusy s
  not_taken op e = begin_is s k op w sound h inside ∙ rw e refl

  -- the lane's part of a load that hits
  load_part : (i : LineNo) → search_of l s.shape.c (block_of w) ≡ Some i →
      begin_lane capacity s.shape.c Load w l ≡ record { answer = Ok (Value (get_or (line_at l i).words (place_of w) 0)); lane = with_order (used_of s.shape.c i l.order) l }
  unfolding begin_lane hit complete_with
  load_part i e = rw (begin_lane, e) (λ j. record { answer = Ok (Value (get_or (line_at l i).words (place_of w) 0)); lane = load_lane (used_of s.shape.c i l.order) i w l j })

  pub beside : BesideWait s k w
  unfolding commit_lane
  beside = record {
    hits = λ i e d. taken Load (admits_hit i e) ∙ rw d (ap (commit_lane s k) (load_part i e));
    exhausted = λ i e d. taken Load (admits_hit i e) ∙ rw d refl;
    misses = λ e. not_taken Load (admits_no_miss e);
    others = λ op e. not_taken op (admits_no_other op e);
  }

pub beside_wait : LoadBesideWait
beside_wait = beside

-- what a lane waits for that waits for something
waits_for : (k : LaneNo) (y : Waiting) → idle_of y ≡ false → (o : Operation) × (pending_of y ≡ Pending.StillWaits o.op o.word) × ((i : ℕ) → WaitsFor y (begun_at i k o.op o.word))
waits_for k Idle e = clash (cc)
waits_for k (Unserved o) e = (o, refl, λ i. (refl, refl))
waits_for k (Served o) e = (o, refl, λ i. (refl, refl))

-- a begin that is answered with a completion, and what comes behind it
first_done : (i : ℕ) (last : LastWaits) (k : LaneNo) (op : Op) (w : WordNo) (x : Completion) (r : Reply) (es : List Entry) → r ≡ Answers (Ok (Done x)) →
    operations_of (attribute i last (record { call = Begin k op w; reply = r } ∷ es)) ≡ begun_at i k op w ∷ operations_of (attribute (suc i) (waits_after i last (Begin k op w) false) es)
unfolding attribute operations_of origin_of
first_done i last k op w x r es e = rw e refl

module _ (ins : Insertion) (shape : Shape) (calls : List Call) (k : LaneNo) (w : WordNo) (more : List Call) (opened : (open_of shape).answer ≡ Ok Opened) where
  abbrev now : Store
  now = (run ins (open_of shape).store calls).store

  abbrev before : List Entry
  before = history_of ins shape calls

  -- the load's index
  abbrev index : ℕ
  index = index_by 0 before

  index_is : index ≡ length calls
  index_is = let a = index_length 0 before in let b = history_length ins (open_of shape).store calls in omega arith

  module _ (busy : idle_of (lane_at now k.0).waiting ≡ false) (x : Completion) (done : (begin_of now k Load w).answer ≡ Ok (Done x)) where
    lane_there : k.0 < now.shape.n
    lane_there = begin_rule (λ (r : Outcome). r.answer ≡ Ok (Done x) → k.0 < now.shape.n) now k Load w (λ y e. clash (cc)) (λ r _. r.lane) done

    abbrev after : List Begun
    after = operations_of (attribute (suc index) (waits_after index (waits_by 0 no_waits before) (Begin k Load w) false) (run ins (call_of ins now (Begin k Load w)).store more).history)

    stands_there : operations (history_of ins shape (calls ++ (Begin k Load w ∷ more))) ≡ operations before ++ (begun_at (length calls) k Load w ∷ after)
    unfolding run call_of
    stands_there =
        ap operations (history_more ins (open_of shape).store calls (Begin k Load w ∷ more)) ∙
        ap operations_of (attribute_more 0 no_waits before _) ∙
        operations_more (attribute 0 no_waits before) _ ∙
        ap (λ (bs : List Begun). operations before ++ bs) (first_done index (waits_by 0 no_waits before) k Load w x _ _ (ap Answers done)) ∙
        ap (λ (i : ℕ). operations before ++ (begun_at i k Load w ∷ after)) index_is

    -- an operation begun before the load that had not completed then stands behind it
    comes_later : (b : Begun) → Memᴰ b (begun before) → (Memᴰ b (operations before) → ⊥) → Memᴰ b (operations before ++ (begun_at (length calls) k Load w ∷ after)) → Memᴰ b after
    comes_later b m n p = go (Memᴰ.append_cases (operations before) p)
      where
        go : Memᴰ b (operations before) ⊎ Memᴰ b (begun_at (length calls) k Load w ∷ after) → Memᴰ b after
        go (inl q) = absurd (n q)
        go (inr q) = elim (Memᴰ.cases_cons q) [
          | inl e ↦ (let i = begun_below 0 before b m in let j = history_length ins (open_of shape).store calls in let d = ap (λ (y : Begun). y.index) e in absurd (omega arith))
          | inr y ↦ y
        ]

    begun_still : (b : Begun) → Memᴰ b (begun before) → Memᴰ b (begun (history_of ins shape (calls ++ (Begin k Load w ∷ more))))
    begun_still b m = rw (history_more ins (open_of shape).store calls (Begin k Load w ∷ more), begun_more 0 before) (Memᴰ.append_left _ m)

    pub ahead : StandsAhead ins shape calls k w more
    ahead =
        let r = reaches ins shape calls opened in
        let y = waits_for k (lane_at now k.0).waiting busy in
        let n = (told ins shape calls opened).not_yet k y.0.op y.0.word (pending_here now r.0 r.1.consistent k.0 lane_there ∙ y.1) in
        record {
          waiting = begun_at n.0 k y.0.op y.0.word;
          lane = refl;
          what = y.2 n.0;
          was_begun = n.1;
          not_yet = n.2;
          rest = after;
          stands = stands_there;
          behind = λ q. comes_later _ n.1 n.2
              (rw stands_there at (((order_of_memory ins shape (calls ++ (Begin k Load w ∷ more)) opened).when_quiet q).all_completed _ (begun_still _ n.1)));
        }

pub stand_ahead : LoadStandsAhead
stand_ahead = ahead
