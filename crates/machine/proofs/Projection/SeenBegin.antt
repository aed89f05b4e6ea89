-- What the lane's part of begin does to the lane, as each block sees it. Assumes nothing.
use Prim.Native.Nat.{ℕ, ◌<◌, ◌≤◌}
use mathlib.Core.Logic.{◌≢◌}
use mathlib.Core.Path.{◌≡◌, refl, ap, sym, ◌∙◌}
use mathlib.Core.Bool.{Bool, true, false, cond, ◌||◌}
use mathlib.Core.List.{List, [], ◌∷◌, ◌++◌}
use lib.Dec.{leb}
use lib.ListN.{length}
use borrow.Author.Tests.{leb-false, eq-eqb, ne_eqb}
use native.Mathlib.Omega.{arith}
use Rattle.words.specs.declared.LineNo.{LineNo}
use Rattle.words.specs.declared.WordNo.{WordNo}
use Rattle.words.specs.declared.BlockNo.{BlockNo}
use Rattle.words.specs.declared.Line.{Line}
use Rattle.words.specs.declared.Op.{Op}
use Rattle.words.specs.Units.{block_of}
use Rattle.words.specs.Lines.{holds_of, invalid}
use Rattle.words.specs.Operations.{perform_of, is_load}
use Rattle.words.proofs.Folds.{or_left, or_right, pick}
use Rattle.queues.specs.Messages.{ReturnMessage}
use Rattle.queues.specs.Queues.{ReturnQueue, full_at}
use Rattle.queues.specs.Queues.{capacity, after_push, full_at}
use Rattle.lanes.specs.declared.Lane.{Lane}
use Rattle.lanes.specs.declared.Command.{Command}
use Rattle.lanes.specs.declared.Command.TheVariants.{Exclude}
use Rattle.lanes.specs.declared.Operation.{Operation}
use Rattle.lanes.specs.declared.Waiting.{Waiting}
use Rattle.lanes.specs.declared.Waiting.TheVariants.{Idle, Unserved, Served}
use Rattle.lanes.specs.Search.{line_at, search_of, vacant_of}
use Rattle.lanes.specs.UseOrder.{used_of, place_at}
use Rattle.lanes.specs.Lanes.{with_waiting, with_returns, with_line}
use Rattle.answers.specs.declared.Refusal.{Refusal}
use Rattle.answers.specs.declared.Refusal.TheVariants.{QueueFull}
use Rattle.machine.specs.Machine.Parts.{LaneStep}
use Rattle.machine.specs.declared.LaneAnswer.TheVariants.{Value, Waits}
use Rattle.machine.specs.Machine.Change.{refuse_lane}
use Rattle.machine.specs.Machine.Begin.{complete_with, complete, waits, hit, read_of, eject_of, evict, miss_with, miss, begin_at, begin_lane}
use Rattle.machine.specs.Machine.Sized.{LaneSized}
use Rattle.machine.proofs.Laws.Tests.{on}
use Rattle.machine.proofs.Bounds.KeepsLane.{clash}
use Rattle.machine.proofs.Bounds.KeepsBegin.{all_valid}
use Rattle.machine.proofs.Rules.Rules.{Admitted}
use Rattle.machine.proofs.Protocol.BlockState.{Status, Invalid, Shared, Modified, held, dirty, Seen, keep_if, return_about, down_about, waiting_on, seen, value_done}
use Rattle.machine.proofs.Protocol.Moves.{hit_seen, wait_seen, evict_seen, ejection}
use Rattle.machine.proofs.Projection.Queued.{queued_returns, queued_downs, push_returns, keep_join}
use Rattle.machine.proofs.Laws.Lines.{holds_valid, valid_holds, other_holds}
use Rattle.machine.proofs.Projection.Searches.{Unique, Changed, set_changed, Alone, replace_alone, SameLine, unique_changed, changed_found, changed_gone, changed_other, found_holds, none_holds, search_at}
use Rattle.std.specs.Prelude.{Option, Some, None, Ok, Err}

-- what block a sees of a lane whose line of it is x, and of one that has no line of it
abbrev pub held_as : BlockNo → Line → Lane → Seen
held_as a x l = record {
  line = cond x.private Modified Shared;
  words = x.words;
  returns = keep_if (return_about a) (queued_returns l.returns);
  downs = keep_if (down_about a) (queued_downs l.downs);
  waiting = waiting_on a l.waiting;
}

abbrev pub not_held : BlockNo → Lane → Seen
not_held a l = record {
  line = Invalid;
  words = [];
  returns = keep_if (return_about a) (queued_returns l.returns);
  downs = keep_if (down_about a) (queued_downs l.downs);
  waiting = waiting_on a l.waiting;
}

-- a line found is a copy, and dirty if it is PRIVATE
pub held_line : (p : Bool) → held (cond p Modified Shared) ≡ true
held_line true = refl
held_line false = refl

pub dirty_line : (p : Bool) → dirty (cond p Modified Shared) ≡ p
dirty_line true = refl
dirty_line false = refl

module _ (c : ℕ) (a : BlockNo) where
  pub seen_held : (l : Lane) (i : LineNo) → search_of l c a ≡ Some i → seen c a l ≡ held_as a (line_at l i) l
  unfolding seen
  seen_held l i e = rw e

  pub seen_none : (l : Lane) → search_of l c a ≡ None → seen c a l ≡ not_held a l
  unfolding seen
  seen_none l e = rw e

  -- a lane that waits for something else
  pub seen_waiting : (x : Waiting) (l : Lane) → seen c a (with_waiting x l) ≡ wait_seen (waiting_on a x) (seen c a l)
  unfolding seen
  seen_waiting x l = refl

  -- an idle lane
  pub seen_idle : (l : Lane) → l.waiting ≡ Idle → (seen c a l).waiting ≡ Idle
  unfolding seen
  seen_idle l e = ap (waiting_on a) e

  -- the block sees the same: its line and all that is about it are as before
  pub seen_same : (l l' : Lane) → SameLine c a l l' → keep_if (return_about a) (queued_returns l'.returns) ≡ keep_if (return_about a) (queued_returns l.returns) →
      keep_if (down_about a) (queued_downs l'.downs) ≡ keep_if (down_about a) (queued_downs l.downs) → waiting_on a l'.waiting ≡ waiting_on a l.waiting →
      seen c a l' ≡ seen c a l
  unfolding seen
  seen_same l l' p q r s = λ i. record { line = p.line i; words = p.words i; returns = q i; downs = r i; waiting = s i }

-- an operation is on its word's block, and on no other
pub waiting_here : (o : Operation) (a : BlockNo) → (block_of o.word).0 ≡ a.0 → (waiting_on a (Unserved o) ≡ Unserved o) × (waiting_on a (Served o) ≡ Served o)
waiting_here o a e = let t = eq-eqb (block_of o.word).0 a.0 e in (rw t, rw t)

pub waiting_other : (o : Operation) (a : BlockNo) → a.0 ≢ (block_of o.word).0 → (waiting_on a (Unserved o) ≡ Idle) × (waiting_on a (Served o) ≡ Idle)
waiting_other o a n = let t = ne_eqb (block_of o.word).0 a.0 (λ e. n (sym e)) in (rw t, rw t)

-- an operation completes on line i with the contents x, which are valid and of a block that no other valid line has; the use order after it
-- is any (o): a block sees nothing of it
module _ (o : List LineNo) (c : ℕ) (l : Lane) (long : c ≤ length l.lines) (u : Unique c l) (i : LineNo) (x : Line) (op : Op) (w : WordNo) (h : i.0 < c) (v : x.valid ≡ true) (alone : Alone c i x l) where
  complete_changed : Changed i (perform_of x op w).line l (complete_with o i x op w l).lane
  unfolding complete_with
  complete_changed = set_changed i (perform_of x op w).line l _ refl (omega arith)

  pub complete_unique : Unique c (complete_with o i x op w l).lane
  complete_unique = unique_changed c i (perform_of x op w).line l _ complete_changed u (λ _. alone)

  pub complete_here : (a : BlockNo) → x.block.0 ≡ a.0 → seen c a (complete_with o i x op w l).lane ≡ held_as a (perform_of x op w).line l
  unfolding complete_with
  complete_here a e =
      let f = changed_found c i (perform_of x op w).line l _ complete_changed complete_unique h a (valid_holds (perform_of x op w).line a v e) in
      seen_held c a (complete_with o i x op w l).lane i f ∙ ap (λ (y : Line). held_as a y l) complete_changed.here

  pub complete_others : (a : BlockNo) → a.0 ≢ x.block.0 → holds_of (line_at l i) a ≡ false → seen c a (complete_with o i x op w l).lane ≡ seen c a l
  unfolding complete_with
  complete_others a n f =
      let s = changed_other c i (perform_of x op w).line l (complete_with o i x op w l).lane complete_changed a complete_unique f (other_holds (perform_of x op w).line a (λ q. n (sym q))) in
      seen_same c a l (complete_with o i x op w l).lane s refl refl refl

-- a queue that took a message had a free place
pub push_room : (q : ReturnQueue) (m : ReturnMessage) → (full_at capacity q.len) ≡ false → q.len < capacity
push_room q m e = on (leb capacity q.len) (λ t. clash (cc (rw t at e))) (λ t. leb-false capacity q.len t)

-- a message joins the return queue: the block it is about sees it, the others do not
module _ (q : ReturnQueue) (m : ReturnMessage) (z : length q.at ≡ capacity) (room : q.len < capacity) (a : BlockNo) where
  returns_after : keep_if (return_about a) (queued_returns (after_push capacity q m)) ≡ cond (return_about a m) (keep_if (return_about a) (queued_returns q) ++ (m ∷ [])) (keep_if (return_about a) (queued_returns q))
  returns_after = ap (keep_if (return_about a)) (push_returns q m z room) ∙ keep_join (return_about a) (queued_returns q) m

  pub returns_here : m.block.0 ≡ a.0 → keep_if (return_about a) (queued_returns (after_push capacity q m)) ≡ keep_if (return_about a) (queued_returns q) ++ (m ∷ [])
  returns_here e = returns_after ∙ rw (eq-eqb m.block.0 a.0 e)

  pub returns_other : m.block.0 ≢ a.0 → keep_if (return_about a) (queued_returns (after_push capacity q m)) ≡ keep_if (return_about a) (queued_returns q)
  returns_other n = returns_after ∙ rw (ne_eqb m.block.0 a.0 n)

-- the ejection of a line is about its block, and is the one that the block sees
eject_block : (x : Line) → (eject_of x).block ≡ x.block
eject_block x = on x.private (λ p. rw p) (λ p. rw p)

eject_seen : (x : Line) (l : Lane) → ejection x.block (held_as x.block x l) ≡ eject_of x
eject_seen x l = on x.private (λ p. rw p) (λ p. rw p)

-- the lane with line i given up
abbrev pub evicted : LineNo → Lane → Lane
evicted i l = with_returns (after_push capacity l.returns (eject_of (line_at l i))) (with_line i (invalid (line_at l i)) l)

-- line i is given up: it is valid, and the return queue has a free place
module _ (c : ℕ) (l : Lane) (z : LaneSized l) (b : c ≤ 8) (u : Unique c l) (i : LineNo) (h : i.0 < c) (v : (line_at l i).valid ≡ true) (room : l.returns.len < capacity) where
  evict_changed : Changed i (invalid (line_at l i)) l (evicted i l)
  evict_changed = let s = z.lines in set_changed i (invalid (line_at l i)) l (evicted i l) refl (omega arith)

  pub evict_unique : Unique c (evicted i l)
  evict_unique = unique_changed c i (invalid (line_at l i)) l (evicted i l) evict_changed u (λ q. clash (cc))

  evict_seen_lem : seen c (line_at l i).block l ≡ held_as (line_at l i).block (line_at l i) l
  evict_seen_lem = seen_held c (line_at l i).block l i (search_at c l u (line_at l i).block i.0 h (valid_holds (line_at l i) (line_at l i).block v refl))

  pub evict_copy : held (seen c (line_at l i).block l).line ≡ true
  evict_copy = ap (λ (x : Seen). held x.line) evict_seen_lem ∙ held_line (line_at l i).private

  pub evict_here : seen c (line_at l i).block (evicted i l) ≡ evict_seen (line_at l i).block (seen c (line_at l i).block l)
  evict_here =
      let a = (line_at l i).block in
      let e = valid_holds (line_at l i) a v refl in
      let r = returns_here l.returns (eject_of (line_at l i)) z.returns room a (ap (λ (x : BlockNo). x.0) (eject_block (line_at l i))) in
      let s = ap (λ (m : ReturnMessage). keep_if (return_about a) (queued_returns l.returns) ++ (m ∷ [])) (sym (eject_seen (line_at l i) l)) in
      let t : not_held (line_at l i).block (evicted i l) ≡ evict_seen (line_at l i).block (held_as (line_at l i).block (line_at l i) l) =
      λ j. record { line = Invalid; words = []; returns = (r ∙ s) j; downs = keep_if (down_about a) (queued_downs l.downs); waiting = waiting_on a l.waiting } in
      seen_none c a (evicted i l) (changed_gone c i (invalid (line_at l i)) l (evicted i l) evict_changed a u h e refl) ∙ t ∙ ap (evict_seen a) (sym evict_seen_lem)

  pub evict_others : (a : BlockNo) → a.0 ≢ (line_at l i).block.0 → seen c a (evicted i l) ≡ seen c a l
  evict_others a n =
      let s = changed_other c i (invalid (line_at l i)) l (evicted i l) evict_changed a evict_unique (other_holds (line_at l i) a (λ q. n (sym q))) refl in
      let e = ap (λ (x : BlockNo). x.0) (eject_block (line_at l i)) in
      seen_same c a l (evicted i l) s (returns_other l.returns (eject_of (line_at l i)) z.returns room a (λ q. n (sym q ∙ e))) refl refl

-- begin completes on a held line; what the lane waits for, it waits for still
pub record HitCase (c : ℕ) (op : Op) (w : WordNo) (l : Lane) (r : LaneStep) : Type 0 where
  pub answer : r.answer ≡ Ok (Value (value_done op w (seen c (block_of w) l).words))
  pub copy : held (seen c (block_of w) l).line ≡ true
  pub able : (is_load op || dirty (seen c (block_of w) l).line) ≡ true
  pub here : seen c (block_of w) r.lane ≡ hit_seen op w (seen c (block_of w) l)
  pub others : (a : BlockNo) → a.0 ≢ (block_of w).0 → seen c a r.lane ≡ seen c a l
  pub waiting : r.lane.waiting ≡ l.waiting
  pub unique : Unique c r.lane

-- the operation that a begin call leaves waiting
abbrev pub asked : Command → Op → WordNo → Operation
asked x op w = record { command = x; op = op; word = w }

-- begin waits with command x, where the lane waited for nothing and has s of the block
pub record WaitCase (c : ℕ) (op : Op) (w : WordNo) (x : Command) (s : Status) (l : Lane) (r : LaneStep) : Type 0 where
  pub idle : l.waiting ≡ Idle
  pub answer : r.answer ≡ Ok Waits
  pub line : (seen c (block_of w) l).line ≡ s
  pub here : seen c (block_of w) r.lane ≡ wait_seen (Unserved (asked x op w)) (seen c (block_of w) l)
  pub waiting : r.lane.waiting ≡ Unserved (asked x op w)
  pub unique : Unique c r.lane

-- .. with EXCLUDE
pub record ExcludeCase (c : ℕ) (op : Op) (w : WordNo) (l : Lane) (r : LaneStep) : Type 0 where
  pub wait : WaitCase c op w Exclude Shared l r
  pub store : is_load op ≡ false
  pub others : (a : BlockNo) → a.0 ≢ (block_of w).0 → seen c a r.lane ≡ seen c a l

-- .. with READ, and a line is vacant
pub record ReadCase (c : ℕ) (op : Op) (w : WordNo) (l : Lane) (r : LaneStep) : Type 0 where
  pub wait : WaitCase c op w (read_of op) Invalid l r
  pub others : (a : BlockNo) → a.0 ≢ (block_of w).0 → seen c a r.lane ≡ seen c a l

-- .. with READ, and the oldest line, of another block, is given up
pub record EvictCase (c : ℕ) (op : Op) (w : WordNo) (l : Lane) (r : LaneStep) : Type 0 where
  pub wait : WaitCase c op w (read_of op) Invalid l r
  pub victim : BlockNo
  pub apart : victim.0 ≢ (block_of w).0
  pub copy : held (seen c victim l).line ≡ true
  pub there : seen c victim r.lane ≡ evict_seen victim (seen c victim l)
  pub others : (a : BlockNo) → a.0 ≢ (block_of w).0 → a.0 ≢ victim.0 → seen c a r.lane ≡ seen c a l

-- a refusal leaves the lane as it was
pub record RefusedCase (l : Lane) (r : LaneStep) : Type 0 where
  pub reason : Refusal
  pub answer : r.answer ≡ Err reason
  pub same : r.lane ≡ l

pub data BeginCase (c : ℕ) (op : Op) (w : WordNo) (l : Lane) (r : LaneStep) : Type 0 where
  Hits : HitCase c op w l r → BeginCase c op w l r
  Excludes : ExcludeCase c op w l r → BeginCase c op w l r
  Reads : ReadCase c op w l r → BeginCase c op w l r
  Evicts : EvictCase c op w l r → BeginCase c op w l r
  Refuses : RefusedCase l r → BeginCase c op w l r

module _ (c : ℕ) (op : Op) (w : WordNo) (l : Lane) (z : LaneSized l) (b : c ≤ 8) (u : Unique c l) (admits : Admitted c op w l) where
  -- a lane that waits with a command, seen by the operation's block and by another
  wait_here : (x : Command) (l' : Lane) → seen c (block_of w) (with_waiting (Unserved (asked x op w)) l') ≡ wait_seen (Unserved (asked x op w)) (seen c (block_of w) l')
  wait_here x l' =
      seen_waiting c (block_of w) (Unserved (asked x op w)) l' ∙
      ap (λ (y : Waiting). wait_seen y (seen c (block_of w) l')) (waiting_here (asked x op w) (block_of w) refl).0

  wait_other : (x : Command) (l' : Lane) → l'.waiting ≡ Idle → (a : BlockNo) → a.0 ≢ (block_of w).0 → seen c a (with_waiting (Unserved (asked x op w)) l') ≡ seen c a l'
  wait_other x l' e a n =
      seen_waiting c a (Unserved (asked x op w)) l' ∙
      ap (λ (y : Waiting). wait_seen y (seen c a l')) ((waiting_other (asked x op w) a n).0 ∙ sym (seen_idle c a l' e))

  -- Search finds line i
  module _ (i : LineNo) (e : search_of l c (block_of w) ≡ Some i) where
    hit_seen_lem : seen c (block_of w) l ≡ held_as (block_of w) (line_at l i) l
    hit_seen_lem = seen_held c (block_of w) l i e

    hit_below : i.0 < c
    hit_below = (found_holds c l (block_of w) i e).0

    hit_valid : ((line_at l i).valid ≡ true) × ((line_at l i).block.0 ≡ (block_of w).0)
    hit_valid = holds_valid (line_at l i) (block_of w) (found_holds c l (block_of w) i e).1

    hit_alone : Alone c i (line_at l i) l
    hit_alone = replace_alone c i (line_at l i) l u hit_below hit_valid.0 refl

    hit_case : (is_load op || (line_at l i).private) ≡ true → HitCase c op w l (complete c i (line_at l i) op w l)
    unfolding complete_with
    hit_case t =
        let long : c ≤ length l.lines = let n = z.lines in omega arith in
        record {
          answer = ap (λ (x : Seen). (Ok (Value (value_done op w x.words)))) (sym hit_seen_lem);
          copy = ap (λ (x : Seen). held x.line) hit_seen_lem ∙ held_line (line_at l i).private;
          able = ap (λ (x : Seen). is_load op || dirty x.line) hit_seen_lem ∙ ap (λ (p : Bool). is_load op || p) (dirty_line (line_at l i).private) ∙ t;
          here = complete_here (used_of c i l.order) c l long u i (line_at l i) op w hit_below hit_valid.0 hit_alone (block_of w) hit_valid.1 ∙ ap (hit_seen op w) (sym hit_seen_lem);
          others = λ a n. complete_others (used_of c i l.order) c l long u i (line_at l i) op w hit_below hit_valid.0 hit_alone a (λ q. n (q ∙ hit_valid.1))
              (other_holds (line_at l i) a (λ q. n (sym q ∙ hit_valid.1)));
          waiting = refl;
          unique = complete_unique (used_of c i l.order) c l long u i (line_at l i) op w hit_below hit_valid.0 hit_alone;
        }

    exclude_case : (is_load op || (line_at l i).private) ≡ false → ExcludeCase c op w l (waits Exclude op w l)
    exclude_case f =
        let idle = admits.write (or_left (is_load op) (line_at l i).private f) in
        record {
          wait = record {
            idle = idle;
            answer = refl;
            line = ap (λ (x : Seen). x.line) hit_seen_lem ∙ ap (λ (p : Bool). cond p Modified Shared) (or_right (is_load op) (line_at l i).private f);
            here = wait_here Exclude l;
            waiting = refl;
            unique = u;
          };
          store = or_left (is_load op) (line_at l i).private f;
          others = wait_other Exclude l idle;
        }

    at_case : BeginCase c op w l (hit c i op w l)
    unfolding hit
    at_case = on (is_load op || (line_at l i).private) (λ t. rw t (Hits (hit_case t))) (λ t. rw t (Excludes (exclude_case t)))

  -- Search finds nothing
  module _ (e : search_of l c (block_of w) ≡ None) where
    idle : l.waiting ≡ Idle
    idle = admits.miss e

    miss_line : (seen c (block_of w) l).line ≡ Invalid
    miss_line = ap (λ (x : Seen). x.line) (seen_none c (block_of w) l e)

    read_case : ReadCase c op w l (waits (read_of op) op w l)
    read_case =
        record {
          wait = record { idle = idle; answer = refl; line = miss_line; here = wait_here (read_of op) l; waiting = refl; unique = u };
          others = wait_other (read_of op) l idle;
        }

    evict_case : (i : LineNo) → i.0 < c → (line_at l i).valid ≡ true → l.returns.len < capacity → EvictCase c op w l (waits (read_of op) op w (evicted i l))
    evict_case i h v room =
        record {
          wait = record {
            idle = idle;
            answer = refl;
            line = miss_line;
            here = wait_here (read_of op) (evicted i l) ∙ ap (wait_seen (Unserved (asked (read_of op) op w))) (evict_others c l z b u i h v room (block_of w) (λ q. apart (sym q)));
            waiting = refl;
            unique = evict_unique c l z b u i h v room;
          };
          victim = (line_at l i).block;
          apart = apart;
          copy = evict_copy c l z b u i h v room;
          there = wait_other (read_of op) (evicted i l) idle (line_at l i).block apart ∙ evict_here c l z b u i h v room;
          others = λ a n m. wait_other (read_of op) (evicted i l) idle a n ∙ evict_others c l z b u i h v room a m;
        }
      where
        apart : (line_at l i).block.0 ≢ (block_of w).0
        apart q = let f = none_holds c l (block_of w) e i.0 h in let t = valid_holds (line_at l i) (block_of w) v q in clash (cc)

    oldest_case : (i : LineNo) → i.0 < c → (line_at l i).valid ≡ true → BeginCase c op w l (evict capacity i op w l)
    unfolding evict
    oldest_case i h v =
        pick (BeginCase c op w l) (full_at capacity l.returns.len) (refuse_lane QueueFull l) (waits (read_of op) op w (evicted i l))
        (λ t. Refuses (record { reason = QueueFull; answer = refl; same = refl }))
        (λ t. Evicts (evict_case i h v (push_room l.returns (eject_of (line_at l i)) t)))

    miss_case : (place_at l.order 0).0 < c → (f : Option LineNo) → vacant_of l c ≡ f → BeginCase c op w l (miss_with capacity f op w l)
    miss_case h (Some i) q = Reads read_case
    miss_case h None q = oldest_case (place_at l.order 0) h (all_valid l c q (place_at l.order 0).0 h)

-- the lane's part of begin
pub begin_case : (c : ℕ) (op : Op) (w : WordNo) (l : Lane) → LaneSized l → c ≤ 8 → Unique c l → (place_at l.order 0).0 < c → Admitted c op w l → BeginCase c op w l (begin_lane capacity c op w l)
unfolding begin_lane miss
begin_case c op w l z b u h admits = go (search_of l c (block_of w)) refl
  where
    go : (f : Option LineNo) → search_of l c (block_of w) ≡ f → BeginCase c op w l (begin_at capacity f c op w l)
    go (Some i) e = at_case c op w l z b u admits i e
    go None e = miss_case c op w l z b u admits e h (vacant_of l c) refl
