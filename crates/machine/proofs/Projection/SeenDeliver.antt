-- What the lane's part of deliver does to the lane, as each block sees it. Assumes nothing.
use Prim.Native.Nat.{ℕ, ◌<◌, ◌≤◌}
use mathlib.Core.Logic.{◌≢◌}
use mathlib.Core.Path.{◌≡◌, refl, ap, sym, ◌∙◌}
use mathlib.Core.Bool.{Bool, true, false, not, cond}
use mathlib.Core.List.{List, [], ◌∷◌}
use lib.Dec.{eqb}
use lib.ListN.{length, set}
use borrow.Author.Tests.{eqb-true, eqb-false, eq-eqb, ne_eqb}
use native.Mathlib.Omega.{arith}
use Rattle.words.specs.declared.LineNo.{LineNo}
use Rattle.words.specs.declared.BlockNo.{BlockNo}
use Rattle.words.specs.declared.Line.{Line}
use Rattle.words.specs.Units.{block_of}
use Rattle.words.specs.Lines.{holds_of, invalid, filled_line}
use Rattle.words.specs.Operations.{is_load}
use Rattle.words.proofs.Folds.{pick}
use Rattle.queues.specs.Messages.{ReturnMessage}
use Rattle.queues.specs.declared.ReturnKind.TheVariants.{Updated, PurgedWords, Gone}
use Rattle.queues.specs.Messages.{DownMessage}
use Rattle.queues.specs.declared.DownKind.{DownKind}
use Rattle.queues.specs.declared.DownKind.TheVariants.{Update, Purge, Grant, BareGrant}
use Rattle.queues.specs.Queues.{DownQueue, full_at}
use Rattle.queues.specs.Queues.{capacity, empty_at, head_down, after_take, after_push, full_at}
use Rattle.queues.specs.Messages.{bare_message, words_message}
use Rattle.lanes.specs.declared.Lane.{Lane}
use Rattle.lanes.specs.declared.Operation.{Operation}
use Rattle.lanes.specs.declared.Waiting.{Waiting}
use Rattle.lanes.specs.declared.Waiting.TheVariants.{Idle, Unserved, Served}
use Rattle.lanes.specs.Search.{line_at, search_of, vacant_of}
use Rattle.lanes.specs.UseOrder.{Insertion}
use Rattle.lanes.specs.Lanes.{with_downs, with_lines, with_returns}
use Rattle.answers.specs.declared.Refusal.{Refusal}
use Rattle.answers.specs.declared.Refusal.TheVariants.{NothingPending, QueueFull, Unexpected}
use Rattle.machine.specs.Machine.Parts.{LaneStep}
use Rattle.machine.specs.declared.LaneAnswer.TheVariants.{Value, Stepped}
use Rattle.machine.specs.Machine.Change.{refuse_lane}
use Rattle.machine.specs.Machine.Begin.{complete_with}
use Rattle.machine.specs.Machine.Deliver.{waits_no_more, reply, shared, update_at, purged_of, purge_at, claimed, fill_at, grant_at, bare_at, served_on, grant_to, bare_to, deliver_kind, or_as_before, deliver_lane}
use Rattle.machine.specs.Machine.Sized.{LaneSized}
use Rattle.machine.proofs.Laws.Tests.{on}
use Rattle.machine.proofs.Bounds.KeepsLane.{clash}
use Rattle.machine.proofs.Protocol.BlockState.{Status, Invalid, Shared, Modified, held, Seen, keep_if, return_about, down_about, status_at, words_at, waiting_on, seen, words_done, value_done}
use Rattle.machine.proofs.Protocol.Moves.{answer_seen, update_seen, purge_seen, grant_seen}
use Rattle.machine.proofs.Projection.Queued.{queued_returns, queued_downs, take_downs, keep_head, keep_tail}
use Rattle.machine.proofs.Laws.Lines.{holds_valid, valid_holds, invalid_holds, other_holds}
use Rattle.machine.proofs.Projection.Searches.{Unique, Changed, set_changed, Alone, replace_alone, fill_alone, SameLine, unique_changed, changed_found, changed_gone, changed_other, found_holds, vacant_invalid}
use Rattle.machine.proofs.Projection.SeenBegin.{held_line, seen_held, seen_none, seen_same, waiting_here, waiting_other, push_room, returns_here, returns_other, complete_unique, complete_here, complete_others, RefusedCase}
use Rattle.std.specs.Prelude.{Option, Some, None, Result, Ok, Err}

-- the block of the head of a lane's down queue, and the queue after it has left
abbrev pub head_block : Lane → BlockNo
head_block l = (head_down l.downs).block

abbrev pub after_head : Lane → DownQueue
after_head l = (after_take l.downs)

-- what is said of a message taken from the down queue, whatever it is: the messages about its block after it, and that no other block sees a change
pub record Taken (c : ℕ) (y : DownKind) (l : Lane) (r : LaneStep) : Type 0 where
  pub kind : (head_down l.downs).kind ≡ y
  pub rest : List DownMessage
  pub head : (seen c (head_block l) l).downs ≡ head_down l.downs ∷ rest
  pub others : (a : BlockNo) → a.0 ≢ (head_block l).0 → seen c a r.lane ≡ seen c a l
  pub unique : Unique c r.lane

-- an order is taken: f says what the block sees after it
pub record OrderCase (c : ℕ) (y : DownKind) (f : Status → BlockNo → List DownMessage → Seen → Seen) (l : Lane) (r : LaneStep) : Type 0 where
  pub taken : Taken c y l r
  pub answer : r.answer ≡ Ok Stepped
  pub here : seen c (head_block l) r.lane ≡ f (seen c (head_block l) l).line (head_block l) taken.rest (seen c (head_block l) l)
  pub waiting : r.lane.waiting ≡ l.waiting

-- a grant is taken, and the operation completes on the words ws
pub record GrantCase (c : ℕ) (y : DownKind) (ws : List ℕ) (l : Lane) (r : LaneStep) : Type 0 where
  pub taken : Taken c y l r
  pub operation : Operation
  pub served : l.waiting ≡ Served operation
  pub block : (block_of operation.word).0 ≡ (head_block l).0
  pub before : (seen c (head_block l) l).waiting ≡ Served operation
  pub answer : r.answer ≡ Ok (Value (value_done operation.op operation.word ws))
  pub here : seen c (head_block l) r.lane ≡ grant_seen operation ws taken.rest (seen c (head_block l) l)
  pub waiting : r.lane.waiting ≡ Idle

pub data DeliverCase (c : ℕ) (l : Lane) (r : LaneStep) : Type 0 where
  Updates : OrderCase c Update update_seen l r → DeliverCase c l r
  Purges : OrderCase c Purge purge_seen l r → DeliverCase c l r
  Grants : (seen c (head_block l) l).line ≡ Invalid → GrantCase c Grant (head_down l.downs).words l r → DeliverCase c l r
  BareGrants : held (seen c (head_block l) l).line ≡ true → GrantCase c BareGrant (seen c (head_block l) l).words l r → DeliverCase c l r
  Refuses : RefusedCase l r → DeliverCase c l r

-- an order's move, on a line x and on none
module _ (s : Seen) (a : BlockNo) (rest : List DownMessage) where
  update_held : (x : Line) → s.line ≡ cond x.private Modified Shared → s.words ≡ x.words →
      answer_seen Shared x.words (words_message Updated a x.words) rest s ≡ update_seen s.line a rest s
  update_held x e w =
      ap (λ (ws : List ℕ). answer_seen Shared ws (words_message Updated a ws) rest s) (sym w) ∙
      on x.private (λ p. ap (λ (t : Status). update_seen t a rest s) (sym (rw p at e))) (λ p. ap (λ (t : Status). update_seen t a rest s) (sym (rw p at e)))

  purge_held : (x : Line) → s.line ≡ cond x.private Modified Shared → s.words ≡ x.words → answer_seen Invalid [] (purged_of a x) rest s ≡ purge_seen s.line a rest s
  purge_held x e w =
      on x.private
      (λ p. rw p (ap (λ (ws : List ℕ). answer_seen Invalid [] (words_message PurgedWords a ws) rest s) (sym w) ∙ ap (λ (t : Status). purge_seen t a rest s) (sym (rw p at e))))
      (λ p. rw p (ap (λ (t : Status). purge_seen t a rest s) (sym (rw p at e))))

  update_none : s.line ≡ Invalid → s.words ≡ [] → answer_seen Invalid [] (bare_message Gone a) rest s ≡ update_seen s.line a rest s
  update_none e w = ap (λ (ws : List ℕ). answer_seen Invalid ws (bare_message Gone a) rest s) (sym w) ∙ ap (λ (t : Status). update_seen t a rest s) (sym e)

  purge_none : s.line ≡ Invalid → s.words ≡ [] → answer_seen Invalid [] (bare_message Gone a) rest s ≡ purge_seen s.line a rest s
  purge_none e w = ap (λ (ws : List ℕ). answer_seen Invalid ws (bare_message Gone a) rest s) (sym w) ∙ ap (λ (t : Status). purge_seen t a rest s) (sym e)

-- PURGED is about the block
purged_block : (a : BlockNo) (x : Line) → (purged_of a x).block.0 ≡ a.0
purged_block a x = on x.private (λ p. rw p) (λ p. rw p)

-- PRIVATE as the operation leaves it
claimed_line : (p : Bool) → cond (not p) Modified Shared ≡ cond p Shared Modified
claimed_line true = refl
claimed_line false = refl

-- the lane with other lines, its head taken and an answer sent
abbrev with_answer : List Line → ReturnMessage → Lane → Lane
with_answer ls m l = with_returns (after_push capacity l.returns m) (with_downs (after_head l) (with_lines ls l))

-- .. its lines changed for the head's block alone, which then has status t and the words ws
record Relined (c : ℕ) (ls : List Line) (m : ReturnMessage) (t : Status) (ws : List ℕ) (l : Lane) : Type 0 where
  same : (a : BlockNo) → a.0 ≢ (head_block l).0 → SameLine c a l (with_answer ls m l)
  unique : Unique c (with_answer ls m l)
  line : (seen c (head_block l) (with_answer ls m l)).line ≡ t
  words : (seen c (head_block l) (with_answer ls m l)).words ≡ ws

module _ (c : ℕ) (l : Lane) (z : LaneSized l) (b : c ≤ 8) (u : Unique c l) (m : ReturnMessage) where
  -- the block is not held: no line changes
  untouched : search_of l c (head_block l) ≡ None → Relined c l.lines m Invalid [] l
  untouched e =
      let s = seen_none c (head_block l) (with_answer l.lines m l) e in
      record { same = λ a n. record { line = refl; words = refl }; unique = u; line = ap (λ (x : Seen). x.line) s; words = ap (λ (x : Seen). x.words) s }

  module _ (i : LineNo) (e : search_of l c (head_block l) ≡ Some i) where
    found : (i.0 < c) × (holds_of (line_at l i) (head_block l) ≡ true)
    found = found_holds c l (head_block l) i e

    found_valid : ((line_at l i).valid ≡ true) × ((line_at l i).block.0 ≡ (head_block l).0)
    found_valid = holds_valid (line_at l i) (head_block l) found.1

    -- another block is not in the line found
    not_found : (a : BlockNo) → a.0 ≢ (head_block l).0 → holds_of (line_at l i) a ≡ false
    not_found a n = other_holds (line_at l i) a (λ q. n (sym q ∙ found_valid.1))

    line_changed : (y : Line) → Changed i y l (with_answer (set l.lines i.0 y) m l)
    line_changed y = let n = z.lines in let h = found.0 in set_changed i y l (with_answer (set l.lines i.0 y) m l) refl (omega arith)

    -- the line found is replaced by y, of the same block
    replaced : (y : Line) → y.valid ≡ true → y.block.0 ≡ (head_block l).0 → Relined c (set l.lines i.0 y) m (cond y.private Modified Shared) y.words l
    replaced y v q =
        let l' = with_answer (set l.lines i.0 y) m l in
        let x = line_changed y in
        let u' = unique_changed c i y l l' x u (λ _. replace_alone c i y l u found.0 found_valid.0 (found_valid.1 ∙ sym q)) in
        let s = seen_held c (head_block l) l' i (changed_found c i y l l' x u' found.0 (head_block l) (valid_holds y (head_block l) v q)) in
        record {
          same = λ a n. changed_other c i y l l' x a u' (not_found a n) (other_holds y a (λ p. n (sym p ∙ q)));
          unique = u';
          line = ap (λ (r : Seen). r.line) s ∙ ap (λ (r : Line). cond r.private Modified Shared) x.here;
          words = ap (λ (r : Seen). r.words) s ∙ ap (λ (r : Line). r.words) x.here;
        }

    -- the line found is given up
    dropped : Relined c (set l.lines i.0 (invalid (line_at l i))) m Invalid [] l
    dropped =
        let y = invalid (line_at l i) in
        let l' = with_answer (set l.lines i.0 y) m l in
        let x = line_changed y in
        let u' = unique_changed c i y l l' x u (λ q. clash (cc)) in
        let s = seen_none c (head_block l) l' (changed_gone c i y l l' x (head_block l) u found.0 found.1 refl) in
        record {
          same = λ a n. changed_other c i y l l' x a u' (not_found a n) refl;
          unique = u';
          line = ap (λ (r : Seen). r.line) s;
          words = ap (λ (r : Seen). r.words) s;
        }

module _ (ins : Insertion) (c : ℕ) (l : Lane) (z : LaneSized l) (b : c ≤ 8) (u : Unique c l) (some : l.downs.len ≢ 0) (short : l.downs.len ≤ capacity) where
  -- the messages about block a once the head has left
  left : BlockNo → List DownMessage
  left a = keep_if (down_about a) (queued_downs (after_head l))

  downs_head : (seen c (head_block l) l).downs ≡ head_down l.downs ∷ left (head_block l)
  unfolding seen left
  downs_head =
      ap (keep_if (down_about (head_block l))) (take_downs l.downs z.downs some short) ∙
      keep_head (down_about (head_block l)) (head_down l.downs) (queued_downs (after_head l)) (eq-eqb (head_block l).0 (head_block l).0 refl)

  downs_other : (a : BlockNo) → a.0 ≢ (head_block l).0 → keep_if (down_about a) (queued_downs (after_head l)) ≡ keep_if (down_about a) (queued_downs l.downs)
  downs_other a n =
      sym (ap (keep_if (down_about a)) (take_downs l.downs z.downs some short) ∙
      keep_tail (down_about a) (head_down l.downs) (queued_downs (after_head l)) (ne_eqb (head_block l).0 a.0 (λ q. n (sym q))))

  -- an answer about the head's block was sent, with a free place for it
  module _ (ls : List Line) (m : ReturnMessage) (e : m.block.0 ≡ (head_block l).0) (room : l.returns.len < capacity) where
    answer_seen_lem : seen c (head_block l) (with_answer ls m l) ≡
        answer_seen (seen c (head_block l) (with_answer ls m l)).line (seen c (head_block l) (with_answer ls m l)).words m (left (head_block l)) (seen c (head_block l) l)
    unfolding seen left
    answer_seen_lem =
        ap (λ (r : List ReturnMessage). answered_as r) (returns_here l.returns m z.returns room (head_block l) e)
      where
        answered_as : List ReturnMessage → Seen
        answered_as r = record { line = status_at (search_of (with_answer ls m l) c (head_block l)) ls; words = words_at (search_of (with_answer ls m l) c (head_block l)) ls; returns = r; downs = left (head_block l); waiting = waiting_on (head_block l) l.waiting }

    answer_others : (a : BlockNo) → a.0 ≢ (head_block l).0 → SameLine c a l (with_answer ls m l) → seen c a (with_answer ls m l) ≡ seen c a l
    answer_others a n s =
        seen_same c a l (with_answer ls m l) s (returns_other l.returns m z.returns room a (λ q. n (sym q ∙ e))) (downs_other a n) refl

    -- the order is taken, given what f says for status t and the words ws after it
    order_case : (y : DownKind) (f : Status → BlockNo → List DownMessage → Seen → Seen) (t : Status) (ws : List ℕ) → (head_down l.downs).kind ≡ y → Relined c ls m t ws l →
        answer_seen t ws m (left (head_block l)) (seen c (head_block l) l) ≡ f (seen c (head_block l) l).line (head_block l) (left (head_block l)) (seen c (head_block l) l) →
        OrderCase c y f l (record { answer = Ok Stepped; lane = with_answer ls m l })
    order_case y f t ws q x p =
        record {
          taken = record { kind = q; rest = left (head_block l); head = downs_head; others = λ a n. answer_others a n (x.same a n); unique = x.unique };
          answer = refl;
          here = answer_seen_lem ∙ ap (λ (r : Status). answer_seen r (seen c (head_block l) (with_answer ls m l)).words m (left (head_block l)) (seen c (head_block l) l)) x.line ∙
              ap (λ (r : List ℕ). answer_seen t r m (left (head_block l)) (seen c (head_block l) l)) x.words ∙ p;
          waiting = refl;
        }

  -- 12, or the answer is sent
  reply_rule : (ls : List Line) (m : ReturnMessage) → (l.returns.len < capacity → DeliverCase c l (record { answer = Ok Stepped; lane = with_answer ls m l })) →
      DeliverCase c l (or_as_before l (reply capacity m (with_downs (after_head l) (with_lines ls l))))
  unfolding reply
  reply_rule ls m next =
      pick (λ (r : LaneStep). DeliverCase c l (or_as_before l r)) (full_at capacity l.returns.len) (refuse_lane QueueFull _) (record { answer = Ok Stepped; lane = with_answer ls m l })
      (λ t. Refuses (record { reason = QueueFull; answer = refl; same = refl })) (λ t. next (push_room l.returns m t))

  -- the line found, and none found, as the head's block sees them
  at_line : (i : LineNo) → search_of l c (head_block l) ≡ Some i → ((seen c (head_block l) l).line ≡ cond (line_at l i).private Modified Shared) × ((seen c (head_block l) l).words ≡ (line_at l i).words)
  at_line i e = let s = seen_held c (head_block l) l i e in (ap (λ (x : Seen). x.line) s, ap (λ (x : Seen). x.words) s)

  no_line : search_of l c (head_block l) ≡ None → ((seen c (head_block l) l).line ≡ Invalid) × ((seen c (head_block l) l).words ≡ [])
  no_line e = let s = seen_none c (head_block l) l e in (ap (λ (x : Seen). x.line) s, ap (λ (x : Seen). x.words) s)

  update_case : (head_down l.downs).kind ≡ Update → (f : Option LineNo) → search_of l c (head_block l) ≡ f → DeliverCase c l (or_as_before l (update_at capacity f (head_block l) (with_downs (after_head l) l)))
  update_case q (Some i) e =
      let x = line_at l i in
      let m = words_message Updated (head_block l) x.words in
      let v = found_valid c l z b u m i e in
      reply_rule (set l.lines i.0 (shared x)) m
      (λ room. Updates (order_case _ m refl room Update update_seen Shared x.words q (replaced c l z b u m i e (shared x) v.0 v.1)
      (update_held (seen c (head_block l) l) (head_block l) (left (head_block l)) x (at_line i e).0 (at_line i e).1)))
  update_case q None e =
      let m = bare_message Gone (head_block l) in
      reply_rule l.lines m
      (λ room. Updates (order_case l.lines m refl room Update update_seen Invalid [] q (untouched c l z b u m e)
      (update_none (seen c (head_block l) l) (head_block l) (left (head_block l)) (no_line e).0 (no_line e).1)))

  purge_case : (head_down l.downs).kind ≡ Purge → (f : Option LineNo) → search_of l c (head_block l) ≡ f → DeliverCase c l (or_as_before l (purge_at capacity f (head_block l) (with_downs (after_head l) l)))
  purge_case q (Some i) e =
      let x = line_at l i in
      let m = purged_of (head_block l) x in
      reply_rule (set l.lines i.0 (invalid x)) m
      (λ room. Purges (order_case _ m (purged_block (head_block l) x) room Purge purge_seen Invalid [] q (dropped c l z b u m i e)
      (purge_held (seen c (head_block l) l) (head_block l) (left (head_block l)) x (at_line i e).0 (at_line i e).1)))
  purge_case q None e =
      let m = bare_message Gone (head_block l) in
      reply_rule l.lines m
      (λ room. Purges (order_case l.lines m refl room Purge purge_seen Invalid [] q (untouched c l z b u m e)
      (purge_none (seen c (head_block l) l) (head_block l) (left (head_block l)) (no_line e).0 (no_line e).1)))

  -- the served operation o is on the head's block: it completes on line i, whose contents become x
  module _ (o : Operation) (t : l.waiting ≡ Served o) (n : (block_of o.word).0 ≡ (head_block l).0) where
    served_seen : (seen c (head_block l) l).waiting ≡ Served o
    unfolding seen
    served_seen = ap (waiting_on (head_block l)) t ∙ (waiting_here o (head_block l) n).1

    module _ (order : List LineNo) (i : LineNo) (x : Line) (h : i.0 < c) (v : x.valid ≡ true) (e : x.block.0 ≡ (head_block l).0) (alone : Alone c i x l) where
      -- the lane that took the head has the c lines
      long : c ≤ length l.lines
      long = let m = z.lines in omega arith

      grant_here : seen c (head_block l) (complete_with order i (claimed o.op x) o.op o.word (waits_no_more (with_downs (after_head l) l))).lane ≡
          grant_seen o x.words (left (head_block l)) (seen c (head_block l) l)
      unfolding seen left
      grant_here =
          complete_here order c (waits_no_more (with_downs (after_head l) l)) long u i (claimed o.op x) o.op o.word h v alone (head_block l) e ∙
          (λ j. record {
            line = claimed_line (is_load o.op) j;
            words = words_done o.op o.word x.words;
            returns = keep_if (return_about (head_block l)) (queued_returns l.returns);
            downs = left (head_block l);
            waiting = Idle;
          })

      grant_others : ((a : BlockNo) → a.0 ≢ (head_block l).0 → holds_of (line_at l i) a ≡ false) → (a : BlockNo) → a.0 ≢ (head_block l).0 →
          seen c a (complete_with order i (claimed o.op x) o.op o.word (waits_no_more (with_downs (after_head l) l))).lane ≡ seen c a l
      grant_others apart a m =
          complete_others order c (waits_no_more (with_downs (after_head l) l)) long u i (claimed o.op x) o.op o.word h v alone a (λ q. m (q ∙ e)) (apart a m) ∙
          seen_same c a l (waits_no_more (with_downs (after_head l) l)) (record { line = refl; words = refl }) refl (downs_other a m)
          (sym (ap (waiting_on a) t ∙ (waiting_other o a (λ q. m (q ∙ n))).1))

      grant_case : (y : DownKind) (ws : List ℕ) → (head_down l.downs).kind ≡ y → x.words ≡ ws → ((a : BlockNo) → a.0 ≢ (head_block l).0 → holds_of (line_at l i) a ≡ false) →
          GrantCase c y ws l (or_as_before l (complete_with order i (claimed o.op x) o.op o.word (waits_no_more (with_downs (after_head l) l))))
      unfolding complete_with
      grant_case y ws q r apart =
          record {
            taken = record {
              kind = q;
              rest = left (head_block l);
              head = downs_head;
              others = grant_others apart;
              unique = complete_unique order c (waits_no_more (with_downs (after_head l) l)) long u i (claimed o.op x) o.op o.word h v alone;
            };
            operation = o;
            served = t;
            block = n;
            before = served_seen;
            answer = ap (λ (m : List ℕ). (Ok (Value (value_done o.op o.word m)))) r;
            here = grant_here ∙ ap (λ (m : List ℕ). grant_seen o m (left (head_block l)) (seen c (head_block l) l)) r;
            waiting = refl;
          }

    fill_case : (head_down l.downs).kind ≡ Grant → search_of l c (head_block l) ≡ None → (f : Option LineNo) → vacant_of l c ≡ f →
        DeliverCase c l (or_as_before l (fill_at ins f c (head_down l.downs) o (with_downs (after_head l) l)))
    fill_case q e (Some i) r =
        let x : Line = filled_line (head_block l) (head_down l.downs).words in
        let p = vacant_invalid c l i r in
        Grants (no_line e).0 (grant_case _ i x p.0 refl refl (fill_alone c i x l e) Grant x.words q refl (λ a _. invalid_holds (line_at l i) a p.1))
    fill_case q e None r = Refuses (record { reason = Unexpected; answer = refl; same = refl })

    words_case : (head_down l.downs).kind ≡ Grant → (f : Option LineNo) → search_of l c (head_block l) ≡ f →
        DeliverCase c l (or_as_before l (grant_at ins f c (head_down l.downs) o (with_downs (after_head l) l)))
    words_case q (Some i) e = Refuses (record { reason = Unexpected; answer = refl; same = refl })
    words_case q None e = fill_case q e (vacant_of l c) refl

    bare_case : (head_down l.downs).kind ≡ BareGrant → (f : Option LineNo) → search_of l c (head_block l) ≡ f →
        DeliverCase c l (or_as_before l (bare_at f c o (with_downs (after_head l) l)))
    bare_case q (Some i) e =
        let x = line_at l i in
        let h = found_holds c l (head_block l) i e in
        let v = holds_valid x (head_block l) h.1 in
        BareGrants (ap held (at_line i e).0 ∙ held_line x.private)
        (grant_case _ i x h.0 v.0 v.1 (replace_alone c i x l u h.0 v.0 refl) BareGrant (seen c (head_block l) l).words q (sym (at_line i e).1)
        (λ a m. other_holds x a (λ p. m (sym p ∙ v.1))))
    bare_case q None e = Refuses (record { reason = Unexpected; answer = refl; same = refl })

  -- a grant, by what waits
  served_case : (P : Result Operation Refusal → Type 0) → ((r : Refusal) → P (Err r)) → ((o : Operation) → l.waiting ≡ Served o → (block_of o.word).0 ≡ (head_block l).0 → P (Ok o)) →
      (x : Waiting) → l.waiting ≡ x → P (served_on x (head_block l))
  served_case P refused go Idle e = refused Unexpected
  served_case P refused go (Unserved o) e = refused Unexpected
  served_case P refused go (Served o) e =
      pick P (eqb (block_of o.word).0 (head_block l).0) (Ok o) (Err Unexpected) (λ q. go o e (eqb-true _ _ q)) (λ _. refused Unexpected)

  kind_case : (y : DownKind) → (head_down l.downs).kind ≡ y → DeliverCase c l (or_as_before l (deliver_kind capacity ins y c (head_down l.downs) (with_downs (after_head l) l)))
  kind_case Update q = update_case q (search_of l c (head_block l)) refl
  kind_case Purge q = purge_case q (search_of l c (head_block l)) refl
  kind_case Grant q =
      served_case (λ (r : Result Operation Refusal). DeliverCase c l (or_as_before l (grant_to ins r c (head_down l.downs) (with_downs (after_head l) l))))
      (λ r. Refuses (record { reason = r; answer = refl; same = refl })) (λ o t n. words_case o t n q (search_of l c (head_block l)) refl) l.waiting refl
  kind_case BareGrant q =
      served_case (λ (r : Result Operation Refusal). DeliverCase c l (or_as_before l (bare_to r c (head_down l.downs) (with_downs (after_head l) l))))
      (λ r. Refuses (record { reason = r; answer = refl; same = refl })) (λ o t n. bare_case o t n q (search_of l c (head_block l)) refl) l.waiting refl

-- the lane's part of deliver
pub deliver_case : (ins : Insertion) (c : ℕ) (l : Lane) → LaneSized l → c ≤ 8 → Unique c l → l.downs.len ≤ capacity → DeliverCase c l (deliver_lane capacity ins c l)
unfolding deliver_lane
deliver_case ins c l z b u h =
    pick (DeliverCase c l) (empty_at l.downs.len) (refuse_lane NothingPending l) _ (λ t. Refuses (record { reason = NothingPending; answer = refl; same = refl }))
    (λ t. kind_case ins c l z b u (eqb-false l.downs.len 0 t) h (head_down l.downs).kind refl)
