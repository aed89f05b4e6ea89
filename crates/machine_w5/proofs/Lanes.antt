-- A lane's part of begin and of deliver, on the same lanes with two places and with eight: the same, or 12 with two places, and with eight a
-- third message. Assumes nothing.
use Prim.Native.Nat.{ℕ, ◌<◌, ◌≤◌}
use native.Mathlib.Omega.{arith}
use mathlib.Core.Logic.{◌⊎◌, inl, inr}
use mathlib.Core.Path.{◌≡◌, refl, sym, ap, subst, ◌∙◌}
use mathlib.Core.Bool.{false, cond, ◌||◌}
use mathlib.Core.List.{List}
use lib.Dec.{leb}
use borrow.Author.Tests.{leb-true, leb-false, lt-leb, eqb-false}
use Rattle.words.specs.declared.Line.{Line}
use Rattle.words.specs.declared.LineNo.{LineNo}
use Rattle.words.specs.declared.WordNo.{WordNo}
use Rattle.words.specs.declared.BlockNo.{BlockNo}
use Rattle.words.specs.declared.Op.{Op}
use Rattle.words.specs.Units.{block_of}
use Rattle.words.specs.Operations.{is_load}
use Rattle.queues.specs.Messages.{ReturnMessage}
use Rattle.queues.specs.Queues.{ReturnQueue, full_at}
use Rattle.queues.specs.Messages.{DownMessage}
use Rattle.queues.specs.declared.DownKind.{DownKind}
use Rattle.queues.specs.declared.DownKind.TheVariants.{Update, Purge, Grant, BareGrant}
use Rattle.queues.specs.Queues.{DownQueue, full_at}
use Rattle.queues.specs.Queues.{capacity, empty_at, after_push, head_down, after_take, no_down, full_at}
use Rattle.lanes.specs.declared.Lane.{Lane}
use Rattle.lanes.specs.declared.Operation.{Operation}
use Rattle.lanes.specs.declared.Waiting.{Waiting}
use Rattle.lanes.specs.Search.{line_at, search_of, vacant_of}
use Rattle.lanes.specs.UseOrder.{Insertion, place_at}
use Rattle.lanes.specs.Lanes.{with_downs}
use Rattle.answers.specs.declared.Refusal.{Refusal}
use Rattle.answers.specs.declared.Refusal.TheVariants.{QueueFull}
use Rattle.machine.specs.declared.LaneAnswer.{LaneAnswer}
use Rattle.machine.specs.Machine.Parts.{LaneStep}
use Rattle.machine.specs.Machine.Change.{refuse_lane, refused_in}
use Rattle.machine.specs.Machine.Begin.{complete_with, hit, evict, miss_with, miss, begin_at, begin_lane, admits_of}
use Rattle.machine.specs.Machine.Deliver.{reply, update_at, purge_at, fill_at, grant_at, bare_at, served_on, grant_to, bare_to, deliver_kind, or_as_before, deliver_lane}
use Rattle.machine.proofs.Laws.Tests.{on}
use Rattle.machine_w5.specs.Stores as Former
use Rattle.machine_w5.specs.Same.{SameReturns, SameDowns, SameLane}
use Rattle.machine_w5.proofs.Pairs.{both}
use Rattle.machine_w5.proofs.Queues.{push_same, take_same, at_same}
use Rattle.std.specs.Prelude.{Option, Some, None, Result, Ok, Err}

-- equal answers, and the same lanes
pub record SameStep (r q : LaneStep) : Type 0 where
  pub answer : r.answer ≡ q.answer
  pub lane : SameLane r.lane q.lane

-- 12 with two places, where with eight the step goes on and the return queue has a third message
pub record FullStep (r q : LaneStep) : Type 0 where
  pub full : r.answer ≡ Err QueueFull
  pub goes : refused_in q.answer ≡ false
  pub long : 3 ≤ q.lane.returns.len

abbrev pub Step : LaneStep → LaneStep → Type 0
Step r q = FullStep r q ⊎ SameStep r q

-- a lane by its parts
abbrev pub lane_with : List Line → List LineNo → Waiting → ReturnQueue → DownQueue → Lane
lane_with ls o w q d = record { lines = ls; order = o; returns = q; downs = d; waiting = w }

-- lanes with these parts are the same
pub parts_same : (ls : List Line) (o : List LineNo) (w : Waiting) (p q : ReturnQueue) (c d : DownQueue) → SameReturns p q → SameDowns c d →
    SameLane (lane_with ls o w p c) (lane_with ls o w q d)
parts_same ls o w p q c d e f = record { lines = refl; order = refl; waiting = refl; returns = e; downs = f }

-- what holds of all lanes with the same parts but for the queues holds of the same lanes
pub by_parts : (P : Lane → Lane → Type 0) →
    ((ls : List Line) (o : List LineNo) (w : Waiting) (p q : ReturnQueue) (c d : DownQueue) → SameReturns p q → SameDowns c d →
    P (lane_with ls o w p c) (lane_with ls o w q d)) →
    (p l : Lane) → SameLane p l → P p l
by_parts P h p l e =
    let z : lane_with l.lines l.order l.waiting p.returns p.downs ≡ p = sym (λ i. lane_with (e.lines i) (e.order i) (e.waiting i) p.returns p.downs) in
    subst (λ (x : Lane). P x l) z (h l.lines l.order l.waiting p.returns l.returns p.downs l.downs e.returns e.downs)

-- a step that answers so, with these parts and this return queue
abbrev pub step_with : Result LaneAnswer Refusal → List Line → List LineNo → Waiting → DownQueue → ReturnQueue → LaneStep
step_with x ls o w d q = record { answer = x; lane = lane_with ls o w q d }

-- a message joins the return queue, and the step goes on with the queue
pub push_step : (x : Result LaneAnswer Refusal) (y : ReturnMessage) (p l : Lane) (ls : List Line) (o : List LineNo) (w : Waiting) (a b : ReturnQueue) (c d : DownQueue) →
    SameReturns a b → SameDowns c d → refused_in x ≡ false →
    Step
    (cond (full_at Former.capacity a.len) (refuse_lane QueueFull p) (step_with x ls o w c (after_push Former.capacity a y)))
    (cond (full_at capacity b.len) (refuse_lane QueueFull l) (step_with x ls o w d (after_push capacity b y)))
push_step x y p l ls o w a b c d e f goes =
    on (leb 2 a.len)
    (λ t.
    let h : 2 ≤ a.len = leb-true _ _ t in
    let u : leb 8 b.len ≡ false = lt-leb 8 b.len (omega (arith, e.lens, e.short)) in
    rw (t, u) (inl (record { full = refl; goes = goes; long = omega (arith, e.lens) })))
    (λ t.
    let h : a.len < 2 = leb-false _ _ t in
    let u : leb 8 b.len ≡ false = lt-leb 8 b.len (omega (arith, e.lens)) in
    rw (t, u) (inr (record { answer = refl; lane = parts_same ls o w _ _ c d (push_same _ _ _ _ y e h) f })))

module _ (ls : List Line) (o : List LineNo) (w : Waiting) (a b : ReturnQueue) (c d : DownQueue) (e : SameReturns a b) (f : SameDowns c d) where
  -- the two lanes
  abbrev p : Lane
  p = lane_with ls o w a c

  abbrev l : Lane
  l = lane_with ls o w b d

  -- a refusal
  refused_same : (r : Refusal) → Step (refuse_lane r p) (refuse_lane r l)
  refused_same r = inr (record { answer = refl; lane = parts_same ls o w a b c d e f })

  -- a line is given up
  evict_same : (i : LineNo) (op : Op) (x : WordNo) → Step (evict Former.capacity i op x p) (evict capacity i op x l)
  unfolding evict
  evict_same i op x = push_step (Ok LaneAnswer.Waits) _ p l _ _ _ a b c d e f refl

  miss_same : (n : ℕ) (op : Op) (x : WordNo) → Step (miss Former.capacity n op x p) (miss capacity n op x l)
  unfolding miss
  miss_same n op x = go (vacant_of p n)
    where
      go : (r : Option LineNo) → Step (miss_with Former.capacity r op x p) (miss_with capacity r op x l)
      go (Some i) = inr (record { answer = refl; lane = parts_same _ _ _ a b c d e f })
      go None = evict_same (place_at o 0) op x

  hit_same : (n : ℕ) (i : LineNo) (op : Op) (x : WordNo) → Step (hit n i op x p) (hit n i op x l)
  unfolding hit complete_with
  hit_same n i op x =
      both Step (is_load op || (line_at p i).private) (is_load op || (line_at l i).private) refl
      (λ _. inr (record { answer = refl; lane = parts_same _ _ _ a b c d e f })) (λ _. inr (record { answer = refl; lane = parts_same _ _ _ a b c d e f }))

  begin_parts : (n : ℕ) (op : Op) (x : WordNo) → Step (begin_lane Former.capacity n op x p) (begin_lane capacity n op x l)
  unfolding begin_lane
  begin_parts n op x = go (search_of p n (block_of x))
    where
      go : (r : Option LineNo) → Step (begin_at Former.capacity r n op x p) (begin_at capacity r n op x l)
      go (Some i) = hit_same n i op x
      go None = miss_same n op x

  -- a message is answered
  reply_same : (y : ReturnMessage) → Step (reply Former.capacity y p) (reply capacity y l)
  unfolding reply
  reply_same y = push_step (Ok LaneAnswer.Stepped) y p l ls o w a b c d e f refl

  -- an operation completes
  complete_same : (u : List LineNo) (i : LineNo) (y : Line) (op : Op) (x : WordNo) → Step (complete_with u i y op x p) (complete_with u i y op x l)
  unfolding complete_with
  complete_same u i y op x = inr (record { answer = refl; lane = parts_same _ _ _ a b c d e f })

-- a line changes first, or the operation that waits: then these are still lanes with the same parts
module _ (ls : List Line) (o : List LineNo) (w : Waiting) (a b : ReturnQueue) (c d : DownQueue) (e : SameReturns a b) (f : SameDowns c d) where
  abbrev p₁ : Lane
  p₁ = lane_with ls o w a c

  abbrev l₁ : Lane
  l₁ = lane_with ls o w b d

  update_same : (r : Option LineNo) (x : BlockNo) → Step (update_at Former.capacity r x p₁) (update_at capacity r x l₁)
  update_same (Some i) x = reply_same _ o w a b c d e f _
  update_same None x = reply_same ls o w a b c d e f _

  purge_same : (r : Option LineNo) (x : BlockNo) → Step (purge_at Former.capacity r x p₁) (purge_at capacity r x l₁)
  purge_same (Some i) x = reply_same _ o w a b c d e f _
  purge_same None x = reply_same ls o w a b c d e f _

  fill_same : (ins : Insertion) (r : Option LineNo) (n : ℕ) (x : DownMessage) (q : Operation) → Step (fill_at ins r n x q p₁) (fill_at ins r n x q l₁)
  fill_same ins (Some i) n x q = complete_same ls o _ a b c d e f _ i _ q.op q.word
  fill_same ins None n x q = refused_same ls o w a b c d e f _

  granted_same : (ins : Insertion) (r : Option LineNo) (n : ℕ) (x : DownMessage) (q : Operation) → Step (grant_at ins r n x q p₁) (grant_at ins r n x q l₁)
  granted_same ins (Some i) n x q = refused_same ls o w a b c d e f _
  granted_same ins None n x q = fill_same ins (vacant_of p₁ n) n x q

  bare_same : (r : Option LineNo) (n : ℕ) (q : Operation) → Step (bare_at r n q p₁) (bare_at r n q l₁)
  bare_same (Some i) n q = complete_same ls o _ a b c d e f _ i _ q.op q.word
  bare_same None n q = refused_same ls o w a b c d e f _

  kind_same : (ins : Insertion) (y : DownKind) (n : ℕ) (x : DownMessage) → Step (deliver_kind Former.capacity ins y n x p₁) (deliver_kind capacity ins y n x l₁)
  kind_same ins Update n x = update_same (search_of p₁ n x.block) x.block
  kind_same ins Purge n x = purge_same (search_of p₁ n x.block) x.block
  kind_same ins Grant n x = go (served_on w x.block)
    where
      go : (r : Result Operation Refusal) → Step (grant_to ins r n x p₁) (grant_to ins r n x l₁)
      go (Err r) = refused_same ls o w a b c d e f r
      go (Ok q) = granted_same ins (search_of p₁ n x.block) n x q
  kind_same ins BareGrant n x = go (served_on w x.block)
    where
      go : (r : Result Operation Refusal) → Step (bare_to r n x p₁) (bare_to r n x l₁)
      go (Err r) = refused_same ls o w a b c d e f r
      go (Ok q) = bare_same (search_of p₁ n x.block) n q

-- on a refusal the lane stays
as_before : (p l : Lane) (r q : LaneStep) → SameLane p l → Step r q → Step (or_as_before p r) (or_as_before l q)
as_before p l r q e (inl h) = inl (record { full = h.full; goes = h.goes; long = rw h.goes h.long })
as_before p l r q e (inr h) =
    inr (record { answer = h.answer; lane = both SameLane (refused_in r.answer) (refused_in q.answer) (ap refused_in h.answer) (λ _. e) (λ _. h.lane) })

deliver_parts : (ins : Insertion) (n : ℕ) (ls : List Line) (o : List LineNo) (w : Waiting) (a b : ReturnQueue) (c d : DownQueue) → SameReturns a b → SameDowns c d →
    Step (deliver_lane Former.capacity ins n (lane_with ls o w a c)) (deliver_lane capacity ins n (lane_with ls o w b d))
unfolding deliver_lane
deliver_parts ins n ls o w a b c d e f =
    both Step (empty_at c.len) (empty_at d.len) (ap empty_at f.lens) (λ _. refused_same ls o w a b c d e f _) (λ t. more t)
  where
    more : empty_at c.len ≡ false →
        Step
        (or_as_before (lane_with ls o w a c) (deliver_kind Former.capacity ins (head_down c).kind n (head_down c) (with_downs (after_take c) (lane_with ls o w a c))))
        (or_as_before (lane_with ls o w b d) (deliver_kind capacity ins (head_down d).kind n (head_down d) (with_downs (after_take d) (lane_with ls o w b d))))
    more t =
        let h : c.len ≡ 0 → ⊥ = eqb-false _ _ t in
        let u : empty_at d.len ≡ false = sym (ap empty_at f.lens) ∙ t in
        let z : head_down c ≡ head_down d = at_same _ _ _ _ no_down 0 f (omega (arith, h)) in
        as_before _ _ _ _ (parts_same ls o w a b c d e f)
        (rw (← z, t, u) (kind_same ls o w a b _ _ e (take_same _ _ _ _ f h) ins (head_down c).kind n (head_down c)))

-- the lane's part of begin, and of deliver
pub begin_same : (n : ℕ) (op : Op) (x : WordNo) (p l : Lane) → SameLane p l → Step (begin_lane Former.capacity n op x p) (begin_lane capacity n op x l)
begin_same n op x = by_parts (λ p l. Step (begin_lane Former.capacity n op x p) (begin_lane capacity n op x l)) (λ ls o w a b c d e f. begin_parts ls o w a b c d e f n op x)

pub deliver_same : (ins : Insertion) (n : ℕ) (p l : Lane) → SameLane p l → Step (deliver_lane Former.capacity ins n p) (deliver_lane capacity ins n l)
deliver_same ins n = by_parts (λ p l. Step (deliver_lane Former.capacity ins n p) (deliver_lane capacity ins n l)) (deliver_parts ins n)

-- whether a lane takes an operation
pub admits_same : (n : ℕ) (op : Op) (x : WordNo) (p l : Lane) → SameLane p l → admits_of n op x p ≡ admits_of n op x l
unfolding admits_of
admits_same n op x = by_parts (λ p l. admits_of n op x p ≡ admits_of n op x l) (λ ls o w a b c d e f. refl)
