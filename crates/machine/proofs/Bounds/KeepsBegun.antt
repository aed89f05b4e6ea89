-- 02, W1: completions so far plus operations waiting, where a lane's part or memory's part of a call is put back: the lane's part of begin raises
-- the sum by one, nothing else changes it. Assumes nothing.
use Prim.Native.Nat.{ℕ, zero, suc, ◌+◌, ◌<◌, ◌≤◌}
use mathlib.Core.Logic.{◌⊎◌, inl, inr}
use mathlib.Core.Path.{◌≡◌, refl, sym, ap, ◌∙◌}
use mathlib.Core.Bool.{Bool, false, not, cond, ◌||◌, true≢false}
use mathlib.Core.List.{List}
use lib.Dec.{eqb}
use lib.ListN.{length, get_or, set, get_or-eq_default}
use native.Mathlib.Omega.{arith}
use native.Mathlib.Nat.{add-zero}
use Rattle.words.specs.declared.LaneNo.{LaneNo}
use Rattle.words.specs.declared.LineNo.{LineNo}
use Rattle.words.specs.declared.BlockNo.{BlockNo}
use Rattle.words.specs.declared.WordNo.{WordNo}
use Rattle.words.specs.declared.Line.{Line}
use Rattle.words.specs.declared.Op.{Op}
use Rattle.words.specs.Units.{block_of}
use Rattle.words.specs.Operations.{is_load}
use Rattle.words.specs.Folds.{up_to, sum_to}
use Rattle.words.proofs.Folds.{below?, by_cond, pick, or_left}
use Rattle.queues.specs.Messages.{ReturnMessage}
use Rattle.queues.specs.Messages.{DownMessage}
use Rattle.queues.specs.declared.DownKind.{DownKind}
use Rattle.queues.specs.declared.DownKind.TheVariants.{Update, Purge, Grant, BareGrant}
use Rattle.queues.specs.Queues.{capacity, empty_at, head_down, after_take, full_at}
use Rattle.lanes.specs.declared.Lane.{Lane}
use Rattle.lanes.specs.declared.Operation.{Operation}
use Rattle.lanes.specs.declared.Command.TheVariants.{Exclude}
use Rattle.lanes.specs.declared.Waiting.{Waiting}
use Rattle.lanes.specs.declared.Waiting.TheVariants.{Idle, Unserved, Served}
use Rattle.lanes.specs.Search.{line_at, search_of, vacant_of}
use Rattle.lanes.specs.UseOrder.{Insertion, place_at}
use Rattle.lanes.specs.Waits.{idle_of}
use Rattle.lanes.specs.Lanes.{with_downs}
use Rattle.answers.specs.declared.Refusal.{Refusal}
use Rattle.answers.specs.declared.Refusal.TheVariants.{NothingPending, QueueFull, Unexpected}
use Rattle.store.specs.declared.Store.{Store}
use Rattle.store.specs.declared.Block.{Block}
use Rattle.store.specs.declared.Control.{Control}
use Rattle.store.specs.Stores.{no_lane, lane_at}
use Rattle.store.specs.LaneSets.{goes_to}
use Rattle.machine.specs.Machine.Begun.{waiting_in, begun_in}
use Rattle.machine.specs.declared.LaneAnswer.{LaneAnswer}
use Rattle.machine.specs.declared.LaneAnswer.TheVariants.{Value, Waits, Stepped}
use Rattle.machine.specs.Machine.Parts.{LaneStep}
use Rattle.machine.specs.Machine.Parts.{Move}
use Rattle.machine.specs.Machine.Change.{refuse_lane, refused_in, counted, lane_store, posted, post_to, post_all, moved_store}
use Rattle.machine.specs.Machine.Begin.{complete_with, complete, hit, eject_of, evict, miss_with, miss, begin_at, begin_lane}
use Rattle.machine.specs.Machine.Begin as begin
use Rattle.machine.specs.Machine.Serve.{close, serve_move}
use Rattle.machine.specs.Machine.Return.{return_move}
use Rattle.machine.specs.Machine.Deliver.{waits_no_more, reply, update_at, purge_at, fill_at, grant_at, bare_at, served_on, grant_to, bare_to, deliver_kind, deliver_lane}
use Rattle.machine.proofs.Laws.Sets.{set_cases}
use Rattle.machine.proofs.Laws.Sums.{sum_same, set_sum, sum_part, count_sum}
use Rattle.machine.proofs.Rules.Rules.{Admitted}
use Rattle.machine.proofs.Rules.RulesMemory.{serve_move_rule, return_move_rule}
use Rattle.std.specs.Prelude.{Option, Some, None, Result, Ok, Err}

-- 1 where the lane's operation waits
abbrev pub waits : Lane → ℕ
waits l = cond (not (idle_of l.waiting)) 1 0

waiting_waits : (l : Lane) (w : Waiting) → l.waiting ≡ w → waits l ≡ cond (not (idle_of w)) 1 0
waiting_waits l w e = ap (λ (x : Waiting). cond (not (idle_of x)) 1 0) e

-- how many operations complete in a lane's part: so many more are counted
abbrev pub completes : Result LaneAnswer Refusal → ℕ
completes (Ok (Value v)) = 1
completes (Ok Waits) = 0
completes (Ok Stepped) = 0
completes (Err x) = 0

counted_more : (a : Result LaneAnswer Refusal) (done : ℕ) → counted a done ≡ done + completes a
counted_more (Ok (Value v)) done = refl
counted_more (Ok Waits) done = sym (add-zero done)
counted_more (Ok Stepped) done = sym (add-zero done)
counted_more (Err x) done = sym (add-zero done)

-- a lane's part that isn't refused begins b operations: what completes in it and what waits after it are so many more than what waited before
abbrev pub LaneBegins : ℕ → Lane → LaneStep → Type 0
LaneBegins b l r = refused_in r.answer ≡ false → completes r.answer + waits r.lane ≡ waits l + b

refused_begins : (b : ℕ) (l : Lane) (n : Refusal) → LaneBegins b l (refuse_lane n l)
refused_begins b l n e = absurd (true≢false e)

-- an operation completes on a lane that waits as l did, or no more for the one that completes
complete_begins : (b : ℕ) (o : List LineNo) (i : LineNo) (x : Line) (op : Op) (w : WordNo) (l t : Lane) → waits l + b ≡ 1 + waits t → LaneBegins b l (complete_with o i x op w t)
unfolding complete_with
complete_begins b o i x op w l t h e = sym h

module _ (c : ℕ) (op : Op) (w : WordNo) (l : Lane) (admits : Admitted c op w l) where
  -- the lane waits for nothing, and now for one operation
  begins_one : l.waiting ≡ Idle → waits l + 1 ≡ 1
  begins_one idle = rw (waiting_waits l Idle idle) refl

  -- the operation completes, and what waits still waits; or the lane waits now
  hit_begins : (i : LineNo) → LaneBegins 1 l (hit c i op w l)
  unfolding hit
  hit_begins i =
      pick (LaneBegins 1 l) (is_load op || (line_at l i).private) (complete c i (line_at l i) op w l) (begin.waits Exclude op w l)
      (λ _. complete_begins 1 _ i (line_at l i) op w l l (omega arith))
      (λ t _. sym (begins_one (admits.write (or_left (is_load op) (line_at l i).private t))))

  evict_begins : l.waiting ≡ Idle → (i : LineNo) → LaneBegins 1 l (evict capacity i op w l)
  unfolding evict
  evict_begins idle i =
      by_cond (LaneBegins 1 l) (full_at capacity l.returns.len) (refuse_lane QueueFull l) _ (refused_begins 1 l QueueFull) (λ _. sym (begins_one idle))

  miss_begins : l.waiting ≡ Idle → (f : Option LineNo) → LaneBegins 1 l (miss_with capacity f op w l)
  miss_begins idle (Some i) = λ _. sym (begins_one idle)
  miss_begins idle None = evict_begins idle (place_at l.order 0)

  at_begins : (f : Option LineNo) → search_of l c (block_of w) ≡ f → LaneBegins 1 l (begin_at capacity f c op w l)
  unfolding miss
  at_begins (Some i) e = hit_begins i
  at_begins None e = miss_begins (admits.miss e) (vacant_of l c)

  -- the lane's part of begin
  pub begin_lane_begins : LaneBegins 1 l (begin_lane capacity c op w l)
  unfolding begin_lane
  begin_lane_begins = at_begins (search_of l c (block_of w)) refl

-- an answer joins the return queue of a lane that waits as l does
reply_begins : (y : ReturnMessage) (l t : Lane) → waits t ≡ waits l → LaneBegins 0 l (reply capacity y t)
unfolding reply
reply_begins y l t h =
    by_cond (LaneBegins 0 l) (full_at capacity t.returns.len) (refuse_lane QueueFull t) _ (λ e. absurd (true≢false e)) (λ _. omega arith)

module _ (ins : Insertion) (c : ℕ) (l : Lane) where
  update_begins : (a : BlockNo) (f : Option LineNo) → LaneBegins 0 l (update_at capacity f a l)
  update_begins a (Some i) = reply_begins _ l _ refl
  update_begins a None = reply_begins _ l l refl

  purge_begins : (a : BlockNo) (f : Option LineNo) → LaneBegins 0 l (purge_at capacity f a l)
  purge_begins a (Some i) = reply_begins _ l _ refl
  purge_begins a None = reply_begins _ l l refl

  -- a grant is to the operation that the lane waits for
  module _ (o : Operation) (served : l.waiting ≡ Served o) where
    waited_one : waits l + 0 ≡ 1 + waits (waits_no_more l)
    waited_one = rw (waiting_waits l (Served o) served) refl

    fill_begins : (x : DownMessage) (f : Option LineNo) → LaneBegins 0 l (fill_at ins f c x o l)
    fill_begins x (Some i) = complete_begins 0 _ i _ o.op o.word l (waits_no_more l) waited_one
    fill_begins x None = refused_begins 0 l Unexpected

    grant_begins : (x : DownMessage) (f : Option LineNo) → LaneBegins 0 l (grant_at ins f c x o l)
    grant_begins x (Some i) = refused_begins 0 l Unexpected
    grant_begins x None = fill_begins x (vacant_of l c)

    bare_begins : (f : Option LineNo) → LaneBegins 0 l (bare_at f c o l)
    bare_begins (Some i) = complete_begins 0 _ i _ o.op o.word l (waits_no_more l) waited_one
    bare_begins None = refused_begins 0 l Unexpected

  -- .. or is refused
  grants_begin : (x : DownMessage) (w : Waiting) → l.waiting ≡ w → LaneBegins 0 l (grant_to ins (served_on w x.block) c x l)
  grants_begin x Idle e = refused_begins 0 l Unexpected
  grants_begin x (Unserved o) e = refused_begins 0 l Unexpected
  grants_begin x (Served o) e =
      by_cond (λ (r : Result Operation Refusal). LaneBegins 0 l (grant_to ins r c x l)) (eqb (block_of o.word).0 x.block.0) (Ok o) (Err Unexpected)
      (grant_begins o e x (search_of l c x.block)) (refused_begins 0 l Unexpected)

  bares_begin : (x : DownMessage) (w : Waiting) → l.waiting ≡ w → LaneBegins 0 l (bare_to (served_on w x.block) c x l)
  bares_begin x Idle e = refused_begins 0 l Unexpected
  bares_begin x (Unserved o) e = refused_begins 0 l Unexpected
  bares_begin x (Served o) e =
      by_cond (λ (r : Result Operation Refusal). LaneBegins 0 l (bare_to r c x l)) (eqb (block_of o.word).0 x.block.0) (Ok o) (Err Unexpected)
      (bare_begins o e (search_of l c x.block)) (refused_begins 0 l Unexpected)

  -- what a message does in a lane that has taken it
  kind_begins : (y : DownKind) (x : DownMessage) → LaneBegins 0 l (deliver_kind capacity ins y c x l)
  kind_begins Update x = update_begins x.block (search_of l c x.block)
  kind_begins Purge x = purge_begins x.block (search_of l c x.block)
  kind_begins Grant x = grants_begin x l.waiting refl
  kind_begins BareGrant x = bares_begin x l.waiting refl

-- the lane's part of deliver
pub deliver_lane_begins : (ins : Insertion) (c : ℕ) (l : Lane) → LaneBegins 0 l (deliver_lane capacity ins c l)
unfolding deliver_lane
deliver_lane_begins ins c l =
    pick (LaneBegins 0 l) (empty_at l.downs.len) (refuse_lane NothingPending l) _ (λ _. refused_begins 0 l NothingPending)
    (λ _ e. rw e (kind_begins ins c (with_downs (after_take l.downs) l) (head_down l.downs).kind (head_down l.downs) e))

-- memory's part: the lane waits on
pub serve_move_waits : (k : LaneNo) (o : Operation) (l : Lane) (b : Block) (x : Control) → l.waiting ≡ Unserved o → waits (serve_move k o l b x).lane ≡ waits l
unfolding close
serve_move_waits k o l b x e =
    let h = sym (waiting_waits l (Unserved o) e) in
    serve_move_rule (λ (v : Move). waits v.lane ≡ waits l) k o l b x (λ _. h) (λ _. h)

pub return_move_waits : (k : LaneNo) (x : ReturnMessage) (l : Lane) (b : Block) (y : Control) → waits (return_move k x l b y).lane ≡ waits l
unfolding close
return_move_waits k x l b y =
    return_move_rule (λ (v : Move). waits v.lane ≡ waits l) k x l b y (λ _. refl) refl (λ _ _ _ _. refl) (λ _ _ _ _. refl)

-- what waits in the first n lanes
abbrev lanes_wait : List Lane → ℕ → ℕ
lanes_wait ls n = sum_to (λ k. waits (get_or ls k no_lane)) n

begun_sum : (s : Store) → begun_in s ≡ s.completions + lanes_wait s.lanes s.shape.n
unfolding begun_in waiting_in
begun_sum s = ap (λ (n : ℕ). s.completions + n) (count_sum (λ k. not (idle_of (lane_at s k).waiting)) s.shape.n)

-- lane k after its part of a call
pub lane_begun : (b : ℕ) (s : Store) (k : LaneNo) (r : LaneStep) → k.0 < s.shape.n → k.0 < length s.lanes → LaneBegins b (lane_at s k.0) r →
    refused_in r.answer ≡ false → begun_in (lane_store s k r) ≡ begun_in s + b
lane_begun b s k r h l t e =
    let p = t e in
    let q = counted_more r.answer s.completions in
    let a = set_sum waits s.lanes no_lane k.0 s.shape.n r.lane h l in
    let c = begun_sum s in
    let d = begun_sum (lane_store s k r) in
    omega arith

-- .. and the count of completions after it: at most the operations begun, and b
pub lane_counted : (b : ℕ) (s : Store) (k : LaneNo) (r : LaneStep) → k.0 < s.shape.n → LaneBegins b (lane_at s k.0) r →
    counted r.answer s.completions ≤ begun_in s + b
lane_counted b s k r h t =
    let p = few r.answer t in
    let q = counted_more r.answer s.completions in
    let a = sum_part (λ j. waits (get_or s.lanes j no_lane)) s.shape.n k.0 h in
    let c = begun_sum s in
    omega arith
  where
    few : (a : Result LaneAnswer Refusal) → (refused_in a ≡ false → completes a + waits r.lane ≡ waits (lane_at s k.0) + b) → completes a ≤ waits (lane_at s k.0) + b
    few (Ok (Value v)) g = let e = g refl in omega arith
    few (Ok Waits) g = omega arith
    few (Ok Stepped) g = omega arith
    few (Err x) g = omega arith

-- a lane whose use order has a place is there
pub lane_there : (ls : List Lane) (k : ℕ) → 1 ≤ length (get_or ls k no_lane).order → k < length ls
lane_there ls k h = go (below? k (length ls))
  where
    go : (k < length ls) ⊎ (length ls ≤ k) → k < length ls
    go (inl l) = l
    go (inr l) = let e = ap (λ (x : Lane). length x.order) (get_or-eq_default ls no_lane l) in absurd (omega arith)

-- a message to some lanes: each waits on
posts_wait : (to : List Bool) (x : DownMessage) (t : ℕ) (ls : List Lane) (j : ℕ) → waits (get_or (up_to (post_to capacity to x) t ls) j no_lane) ≡ waits (get_or ls j no_lane)
unfolding up_to post_to
posts_wait to x zero ls j = refl
posts_wait to x (suc t) ls j = go (up_to (post_to capacity to x) t ls) (posts_wait to x t ls j)
  where
    go : (now : List Lane) → waits (get_or now j no_lane) ≡ waits (get_or ls j no_lane) →
        waits (get_or (cond (goes_to to t) (set now t (posted capacity x (get_or now t no_lane))) now) j no_lane) ≡ waits (get_or ls j no_lane)
    go now e =
        by_cond (λ (r : List Lane). waits (get_or r j no_lane) ≡ waits (get_or ls j no_lane)) (goes_to to t) (set now t (posted capacity x (get_or now t no_lane))) now
        (set_cases (λ (l : Lane). waits l ≡ waits (get_or ls j no_lane)) now t j (posted capacity x (get_or now t no_lane)) no_lane (λ q. sym (ap (λ (i : ℕ). waits (get_or now i no_lane)) q) ∙ e) e)
        e

-- the store after memory's part of a call, whose lane waits on
pub move_begun : (s : Store) (k : LaneNo) (a : BlockNo) (v : Move) → waits v.lane ≡ waits (lane_at s k.0) → begun_in (moved_store s k a v) ≡ begun_in s
unfolding post_all
move_begun s k a v h =
    let c = begun_sum s in
    let d = begun_sum (moved_store s k a v) in
    let e = sum_same (λ j. waits (get_or s.lanes j no_lane)) (λ j. waits (get_or (moved_store s k a v).lanes j no_lane)) s.shape.n (λ j _. at_lane j) in
    omega arith
  where
    at_lane : (j : ℕ) → waits (get_or (moved_store s k a v).lanes j no_lane) ≡ waits (get_or s.lanes j no_lane)
    at_lane j =
        posts_wait v.to v.message 8 (set s.lanes k.0 v.lane) j ∙
        set_cases (λ (l : Lane). waits l ≡ waits (get_or s.lanes j no_lane)) s.lanes k.0 j v.lane no_lane (λ q. rw q h) refl
