-- What a lane adds to settle's potential and bound, and to the orders queued: its parts at given rates. What a lane's part of a step makes of it.
-- Assumes nothing.
use Prim.Native.Nat.{ℕ, zero, suc, ◌+◌, ◌-◌, ◌*◌, ◌<◌, ◌≤◌}
use mathlib.Core.Logic.{inl, inr, ◌≢◌}
use mathlib.Core.Path.{◌≡◌, refl, ap}
use mathlib.Core.Bool.{Bool, true, false, not, cond, ◌&&◌, true≢false}
use mathlib.Core.List.{List}
use lib.Dec.{leb, ltb, eqb}
use lib.ListN.{length, get_or, set}
use lib.Seq.{get_or-set_same, get_or-set_other}
use borrow.Author.Tests.{leb-false, eqb-false, lt-ltb, le-ltb}
use native.Mathlib.Omega.{arith}
use Rattle.words.specs.declared.LineNo.{LineNo}
use Rattle.words.specs.declared.BlockNo.{BlockNo}
use Rattle.words.specs.declared.WordNo.{WordNo}
use Rattle.words.specs.declared.Line.{Line}
use Rattle.words.specs.declared.Op.{Op}
use Rattle.words.specs.Units.{block_of}
use Rattle.words.specs.Folds.{count_to, sum_to}
use Rattle.words.specs.Lines.{invalid}
use Rattle.words.proofs.Folds.{below?, by_cond, pick}
use Rattle.queues.specs.Messages.{ReturnMessage}
use Rattle.queues.specs.Messages.{DownMessage}
use Rattle.queues.specs.declared.DownKind.{DownKind}
use Rattle.queues.specs.declared.DownKind.TheVariants.{Update, Purge, Grant, BareGrant}
use Rattle.queues.specs.Queues.{DownQueue}
use Rattle.queues.specs.Queues.{capacity, full_at, empty_at, shifted, no_down, head_down, after_take}
use Rattle.lanes.specs.declared.Lane.{Lane}
use Rattle.lanes.specs.declared.Operation.{Operation}
use Rattle.lanes.specs.declared.Waiting.{Waiting}
use Rattle.lanes.specs.declared.Waiting.TheVariants.{Idle, Unserved, Served}
use Rattle.lanes.specs.Search.{line_at, search_of, vacant_of}
use Rattle.lanes.specs.Waits.{unserved_of}
use Rattle.lanes.specs.UseOrder.{Insertion}
use Rattle.lanes.specs.Lanes.{with_waiting, with_returns, with_downs, with_line}
use Rattle.answers.specs.declared.Refusal.{Refusal}
use Rattle.answers.specs.declared.Refusal.TheVariants.{NothingPending, QueueFull, Unexpected}
use Rattle.machine.specs.Machine.Parts.{LaneStep}
use Rattle.machine.specs.Machine.Change.{refuse_lane, posted, refused_in}
use Rattle.machine.specs.Machine.Begin.{complete_with}
use Rattle.machine.specs.Machine.Deliver.{waits_no_more, reply, shared, update_at, purge_at, fill_at, grant_at, bare_at, served_on, grant_to, bare_to, deliver_kind, deliver_lane}
use Rattle.machine.specs.Machine.Settle.{is_order, downs_of}
use Rattle.machine.specs.Machine.Sized.{LaneSized}
use Rattle.queues.proofs.Shifts.{shifted_next}
use Rattle.machine.proofs.Laws.Tests.{on}
use Rattle.machine.proofs.Laws.Sums.{sum_same, sum_change, sum_most, zero_sum}
use Rattle.machine.proofs.Rules.RulesQuiet.{Still}
use Rattle.std.specs.Prelude.{Option, Some, None, Result, Ok, Err}

-- what is added for a message of a return queue, an order and a grant of a down queue, and an unserved operation
pub record Rates : Type 0 where
  pub return : ℕ
  pub order : ℕ
  pub grant : ℕ
  pub unserved : ℕ

-- the potential where u is 2, 01's bound where it is 2 × n: an order is answered, a grant is not
abbrev pub tallied : ℕ → Rates
tallied u = record { return = 1; order = 2; grant = 1; unserved = u }

-- the orders alone
abbrev pub orders_only : Rates
orders_only = record { return = 0; order = 1; grant = 0; unserved = 0 }

-- what a down message adds, and the answer to it: one to an order, none to a grant
abbrev pub price : Rates → DownKind → ℕ
price ρ x = cond (is_order x) ρ.order ρ.grant

abbrev pub answered : Rates → DownKind → ℕ
answered ρ x = cond (is_order x) ρ.return 0

-- what a down queue adds
abbrev pub downs_weight : Rates → DownQueue → ℕ
downs_weight ρ q = ρ.grant * downs_of false q + ρ.order * downs_of true q

-- what a lane adds
unfoldable pub weight : Rates → Lane → ℕ
weight ρ l = ρ.return * l.returns.len + downs_weight ρ l.downs + cond (unserved_of l.waiting) ρ.unserved 0

-- .. in the tally, and of orders
pub tallied_weight : (u : ℕ) (l : Lane) → weight (tallied u) l ≡ l.returns.len + (downs_of false l.downs + 2 * downs_of true l.downs) + cond (unserved_of l.waiting) u 0
unfolding weight
tallied_weight u l = omega arith

neither : (b : Bool) → ◌≡◌ {A = ℕ} (cond b 0 0) 0
neither true = refl
neither false = refl

pub orders_weight : (l : Lane) → weight orders_only l ≡ downs_of true l.downs
unfolding weight
orders_weight l = let a = neither (unserved_of l.waiting) in omega arith

-- a place of a down queue
place_weight : (ρ : Rates) (b o : Bool) → ρ.grant * cond (b && not o) 1 0 + ρ.order * cond (b && o) 1 0 ≡ cond b (cond o ρ.order ρ.grant) 0
place_weight ρ true true = omega arith
place_weight ρ true false = omega arith
place_weight ρ false true = omega arith
place_weight ρ false false = omega arith

-- what place i of a queue of len messages adds
abbrev placed : Rates → ℕ → List DownMessage → ℕ → ℕ
placed ρ len at i = cond (ltb i len) (price ρ (get_or at i no_down).kind) 0

-- two counts as one sum
counts_weigh : (a b : ℕ) (p q : ℕ → Bool) (r : ℕ → ℕ) (n : ℕ) → ((i : ℕ) → a * cond (p i) 1 0 + b * cond (q i) 1 0 ≡ r i) → a * count_to p n + b * count_to q n ≡ sum_to r n
unfolding count_to sum_to
counts_weigh a b p q r zero h = omega arith
counts_weigh a b p q r (suc n) h = let c = counts_weigh a b p q r n h in let d = h n in omega arith

-- what a queue of len messages adds
downs_weight_lem : (ρ : Rates) (len : ℕ) (at : List DownMessage) → downs_weight ρ (record { len = len; at = at }) ≡ sum_to (placed ρ len at) capacity
downs_weight_lem ρ len at = counts_weigh _ _ _ _ (placed ρ len at) capacity (λ i. place_weight ρ (ltb i len) (is_order (get_or at i no_down).kind))

-- a message joins a down queue
join_weight : (ρ : Rates) (len : ℕ) (at : List DownMessage) (x : DownMessage) → length at ≡ capacity → len < capacity →
    downs_weight ρ (record { len = len + 1; at = set at len x }) ≡ downs_weight ρ (record { len = len; at = at }) + price ρ x.kind
join_weight ρ len at x e h =
    let a = downs_weight_lem ρ (len + 1) (set at len x) in
    let b = downs_weight_lem ρ len at in
    let c = sum_change (placed ρ len at) (placed ρ (len + 1) (set at len x)) capacity len h other in
    let d : placed ρ len at len ≡ 0 = rw (le-ltb len len (omega arith)) in
    let f : placed ρ (len + 1) (set at len x) len ≡ price ρ x.kind = rw (lt-ltb len (len + 1) (omega arith), get_or-set_same at len x no_down (omega arith)) in
    omega arith
  where
    below : (j : ℕ) → j ≢ len → ltb j (len + 1) ≡ ltb j len
    below j n = elim (below? j len) [ inl l ↦ rw (lt-ltb j len l, lt-ltb j (len + 1) (omega arith)) | inr l ↦ rw (le-ltb j len l, le-ltb j (len + 1) (omega (arith, n))) ]

    other : (j : ℕ) → j ≢ len → placed ρ (len + 1) (set at len x) j ≡ placed ρ len at j
    other j n = rw (below j n, get_or-set_other at len j x no_down n)

-- one term more
sum_more : (f : ℕ → ℕ) (n : ℕ) → sum_to f (suc n) ≡ sum_to f n + f n
unfolding sum_to
sum_more f n = refl

-- a sum from the second number on
sum_first : (f : ℕ → ℕ) (n : ℕ) → sum_to f (suc n) ≡ f 0 + sum_to (λ i. f (suc i)) n
unfolding sum_to
sum_first f zero = omega arith
sum_first f (suc n) = let a = sum_first f n in omega arith

-- the head leaves a down queue
leave_weight : (ρ : Rates) (len : ℕ) (at : List DownMessage) → length at ≡ capacity → 0 < len → len ≤ capacity →
    downs_weight ρ (record { len = len - 1; at = shifted at }) + price ρ (get_or at 0 no_down).kind ≡ downs_weight ρ (record { len = len; at = at })
leave_weight ρ len at e h l =
    let a = downs_weight_lem ρ (len - 1) (shifted at) in
    let b = downs_weight_lem ρ len at in
    let c = sum_first (placed ρ len at) 7 in
    let d : placed ρ len at 0 ≡ price ρ (get_or at 0 no_down).kind = rw (lt-ltb 0 len h) in
    let f = sum_same (λ i. placed ρ len at (suc i)) (placed ρ (len - 1) (shifted at)) 7 next in
    let g = sum_more (placed ρ (len - 1) (shifted at)) 7 in
    let k : placed ρ (len - 1) (shifted at) 7 ≡ 0 = rw (le-ltb 7 (len - 1) (omega arith)) in
    omega arith
  where
    below : (i : ℕ) → ltb i (len - 1) ≡ ltb (suc i) len
    below i = elim (below? (suc i) len) [ inl q ↦ rw (lt-ltb (suc i) len q, lt-ltb i (len - 1) (omega arith)) | inr q ↦ rw (le-ltb (suc i) len q, le-ltb i (len - 1) (omega arith)) ]

    next : (i : ℕ) → i < 7 → placed ρ (len - 1) (shifted at) i ≡ placed ρ len at (suc i)
    next i q = rw (below i, shifted_next no_down at i (omega arith))

-- a lane whose operation is served
pub served_weight : (ρ : Rates) (l : Lane) (o : Operation) → l.waiting ≡ Unserved o → weight ρ (with_waiting (Served o) l) + ρ.unserved ≡ weight ρ l
unfolding weight
served_weight ρ l o e = let a = ap (λ (w : Waiting). cond (unserved_of w) ρ.unserved 0) e in omega arith

-- a message joins the down queue of a lane
pub posted_weight : (ρ : Rates) (x : DownMessage) (l : Lane) → LaneSized l → full_at capacity l.downs.len ≡ false → weight ρ (posted capacity x l) ≡ weight ρ l + price ρ x.kind
unfolding weight
posted_weight ρ x l g e = let a = join_weight ρ l.downs.len l.downs.at x g.downs (leb-false _ _ e) in rw e (omega arith)

-- the head leaves the return queue of a lane
pub returned_weight : (ρ : Rates) (l : Lane) → empty_at l.returns.len ≡ false → weight ρ (with_returns (after_take l.returns) l) + ρ.return ≡ weight ρ l
unfolding weight
returned_weight ρ l e =
    let n = eqb-false l.returns.len 0 e in
    let p : l.returns.len ≡ (l.returns.len - 1) + 1 = omega (arith, n) in
    let q = ap (λ k. ρ.return * k) p in
    rw e (omega arith)

-- .. and the down queue
taken_weight : (ρ : Rates) (l : Lane) → LaneSized l → l.downs.len ≤ capacity → empty_at l.downs.len ≡ false →
    weight ρ (with_downs (after_take l.downs) l) + price ρ (head_down l.downs).kind ≡ weight ρ l
unfolding weight
taken_weight ρ l g s e =
    let n = eqb-false l.downs.len 0 e in
    let a = leave_weight ρ l.downs.len l.downs.at g.downs (omega (arith, n)) s in
    rw e (omega arith)

-- a lane's part of a step, unless it is refused: x has come to the lane
abbrev pub Takes : Rates → ℕ → Lane → LaneStep → Type 0
Takes ρ x l r = refused_in r.answer ≡ false → weight ρ r.lane ≡ weight ρ l + x

refused_takes : (ρ : Rates) (x : ℕ) (l : Lane) (n : Refusal) → Takes ρ x l (refuse_lane n l)
refused_takes ρ x l n e = absurd (true≢false e)

-- an answer joins the return queue; the line it is of may have changed
reply_takes : (ρ : Rates) (y : ReturnMessage) (l : Lane) → Takes ρ ρ.return l (reply capacity y l)
unfolding reply weight
reply_takes ρ y l =
    on (leb capacity l.returns.len) (λ q. rw q (refused_takes ρ ρ.return l QueueFull)) (λ q. rw q (λ _. omega arith))

line_takes : (ρ : Rates) (y : ReturnMessage) (i : LineNo) (x : Line) (l : Lane) → Takes ρ ρ.return l (reply capacity y (with_line i x l))
unfolding weight
line_takes ρ y i x l e = reply_takes ρ y (with_line i x l) e

-- the operation that the lane waits for completes
complete_takes : (ρ : Rates) (order : List LineNo) (i : LineNo) (x : Line) (op : Op) (w : WordNo) (l : Lane) (o : Operation) → l.waiting ≡ Served o →
    Takes ρ 0 l (complete_with order i x op w (waits_no_more l))
unfolding complete_with weight
complete_takes ρ order i x op w l o e h =
    let a = ap (λ (y : Waiting). cond (unserved_of y) ρ.unserved 0) e in
    omega arith

module _ (ins : Insertion) (ρ : Rates) (c : ℕ) (l : Lane) where
  update_takes : (a : BlockNo) (f : Option LineNo) → Takes ρ ρ.return l (update_at capacity f a l)
  update_takes a (Some i) = line_takes ρ _ i (shared (line_at l i)) l
  update_takes a None = reply_takes ρ _ l

  purge_takes : (a : BlockNo) (f : Option LineNo) → Takes ρ ρ.return l (purge_at capacity f a l)
  purge_takes a (Some i) = line_takes ρ _ i (invalid (line_at l i)) l
  purge_takes a None = reply_takes ρ _ l

  fill_takes : (x : DownMessage) (o : Operation) (f : Option LineNo) → l.waiting ≡ Served o → Takes ρ 0 l (fill_at ins f c x o l)
  fill_takes x o (Some i) e = complete_takes ρ _ i _ o.op o.word l o e
  fill_takes x o None e = refused_takes ρ 0 l Unexpected

  grant_takes : (x : DownMessage) (o : Operation) (f : Option LineNo) → l.waiting ≡ Served o → Takes ρ 0 l (grant_at ins f c x o l)
  grant_takes x o (Some i) e = refused_takes ρ 0 l Unexpected
  grant_takes x o None e = fill_takes x o (vacant_of l c) e

  bare_takes : (o : Operation) (f : Option LineNo) → l.waiting ≡ Served o → Takes ρ 0 l (bare_at f c o l)
  bare_takes o (Some i) e = complete_takes ρ _ i _ o.op o.word l o e
  bare_takes o None e = refused_takes ρ 0 l Unexpected

  -- a grant is to the operation that is served, or is refused
  grants_take : (x : DownMessage) (w : Waiting) → l.waiting ≡ w → Takes ρ 0 l (grant_to ins (served_on w x.block) c x l)
  grants_take x Idle e = refused_takes ρ 0 l Unexpected
  grants_take x (Unserved o) e = refused_takes ρ 0 l Unexpected
  grants_take x (Served o) e =
      by_cond (λ (r : Result Operation Refusal). Takes ρ 0 l (grant_to ins r c x l)) (eqb (block_of o.word).0 x.block.0) (Ok o) (Err Unexpected)
      (grant_takes x o (search_of l c x.block) e) (refused_takes ρ 0 l Unexpected)

  bares_take : (x : DownMessage) (w : Waiting) → l.waiting ≡ w → Takes ρ 0 l (bare_to (served_on w x.block) c x l)
  bares_take x Idle e = refused_takes ρ 0 l Unexpected
  bares_take x (Unserved o) e = refused_takes ρ 0 l Unexpected
  bares_take x (Served o) e =
      by_cond (λ (r : Result Operation Refusal). Takes ρ 0 l (bare_to r c x l)) (eqb (block_of o.word).0 x.block.0) (Ok o) (Err Unexpected)
      (bare_takes o (search_of l c x.block) e) (refused_takes ρ 0 l Unexpected)

  -- what a message does in a lane that has taken it
  kind_takes : (y : DownKind) (x : DownMessage) → Takes ρ (answered ρ y) l (deliver_kind capacity ins y c x l)
  kind_takes Update x = update_takes x.block (search_of l c x.block)
  kind_takes Purge x = purge_takes x.block (search_of l c x.block)
  kind_takes Grant x = grants_take x l.waiting refl
  kind_takes BareGrant x = bares_take x l.waiting refl

-- the lane's part of deliver
module _ (ins : Insertion) (c : ℕ) (l : Lane) (g : LaneSized l) (s : l.downs.len ≤ capacity) where
  -- the head has left, and its answer has come
  deliver_lane_takes : (ρ : Rates) → refused_in (deliver_lane capacity ins c l).answer ≡ false →
      weight ρ (deliver_lane capacity ins c l).lane + price ρ (head_down l.downs).kind ≡ weight ρ l + answered ρ (head_down l.downs).kind
  unfolding deliver_lane
  deliver_lane_takes ρ =
      pick (λ (r : LaneStep). refused_in r.answer ≡ false → weight ρ r.lane + price ρ (head_down l.downs).kind ≡ weight ρ l + answered ρ (head_down l.downs).kind)
      (empty_at l.downs.len) (refuse_lane NothingPending l) _ (λ _ e. absurd (true≢false e))
      (λ q e.
      let a = kind_takes ins ρ c (with_downs (after_take l.downs) l) (head_down l.downs).kind (head_down l.downs) e in
      let b = taken_weight ρ l g s q in
      rw e (omega arith))

  -- .. so the lane is lighter by 1
  pub deliver_lane_lighter : (u : ℕ) → refused_in (deliver_lane capacity ins c l).answer ≡ false → weight (tallied u) (deliver_lane capacity ins c l).lane + 1 ≡ weight (tallied u) l
  deliver_lane_lighter u e =
      let a = deliver_lane_takes (tallied u) e in
      let b = one_less (is_order (head_down l.downs).kind) in
      omega arith
    where
      one_less : (o : Bool) → ◌≡◌ {A = ℕ} (cond o 2 1) (cond o 1 0 + 1)
      one_less true = refl
      one_less false = refl

  -- .. and has no order more
  pub deliver_lane_orders : refused_in (deliver_lane capacity ins c l).answer ≡ false → weight orders_only (deliver_lane capacity ins c l).lane ≤ weight orders_only l
  deliver_lane_orders e =
      let a = deliver_lane_takes orders_only e in
      let b = neither (is_order (head_down l.downs).kind) in
      omega arith

-- a lane that does not stir adds nothing
pub still_weight : (ρ : Rates) (l : Lane) → Still l → weight ρ l ≡ 0
unfolding weight
still_weight ρ l z =
    let a = downs_weight_lem ρ l.downs.len l.downs.at in
    let b = zero_sum (placed ρ l.downs.len l.downs.at) capacity (λ j _. rw (z.downs, le-ltb j 0 (omega arith))) in
    let c = ap (λ (n : ℕ). ρ.return * n) z.returns in
    let d = ap (λ (w : Waiting). cond (unserved_of w) ρ.unserved 0) z.waits in
    omega arith

-- a lane adds no more than eight messages of each queue and its operation
pub weight_most : (u : ℕ) (l : Lane) → l.returns.len ≤ capacity → weight (tallied u) l ≤ u + 24
unfolding weight
weight_most u l h =
    let a = downs_weight_lem (tallied u) l.downs.len l.downs.at in
    let b = sum_most (placed (tallied u) l.downs.len l.downs.at) 2 capacity (λ j _. price_most (ltb j l.downs.len) (is_order (get_or l.downs.at j no_down).kind)) in
    let d = waiting_most (unserved_of l.waiting) in
    omega arith
  where
    price_most : (b o : Bool) → cond b (cond o 2 1) 0 ≤ 2
    price_most true true = omega arith
    price_most true false = omega arith
    price_most false o = omega arith

    waiting_most : (b : Bool) → cond b u 0 ≤ u
    waiting_most true = omega arith
    waiting_most false = omega arith
