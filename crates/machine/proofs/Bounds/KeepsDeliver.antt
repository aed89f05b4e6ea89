-- Deliver keeps a store within bounds. Assumes nothing.
use Prim.Native.Nat.{ℕ, ◌<◌, ◌≤◌}
use mathlib.Core.Path.{◌≡◌, refl}
use lib.ListN.{get_or}
use native.Mathlib.Omega.{arith}
use Rattle.words.specs.declared.LaneNo.{LaneNo}
use Rattle.words.specs.declared.LineNo.{LineNo}
use Rattle.words.specs.declared.BlockNo.{BlockNo}
use Rattle.words.specs.declared.Line.{Line}
use Rattle.words.specs.Lines.{holds_of, invalid, filled_line}
use Rattle.words.proofs.Folds.{by_cond, pick}
use Rattle.queues.specs.Messages.{ReturnMessage}
use Rattle.queues.specs.declared.ReturnKind.TheVariants.{Updated, Gone}
use Rattle.queues.specs.Messages.{DownMessage}
use Rattle.queues.specs.declared.DownKind.{DownKind}
use Rattle.queues.specs.declared.DownKind.TheVariants.{Update, Purge, Grant, BareGrant}
use Rattle.queues.specs.Queues.{capacity, empty_at, head_down, after_take, no_down}
use Rattle.queues.specs.Messages.{bare_message, words_message}
use Rattle.lanes.specs.declared.Lane.{Lane}
use Rattle.lanes.specs.declared.Operation.{Operation}
use Rattle.lanes.specs.Search.{line_at, search_of, vacant_of}
use Rattle.lanes.specs.UseOrder.{Insertion}
use Rattle.lanes.specs.Lanes.{with_downs, with_line}
use Rattle.lanes.proofs.Firsts.{first_bound}
use Rattle.answers.specs.declared.Refusal.TheVariants.{NothingPending}
use Rattle.store.specs.declared.Store.{Store}
use Rattle.store.specs.declared.Outcome.{Outcome}
use Rattle.store.specs.Stores.{lane_at}
use Rattle.machine.specs.Machine.Parts.{LaneStep}
use Rattle.machine.specs.Machine.Change.{refuse_lane, refused_in}
use Rattle.machine.specs.Machine.Deliver.{waits_no_more, shared, update_at, purged_of, purge_at, claimed, fill_at, grant_at, bare_at, served_on, grant_to, bare_to, deliver_kind, deliver_lane, deliver_of}
use Rattle.machine.proofs.Laws.Orders.{used_kept, inserted_kept}
use Rattle.machine.proofs.Bounds.KeepsLane.{LaneFit, clash, with_line_lem, with_idle, complete_keeps, reply_keeps, taken_keeps, head_inside}
use Rattle.machine.proofs.Bounds.KeepsBegun.{deliver_lane_begins}
use Rattle.machine.proofs.Bounds.KeepsStore.{Fit, lane_fit, commit_lane_keeps}
use Rattle.machine.proofs.Rules.Rules.{deliver_rule}
use Rattle.std.specs.Prelude.{Option, Some, None, Result, Ok, Err}
use Rattle.answers.specs.declared.Refusal.{Refusal}

-- the line that Search finds is one of the c lines
pub found_below : (l : Lane) (c : ℕ) (a : BlockNo) (i : LineNo) → search_of l c a ≡ Some i → i.0 < c
found_below l c a i e = let b = first_bound (λ (x : Line). holds_of x a) l.lines c 0 i e in omega arith

module _ (ins : Insertion) (h c m : ℕ) (c₀ : 1 ≤ c) (c₁ : c ≤ h) (z : 1 ≤ m) (l : Lane) (g : LaneFit h c m l) where
  update_keeps : (a : BlockNo) → a.0 < m → (f : Option LineNo) → search_of l c a ≡ f → LaneFit h c m (update_at capacity f a l).lane
  update_keeps a b (Some i) e =
      reply_keeps h c m (with_line i (shared (line_at l i)) l)
      (with_line_lem h c m l g i (shared (line_at l i)) (g.sound.lines i.0 (found_below l c a i e)))
      (words_message Updated a (line_at l i).words) z b
  update_keeps a b None e = reply_keeps h c m l g (bare_message Gone a) z b

  purge_keeps : (a : BlockNo) → a.0 < m → (f : Option LineNo) → LaneFit h c m (purge_at capacity f a l).lane
  purge_keeps a b (Some i) =
      reply_keeps h c m (with_line i (invalid (line_at l i)) l) (with_line_lem h c m l g i (invalid (line_at l i)) (λ e. clash (cc)))
      (purged_of a (line_at l i)) z (by_cond (λ (x : ReturnMessage). x.block.0 < m) (line_at l i).private _ _ b b)
  purge_keeps a b None = reply_keeps h c m l g (bare_message Gone a) z b

  fill_keeps : (x : DownMessage) (o : Operation) → x.block.0 < m → (f : Option LineNo) → LaneFit h c m (fill_at ins f c x o l).lane
  fill_keeps x o b (Some i) =
      complete_keeps h c m (waits_no_more l) (with_idle h c m l g) _ i (claimed o.op (filled_line x.block x.words)) o.op o.word c₀ c₁ (λ _. b) (inserted_kept ins o.op c i l.order)
  fill_keeps x o b None = g

  grant_keeps : (x : DownMessage) (o : Operation) → x.block.0 < m → (f : Option LineNo) → LaneFit h c m (grant_at ins f c x o l).lane
  grant_keeps x o b (Some i) = g
  grant_keeps x o b None = fill_keeps x o b (vacant_of l c)

  bare_keeps : (o : Operation) (a : BlockNo) (f : Option LineNo) → search_of l c a ≡ f → LaneFit h c m (bare_at f c o l).lane
  bare_keeps o a (Some i) e =
      complete_keeps h c m (waits_no_more l) (with_idle h c m l g) _ i (claimed o.op (line_at l i)) o.op o.word c₀ c₁ (g.sound.lines i.0 (found_below l c a i e)) (used_kept c i l.order)
  bare_keeps o a None e = g

  grants_keep : (x : DownMessage) → x.block.0 < m → (r : Result Operation Refusal) → LaneFit h c m (grant_to ins r c x l).lane
  grants_keep x b (Err n) = g
  grants_keep x b (Ok o) = grant_keeps x o b (search_of l c x.block)

  bares_keep : (x : DownMessage) (r : Result Operation Refusal) → LaneFit h c m (bare_to r c x l).lane
  bares_keep x (Err n) = g
  bares_keep x (Ok o) = bare_keeps o x.block (search_of l c x.block) refl

  -- what a message does in a lane that has taken it
  pub kind_keeps : (y : DownKind) (x : DownMessage) → x.block.0 < m → LaneFit h c m (deliver_kind capacity ins y c x l).lane
  kind_keeps Update x b = update_keeps x.block b (search_of l c x.block) refl
  kind_keeps Purge x b = purge_keeps x.block b (search_of l c x.block)
  kind_keeps Grant x b = grants_keep x b (served_on l.waiting x.block)
  kind_keeps BareGrant x b = bares_keep x (served_on l.waiting x.block)

-- the lane's part of deliver
pub deliver_lane_keeps : (ins : Insertion) (h c m : ℕ) (l : Lane) → 1 ≤ c → c ≤ h → 1 ≤ m → LaneFit h c m l → LaneFit h c m (deliver_lane capacity ins c l).lane
unfolding deliver_lane
deliver_lane_keeps ins h c m l c₀ c₁ z g =
    pick (λ (r : LaneStep). LaneFit h c m r.lane) (empty_at l.downs.len) (refuse_lane NothingPending l) _ (λ _. g)
    (λ e. by_cond (LaneFit h c m) (refused_in took.answer) l took.lane g
    (kind_keeps ins h c m c₀ c₁ z (with_downs (after_take l.downs) l) (taken_keeps h c m l g z) (head_down l.downs).kind (head_down l.downs)
    (head_inside m l.downs.len (λ i. (get_or l.downs.at i no_down).block.0) g.sound.downs e)))
  where
    took : LaneStep
    took = deliver_kind capacity ins (head_down l.downs).kind c (head_down l.downs) (with_downs (after_take l.downs) l)

pub deliver_fit : (ins : Insertion) (h : ℕ) (s : Store) (k : LaneNo) → s.shape.c ≤ h → Fit h s → Fit h (deliver_of ins s k).store
deliver_fit ins h s k b g =
    deliver_rule ins (λ (r : Outcome). Fit h r.store) s k (λ _. g)
    (λ _ l.
    let c = g.sound.c_low in
    let z = g.sound.begun in
    commit_lane_keeps h 0 s k _ (omega arith) l g
    (deliver_lane_keeps ins h s.shape.c s.shape.m (lane_at s k.0) g.sound.c_low b g.sound.m_low (lane_fit h s g k.0 l))
    (deliver_lane_begins ins s.shape.c (lane_at s k.0)) (omega arith))
