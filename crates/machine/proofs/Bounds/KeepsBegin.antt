-- Begin keeps a store within bounds. Assumes nothing.
use Prim.Native.Nat.{ℕ, zero, suc, ◌+◌, ◌<◌, ◌≤◌}
use mathlib.Core.Logic.{◌⊎◌, inl, inr, ◌≢◌}
use mathlib.Core.Path.{◌≡◌, refl}
use mathlib.Core.Bool.{Bool, true, false, not, cond, ◌||◌}
use mathlib.Core.List.{List}
use lib.Dec.{leb}
use lib.ListN.{get_or, set}
use borrow.Author.Tests.{leb-false, not-false}
use native.Mathlib.Omega.{arith}
use Rattle.words.specs.declared.LaneNo.{LaneNo}
use Rattle.words.specs.declared.LineNo.{LineNo}
use Rattle.words.specs.declared.WordNo.{WordNo}
use Rattle.words.specs.declared.Line.{Line}
use Rattle.words.specs.declared.Op.{Op}
use Rattle.words.specs.Lines.{no_line, invalid}
use Rattle.words.specs.Units.{block_of}
use Rattle.words.specs.Operations.{is_load}
use Rattle.words.proofs.Folds.{by_cond}
use Rattle.queues.specs.Messages.{ReturnMessage}
use Rattle.queues.specs.Queues.{capacity, no_return}
use Rattle.lanes.specs.declared.Lane.{Lane}
use Rattle.lanes.specs.declared.Command.TheVariants.{Exclude}
use Rattle.lanes.specs.Search.{line_at, first_from, search_of, vacant_of}
use Rattle.lanes.specs.UseOrder.{place_at}
use Rattle.lanes.specs.Lanes.{with_line}
use Rattle.store.specs.declared.Store.{Store}
use Rattle.store.specs.declared.Outcome.{Outcome}
use Rattle.store.specs.Stores.{lane_at}
use Rattle.machine.specs.Machine.Parts.{LaneStep}
use Rattle.machine.specs.Machine.Begin.{complete, waits, hit, read_of, eject_of, evict, miss_with, miss, begin_at, begin_lane, begin_of}
use Rattle.machine.proofs.Laws.Tests.{on}
use Rattle.machine.proofs.Laws.Sets.{same?}
use Rattle.machine.proofs.Laws.Orders.{used_kept}
use Rattle.machine.proofs.Bounds.KeepsLane.{LaneFit, clash, join_keeps, with_line_lem, with_returns_lem, with_unserved, complete_keeps}
use Rattle.machine.proofs.Bounds.KeepsBegun.{begin_lane_begins}
use Rattle.machine.proofs.Bounds.KeepsStore.{Fit, lane_fit, commit_lane_keeps}
use Rattle.machine.proofs.Bounds.KeepsDeliver.{found_below}
use Rattle.machine.proofs.Rules.Rules.{begin_rule}
use Rattle.std.specs.Prelude.{Option, Some, None}

-- no line passes the test, so line j does not
pub first_nothing : (p : Line → Bool) (ls : List Line) (n k : ℕ) → first_from p ls n k ≡ None → (j : ℕ) → k ≤ j → j < k + n → p (get_or ls j no_line) ≡ false
unfolding first_from
first_nothing p ls zero k e j a b = absurd (omega arith)
first_nothing p ls (suc n) k e j a b = go (p (get_or ls k no_line)) refl e (λ q. first_nothing p ls n (k + 1) q j) (same? j k)
  where
    go : (t : Bool) → p (get_or ls k no_line) ≡ t → cond t (Some (record { 0 = k })) (first_from p ls n (k + 1)) ≡ None →
        (first_from p ls n (k + 1) ≡ None → k + 1 ≤ j → j < k + 1 + n → p (get_or ls j no_line) ≡ false) → (j ≡ k) ⊎ (j ≢ k) → p (get_or ls j no_line) ≡ false
    go true t q r s = clash (cc)
    go false t q r (inl s) = rw s t
    go false t q r (inr s) = r q (omega (arith, s)) (omega arith)

-- with no vacant line each of the c lines is valid
pub all_valid : (l : Lane) (c : ℕ) → vacant_of l c ≡ None → (j : ℕ) → j < c → (get_or l.lines j no_line).valid ≡ true
all_valid l c e j h =
    not-false (get_or l.lines j no_line).valid (first_nothing (λ (x : Line). not x.valid) l.lines c 0 e j (omega arith) (omega arith))

module _ (h c m : ℕ) (c₀ : 1 ≤ c) (c₁ : c ≤ h) (z : 1 ≤ m) (op : Op) (w : WordNo) (b : (block_of w).0 < m) (l : Lane) (g : LaneFit h c m l) where
  hit_keeps : (i : LineNo) → i.0 < c → LaneFit h c m (hit c i op w l).lane
  unfolding hit
  hit_keeps i p =
      by_cond (λ (r : LaneStep). LaneFit h c m r.lane) (is_load op || (line_at l i).private) (complete c i (line_at l i) op w l) (waits Exclude op w l)
      (complete_keeps h c m l g _ i (line_at l i) op w c₀ c₁ (g.sound.lines i.0 p) (used_kept c i l.order))
      (with_unserved h c m l g (record { command = Exclude; op = op; word = w }) b)

  -- the line given up is valid, so its block is one of the store's
  evict_keeps : (i : LineNo) → (line_at l i).block.0 < m → LaneFit h c m (evict capacity i op w l).lane
  unfolding evict
  evict_keeps i p =
      let y = by_cond (λ (x : ReturnMessage). x.block.0 < m) (line_at l i).private _ _ p p in
      let t = with_line_lem h c m l g i (invalid (line_at l i)) (λ e. clash (cc)) in
      on (leb capacity l.returns.len) (λ e. rw e g)
      (λ e. rw e
      (let q = with_returns_lem h c m (with_line i (invalid (line_at l i)) l) t
      (record { len = l.returns.len + 1; at = set l.returns.at l.returns.len (eject_of (line_at l i)) })
      (join_keeps (λ (x : ReturnMessage). x.block.0) no_return m l.returns.len l.returns.at (eject_of (line_at l i)) (leb-false _ _ e) z y g.sound.returns) in
      with_unserved h c m _ q (record { command = read_of op; op = op; word = w }) b))

  miss_keeps : (f : Option LineNo) → vacant_of l c ≡ f → LaneFit h c m (miss_with capacity f op w l).lane
  miss_keeps (Some i) e = with_unserved h c m l g (record { command = read_of op; op = op; word = w }) b
  miss_keeps None e =
      let o = g.sound.order.named 0 c₀ in
      evict_keeps (place_at l.order 0) (g.sound.lines (place_at l.order 0).0 o (all_valid l c e (place_at l.order 0).0 o))

  at_keeps : (f : Option LineNo) → search_of l c (block_of w) ≡ f → LaneFit h c m (begin_at capacity f c op w l).lane
  unfolding miss
  at_keeps (Some i) e = hit_keeps i (found_below l c (block_of w) i e)
  at_keeps None e = miss_keeps (vacant_of l c) refl

  -- the lane's part of begin
  pub begin_lane_keeps : LaneFit h c m (begin_lane capacity c op w l).lane
  unfolding begin_lane
  begin_lane_keeps = at_keeps (search_of l c (block_of w)) refl

pub begin_fit : (h : ℕ) (s : Store) (k : LaneNo) (op : Op) (w : WordNo) → s.shape.c ≤ h → Fit h s → Fit h (begin_of s k op w).store
begin_fit h s k op w b g =
    begin_rule (λ (r : Outcome). Fit h r.store) s k op w (λ _. g)
    (λ r.
    let c = g.sound.c_low in
    let z = g.sound.begun in
    commit_lane_keeps h 1 s k _ (omega arith) r.lane g
    (begin_lane_keeps h s.shape.c s.shape.m g.sound.c_low b g.sound.m_low op w r.inside (lane_at s k.0) (lane_fit h s g k.0 r.lane))
    (begin_lane_begins s.shape.c op w (lane_at s k.0) r.admits) (omega (arith, r.left)))
