-- Serve and close keep a store within bounds. Assumes nothing.
use Prim.Native.Nat.{ℕ, ◌<◌, ◌≤◌}
use mathlib.Core.Logic.{◌⊎◌, inl, inr}
use mathlib.Core.Path.{◌≡◌, refl, sym, ap, ◌∙◌}
use mathlib.Core.Bool.{Bool, true, false, true≢false}
use mathlib.Core.List.{List}
use lib.ListN.{get_or, set, get_or-replicate}
use native.Mathlib.Omega.{arith}
use Rattle.words.specs.declared.LaneNo.{LaneNo}
use Rattle.words.specs.Units.{block_of}
use Rattle.words.specs.Folds.{count_to}
use Rattle.words.proofs.Folds.{by_cond}
use Rattle.queues.specs.Messages.{DownMessage}
use Rattle.lanes.specs.declared.Lane.{Lane}
use Rattle.lanes.specs.declared.Operation.{Operation}
use Rattle.lanes.specs.declared.Command.{Command}
use Rattle.lanes.specs.declared.Command.TheVariants.{ReadShared, ReadExclusive, Exclude}
use Rattle.lanes.specs.declared.Waiting.TheVariants.{Served}
use Rattle.lanes.specs.Lanes.{with_waiting}
use Rattle.store.specs.declared.Store.{Store}
use Rattle.store.specs.declared.Block.{Block}
use Rattle.store.specs.declared.Service.{Service}
use Rattle.store.specs.declared.Control.{Control}
use Rattle.store.specs.Opening.{blank_control}
use Rattle.store.specs.Control.{slot_at, slot_of, open_services, busy_for, free_slot, free, busy_with, with_slot, with_service, with_updated, without_service, is_busy, service_in}
use Rattle.store.proofs.Services.{Found, Distinct, slot_is, count_most_written, opened_distinct, updated_count, updated_distinct, closed_count, closed_distinct, not_busy_for}
use Rattle.store.specs.declared.Outcome.{Outcome}
use Rattle.store.specs.Stores.{lane_at, block_at}
use Rattle.store.specs.LaneSets.{nobody, goes_to, count_of}
use Rattle.machine.specs.Machine.Serve.{sends_of, ordered, closed_block, close, service_for, serve_move, serve_of}
use Rattle.machine.proofs.Laws.Sets.{set_cases, set_here}
use Rattle.machine.proofs.Laws.Sums.{count_zero}
use Rattle.machine.proofs.Laws.Counts.{count_less, count_past}
use Rattle.machine.proofs.Bounds.Sound.{BlockSound, ServiceSound, ControlSound}
use Rattle.machine.proofs.Bounds.KeepsLane.{LaneFit, with_served, clash}
use Rattle.machine.proofs.Bounds.KeepsBegun.{serve_move_waits}
use Rattle.machine.proofs.Bounds.KeepsStore.{Fit, lane_fit, MoveFit, commit_move_keeps}
use Rattle.machine.proofs.Rules.Rules.{serve_rule}
use Rattle.machine.proofs.Rules.RulesMemory.{serve_move_rule}
use Rattle.std.specs.Prelude.{Option}

-- the control after one slot was written stays within bounds
written_sound : (n m limit i : ℕ) (y : Option Service) (x : Control) → (is_busy y ≡ true → ServiceSound n m (service_in y)) → ControlSound n m limit x → Distinct (with_slot i y x) →
    open_services (with_slot i y x) ≤ limit → ControlSound n m limit (with_slot i y x)
written_sound n m limit i y x h g d c = record { services = λ j l b. go j l b (slot_is x i j y); distinct = d; most = c }
  where
    go : (j : ℕ) → j < 8 → is_busy (slot_at (with_slot i y x) j) ≡ true → ((j ≡ i) × (slot_at (with_slot i y x) j ≡ y)) ⊎ (slot_at (with_slot i y x) j ≡ slot_at x j) →
        ServiceSound n m (service_in (slot_at (with_slot i y x) j))
    go j l b (inl e) = rw e.1 (h (ap (λ (r : Option Service). is_busy r) (sym e.1) ∙ b))
    go j l b (inr e) = rw e (g.services j l (ap (λ (r : Option Service). is_busy r) (sym e) ∙ b))

module _ (n m limit : ℕ) (v : Service) (x : Control) (g : ControlSound n m limit x) where
  -- a service is opened
  pub opened_sound : ServiceSound n m v → slot_of x v.block ≡ 8 → open_services x < limit → ControlSound n m limit (with_service v x)
  unfolding with_service
  opened_sound s none Less =
      let c = count_most_written x (free_slot x) (busy_with v) in
      written_sound n m limit (free_slot x) (busy_with v) x (λ _. s) g (opened_distinct x v none g.distinct) (omega arith)

  module _ (u : Service) (f : Found x v.block u) where
    -- .. awaits one answer fewer
    pub updated_sound : ServiceSound n m v → ControlSound n m limit (with_updated v x)
    unfolding with_updated
    updated_sound s =
        let c = updated_count x v u f in
        let d = g.most in
        written_sound n m limit (slot_of x v.block) (busy_with v) x (λ _. s) g (updated_distinct x v u f g.distinct) (omega arith)

    -- .. is closed
    pub closed_sound : ControlSound n m limit (without_service v x)
    unfolding without_service
    closed_sound =
        let c = closed_count x v u f in
        let d = g.most in
        written_sound n m limit (slot_of x v.block) free x (λ b. clash (cc)) g (closed_distinct x v u f g.distinct) (omega arith)

-- no service at all
pub blank_sound : (n m limit : ℕ) → ControlSound n m limit blank_control
unfolding open_services
blank_sound n m limit =
    let z = count_zero (λ i. is_busy (slot_at blank_control i)) 8 none in
    record {
      services = λ i h b. absurd (true≢false (sym b ∙ none i h));
      distinct = λ i j h _ b _. absurd (true≢false (sym b ∙ none i h));
      most = omega arith;
    }
  where
    none : (i : ℕ) → i < 8 → is_busy (slot_at blank_control i) ≡ false
    none i h = ap (λ (y : Option Service). is_busy y) (get_or-replicate 8 i free free h)

-- nobody is no lane
nobody_absent : (j : ℕ) → j < 8 → goes_to nobody j ≡ false
nobody_absent j l = get_or-replicate 8 j false false l

-- flags of which one, of a lane, is set
set_absent : (n k : ℕ) (flags : List Bool) → k < n → ((j : ℕ) → n ≤ j → j < 8 → get_or flags j false ≡ false) →
    (j : ℕ) → n ≤ j → j < 8 → get_or (set flags k true) j false ≡ false
set_absent n k flags h g j p l = set_cases (λ (b : Bool). b ≡ false) flags k j true false (λ e. absurd (omega arith)) (g j p l)

-- flags of which one is reset
pub reset_absent : (n k : ℕ) (flags : List Bool) → ((j : ℕ) → n ≤ j → j < 8 → get_or flags j false ≡ false) →
    (j : ℕ) → n ≤ j → j < 8 → get_or (set flags k false) j false ≡ false
reset_absent n k flags g j p l = set_cases (λ (b : Bool). b ≡ false) flags k j false false (λ _. refl) (g j p l)

closed_keeps : (n : ℕ) (x : Command) (b : Block) (k : LaneNo) → k.0 < n → BlockSound n b → BlockSound n (closed_block x b k)
closed_keeps n ReadShared b k h g = record { absent = set_absent n k.0 b.present h g.absent }
closed_keeps n ReadExclusive b k h g = record { absent = set_absent n k.0 nobody h (λ j _ l. nobody_absent j l) }
closed_keeps n Exclude b k h g = record { absent = set_absent n k.0 nobody h (λ j _ l. nobody_absent j l) }

-- close
pub close_keeps : (h n c m limit : ℕ) (v : Service) (l : Lane) (b : Block) (x : Control) → v.lane.0 < n → v.block.0 < m →
    LaneFit h c m l → BlockSound n b → ControlSound n m limit x → MoveFit h n c m limit (close v l b x)
unfolding close
close_keeps h n c m limit v l b x p q f g y =
    record {
      lane = f;
      block = closed_keeps n v.command b v.lane p g;
      control = y;
      message = by_cond (λ (r : DownMessage). r.block.0 < m) v.bare _ _ q q;
    }

-- an order goes to no lane that there is not, and not to k itself
pub ordered_absent : (n : ℕ) (b : Block) (k : LaneNo) (x : Command) → BlockSound n b → (j : ℕ) → n ≤ j → j < 8 → goes_to (ordered b k x) j ≡ false
unfolding ordered
ordered_absent n b k x g j p l =
    by_cond (λ (r : List Bool). get_or r j false ≡ false) (sends_of x b.modified) _ _ (reset_absent n k.0 b.present g.absent j p l) (nobody_absent j l)

ordered_self : (b : Block) (k : LaneNo) (x : Command) → k.0 < 8 → goes_to (ordered b k x) k.0 ≡ false
unfolding ordered
ordered_self b k x l =
    by_cond (λ (r : List Bool). get_or r k.0 false ≡ false) (sends_of x b.modified) _ _
    (set_here (λ (r : Bool). r ≡ false) b.present k.0 false false refl refl)
    (nobody_absent k.0 l)

-- .. so they all go to lanes
pub ordered_count : (n : ℕ) (b : Block) (k : LaneNo) (x : Command) → n ≤ 8 → BlockSound n b → count_of (ordered b k x) ≡ count_to (goes_to (ordered b k x)) n
unfolding count_of
ordered_count n b k x h g = count_past (goes_to (ordered b k x)) n 8 h (ordered_absent n b k x g)

-- .. and are fewer than these
pub ordered_fewer : (n : ℕ) (b : Block) (k : LaneNo) (x : Command) → n ≤ 8 → k.0 < n → BlockSound n b → count_of (ordered b k x) < n
ordered_fewer n b k x h l g =
    let e = ordered_count n b k x h g in
    let d = count_less (goes_to (ordered b k x)) n k.0 l (ordered_self b k x (omega arith)) in
    omega arith

-- memory's part of serve
pub serve_move_keeps : (h n c m limit : ℕ) (k : LaneNo) (o : Operation) (l : Lane) (b : Block) (x : Control) → n ≤ 8 → k.0 < n → (block_of o.word).0 < m →
    busy_for limit x (block_of o.word) ≡ false → LaneFit h c m l → BlockSound n b → ControlSound n m limit x → MoveFit h n c m limit (serve_move k o l b x)
serve_move_keeps h n c m limit k o l b x p q r a f g y =
    let t = with_served h c m l f o r in
    let z = ordered_fewer n b k o.command p q g in
    let e = not_busy_for limit x (block_of o.word) a in
    serve_move_rule (MoveFit h n c m limit) k o l b x
    (λ _. close_keeps h n c m limit (service_for k o b (count_of (ordered b k o.command))) (with_waiting (Served o) l) b x q r t g y)
    (λ _. record {
      lane = t;
      block = g;
      control = opened_sound n m limit (service_for k o b (count_of (ordered b k o.command))) x y (record { lane = q; block = r; awaited = z }) e.0 e.1;
      message = r;
    })

pub serve_fit : (h : ℕ) (s : Store) (k : LaneNo) → Fit h s → Fit h (serve_of s k).store
serve_fit h s k g =
    serve_rule (λ (r : Outcome). Fit h r.store) s k (λ _. g)
    (λ o r.
    let f = lane_fit h s g k.0 r.lane in
    let b = f.sound.unserved o r.unserved in
    commit_move_keeps h s k (block_of o.word) _ g
    (serve_move_keeps h s.shape.n s.shape.c s.shape.m s.shape.limit k o (lane_at s k.0) (block_at s (block_of o.word).0) s.control g.sound.n_high r.lane b r.free f
    (g.sound.block (block_of o.word).0 b) g.sound.control)
    (serve_move_waits k o (lane_at s k.0) (block_at s (block_of o.word).0) s.control r.unserved))
