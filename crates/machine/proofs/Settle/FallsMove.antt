-- What memory's part of serve and of return makes of what the lane, the messages sent and the service add, and of the orders queued. Assumes nothing.
use Prim.Native.Nat.{ℕ, ◌+◌, ◌*◌, ◌<◌, ◌≤◌}
use mathlib.Core.Path.{◌≡◌, refl, sym, ap, ◌∙◌}
use mathlib.Core.Bool.{true, false, true≢false}
use lib.ListN.{length, get_or-replicate}
use lib.Seq.{get_or-set_same, get_or-set_other}
use native.Mathlib.Omega.{arith}
use Rattle.words.specs.declared.LaneNo.{LaneNo}
use Rattle.words.specs.Units.{block_of}
use Rattle.words.specs.Folds.{count_to}
use Rattle.words.proofs.Folds.{by_cond}
use Rattle.queues.specs.Messages.{ReturnMessage}
use Rattle.queues.specs.Messages.{DownMessage}
use Rattle.queues.specs.Queues.{empty_at}
use Rattle.lanes.specs.declared.Lane.{Lane}
use Rattle.lanes.specs.declared.Operation.{Operation}
use Rattle.lanes.specs.declared.Command.{Command}
use Rattle.lanes.specs.declared.Command.TheVariants.{ReadShared, ReadExclusive, Exclude}
use Rattle.lanes.specs.declared.Waiting.TheVariants.{Unserved, Served}
use Rattle.lanes.specs.Lanes.{with_waiting}
use Rattle.answers.specs.Refusals.{refused_of}
use Rattle.store.specs.declared.Block.{Block}
use Rattle.store.specs.declared.Service.{Service}
use Rattle.store.specs.declared.Control.{Control}
use Rattle.store.specs.Control.{busy_for, lowered, with_updated, without_service}
use Rattle.store.proofs.Services.{vacant, not_busy_for, opened_count, updated_count, closed_count}
use Rattle.store.specs.LaneSets.{nobody, only, goes_to, count_of}
use Rattle.machine.specs.Machine.Parts.{Move}
use Rattle.machine.specs.Machine.Serve.{order_of, ordered, grant_of, close, service_for, serve_move}
use Rattle.machine.specs.Machine.Return.{send_nothing, return_move}
use Rattle.machine.proofs.Laws.Sums.{count_zero, count_one}
use Rattle.machine.proofs.Bounds.Sound.{BlockSound, ControlSound, service_sound}
use Rattle.machine.proofs.Bounds.KeepsServe.{ordered_count}
use Rattle.machine.proofs.Rules.RulesMemory.{return_move_rule, serve_move_rule}
use Rattle.machine.specs.Machine.Settle.{downs_of}
use Rattle.machine.proofs.Settle.FallsLane.{Rates, tallied, orders_only, price, weight, orders_weight, served_weight, returned_weight}
use Rattle.machine.proofs.Settle.FallsStore.{service, moved, Weighs}

-- nobody is no lane, and one lane alone is one
nobody_none : (n : ℕ) → n ≤ 8 → count_to (goes_to nobody) n ≡ 0
nobody_none n h = count_zero (goes_to nobody) n (λ j l. get_or-replicate 8 j false false (omega arith))

only_one : (n : ℕ) (k : LaneNo) → n ≤ 8 → k.0 < n → count_to (goes_to (only k)) n ≡ 1
only_one n k h i =
    count_one (goes_to (only k)) n k.0 i (get_or-set_same nobody k.0 true false (omega arith))
    (λ j l m. get_or-set_other nobody k.0 j true false m ∙ get_or-replicate 8 j false false (omega arith))

-- a grant is no order; what serve sends is
grant_price : (ρ : Rates) (b : Block) (v : Service) → price ρ (grant_of b v).kind ≡ ρ.grant
grant_price ρ b v = by_cond (λ (x : DownMessage). price ρ x.kind ≡ ρ.grant) v.bare _ _ refl refl

order_price : (ρ : Rates) (x : Command) → price ρ (order_of x) ≡ ρ.order
order_price ρ ReadShared = refl
order_price ρ ReadExclusive = refl
order_price ρ Exclude = refl

-- what memory's part weighs, unless it is refused
abbrev Weighing : ℕ → ℕ → ℕ → ℕ → Lane → Control → Move → Type 0
Weighing n u served orders l x v = refused_of v.answer ≡ false → Weighs n u served orders l x v

-- the lane keeps its orders: memory's part leaves its own lane's down queue as it is
keeps_orders : (t l : Lane) → t.downs ≡ l.downs → weight orders_only t ≡ weight orders_only l
keeps_orders t l e = orders_weight t ∙ (ap (downs_of true) e ∙ sym (orders_weight l))

module _ (n : ℕ) (h : n ≤ 8) where
  -- close: the grant is one message
  close_moved : (ρ : Rates) (v : Service) (t : Lane) (b : Block) (y : Control) → v.lane.0 < n → moved ρ n (close v t b y) ≡ weight ρ t + ρ.grant
  unfolding close
  close_moved ρ v t b y i = let c = only_one n v.lane h i in rw (grant_price ρ b v, c) (omega arith)

  -- nothing is sent
  nothing_moved : (ρ : Rates) (t : Lane) (b : Block) (y : Control) → moved ρ n (send_nothing t b y) ≡ weight ρ t
  nothing_moved ρ t b y = let c = nobody_none n h in rw c (omega arith)

module _ (n u served : ℕ) (h : n ≤ 8) (l : Lane) (x : Control) where
  close_weighs : (v : Service) (t : Lane) (b : Block) (y : Control) → v.lane.0 < n → t.downs ≡ l.downs →
      weight (tallied u) t + 1 + service y + 1 + u * served ≡ weight (tallied u) l + service x + 2 * served → Weighs n u served 0 l x (close v t b y)
  unfolding close
  close_weighs v t b y i d p =
      let a = close_moved n h (tallied u) v t b y i in
      let c = close_moved n h orders_only v t b y i in
      let e = keeps_orders t l d in
      record { exact = omega arith; queued = omega arith }

  send_nothing_weighs : (t : Lane) (b : Block) (y : Control) → t.downs ≡ l.downs →
      weight (tallied u) t + service y + 1 + u * served ≡ weight (tallied u) l + service x + 2 * served → Weighs n u served 0 l x (send_nothing t b y)
  send_nothing_weighs t b y d p =
      let a = nothing_moved n h (tallied u) t b y in
      let c = nothing_moved n h orders_only t b y in
      let e = keeps_orders t l d in
      record { exact = omega arith; queued = omega arith }

-- memory's part of serve
pub serve_move_weighs : (n u limit : ℕ) (k : LaneNo) (o : Operation) (l : Lane) (b : Block) (x : Control) → n ≤ 8 → limit ≤ 8 → length x.slots ≡ 8 → k.0 < n → BlockSound n b →
    l.waiting ≡ Unserved o → busy_for limit x (block_of o.word) ≡ false → Weighing n u 1 (count_of (ordered b k o.command)) l x (serve_move k o l b x)
serve_move_weighs n u limit k o l b x h w s i g e f _ =
    let a = served_weight (tallied u) l o e in
    let c = ordered_count n b k o.command h g in
    let p = (not_busy_for limit x (block_of o.word) f).1 in
    let d = opened_count x (service_for k o b (count_of (ordered b k o.command))) s (vacant x (omega arith)) in
    let r = keeps_orders (with_waiting (Served o) l) l refl in
    serve_move_rule (Weighs n u 1 (count_of (ordered b k o.command)) l x) k o l b x
    (λ z. rw z (close_weighs n u 1 h l x _ (with_waiting (Served o) l) b x i refl (omega arith)))
    (λ _. record { exact = rw (order_price (tallied u) o.command) (omega arith); queued = rw (order_price orders_only o.command) (omega arith) })

-- memory's part of return
pub return_move_weighs : (n m limit u : ℕ) (k : LaneNo) (x : ReturnMessage) (l : Lane) (b : Block) (y : Control) → n ≤ 8 → ControlSound n m limit y →
    empty_at l.returns.len ≡ false → Weighing n u 0 0 l y (return_move k x l b y)
return_move_weighs n m limit u k x l b y h g e =
    let a = returned_weight (tallied u) l e in
    return_move_rule (Weighing n u 0 0 l y) k x l b y
    (λ _ _. send_nothing_weighs n u 0 h l y _ _ y refl (omega arith))
    (λ d. absurd (true≢false d))
    (λ _ v q _ _. let s = closed_count y v v q.at in
    close_weighs n u 0 h l y v _ _ (without_service v y) (service_sound n m limit y v.block v g q.at).lane refl (omega arith))
    (λ _ v q _ _. let s = updated_count y (lowered v) v q.at in
    send_nothing_weighs n u 0 h l y _ _ (with_updated (lowered v) y) refl (omega arith))
