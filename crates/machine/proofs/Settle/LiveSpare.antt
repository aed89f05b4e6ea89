-- The places past the n lanes stay as an opening leaves them: with empty queues. A call on such a lane is refused, and no message
-- goes to one. Assumes nothing.
use Prim.Native.Nat.{ℕ, zero, suc, ◌<◌, ◌≤◌}
use mathlib.Core.Path.{◌≡◌, refl, sym, ap, ◌∙◌}
use mathlib.Core.Bool.{Bool, false}
use mathlib.Core.List.{List}
use lib.ListN.{get_or, set}
use lib.Seq.{get_or-set_other}
use native.Mathlib.Omega.{arith}
use Rattle.words.specs.declared.LaneNo.{LaneNo}
use Rattle.words.specs.declared.BlockNo.{BlockNo}
use Rattle.words.specs.declared.WordNo.{WordNo}
use Rattle.words.specs.declared.Op.{Op}
use Rattle.words.specs.declared.Shape.{Shape}
use Rattle.words.specs.Units.{block_of, limited}
use Rattle.words.specs.Folds.{up_to}
use Rattle.words.proofs.Folds.{by_cond}
use Rattle.queues.specs.Messages.{ReturnMessage}
use Rattle.queues.specs.Messages.{DownMessage}
use Rattle.queues.specs.Queues.{capacity, head_return}
use Rattle.lanes.specs.declared.Lane.{Lane}
use Rattle.lanes.specs.declared.Operation.{Operation}
use Rattle.lanes.specs.UseOrder.{Insertion}
use Rattle.store.specs.declared.Store.{Store}
use Rattle.store.specs.declared.Block.{Block}
use Rattle.store.specs.declared.Control.{Control}
use Rattle.store.specs.declared.Outcome.{Outcome}
use Rattle.store.specs.Opening.{bad_shape, bad_limit, blank_lane, fresh_of, open_of}
use Rattle.store.specs.Stores.{no_lane, lane_at, block_at}
use Rattle.store.specs.LaneSets.{only, goes_to}
use Rattle.machine.specs.Machine.Parts.{LaneStep}
use Rattle.machine.specs.Machine.Parts.{Move}
use Rattle.machine.specs.Machine.Change.{commit_lane, post_to, post_all, commit_move, moved_store}
use Rattle.machine.specs.Machine.Begin.{begin_of}
use Rattle.machine.specs.Machine.Serve.{close, serve_move, serve_of}
use Rattle.machine.specs.Machine.Return.{return_move, return_of}
use Rattle.machine.specs.Machine.Deliver.{deliver_of}
use Rattle.machine.specs.Machine.Settle.{settle_step, bound_of, Progress, advance, repeat_step, Settlement, settle_of, lane}
use Rattle.machine.specs.Machine.Calls.{Call, Begin, Serve, Return, Deliver, Settle, call_of}
use Rattle.machine.proofs.Laws.Tests.{on}
use Rattle.machine.proofs.Bounds.KeepsLane.{clash}
use Rattle.machine.proofs.Bounds.Sound.{BlockSound, ControlSound, service_sound, sound}
use Rattle.machine.proofs.Bounds.KeepsServe.{ordered_absent}
use Rattle.machine.proofs.Protocol.Directories.{nobody_none}
use Rattle.machine.proofs.Projection.Project.{}
use Rattle.machine.proofs.Store.ConsistentOpen.{each_lane}
use Rattle.machine.proofs.Store.ServeByte.{only_other}
use Rattle.machine.proofs.Settle.FallsSettle.{start_at, settle_rule}
use Rattle.machine.proofs.Rules.Rules.{lane_rule, move_rule, begin_rule, serve_rule, return_rule, deliver_rule}
use Rattle.machine.proofs.Rules.RulesSettle.{step_rule, repeat_rule}
use Rattle.machine.proofs.Rules.RulesMemory.{return_move_rule, serve_move_rule}

-- a lane that has no messages
pub record Empty (l : Lane) : Type 0 where
  pub returns : l.returns.len ≡ 0
  pub downs : l.downs.len ≡ 0

-- the places past the lanes have none
abbrev pub Spare : Store → Type 0
Spare s = (j : ℕ) → s.shape.n ≤ j → Empty (lane_at s j)

-- an opening
blank_empty : Empty blank_lane
unfolding blank_lane
blank_empty = record { returns = refl; downs = refl }

fresh_spare : (shape : Shape) → Spare (fresh_of shape)
fresh_spare shape j _ = each_lane Empty shape blank_empty (record { returns = refl; downs = refl }) j

pub open_spare : (shape : Shape) → Spare (open_of shape).store
unfolding open_of
open_spare shape =
    by_cond (λ (r : Outcome). Spare r.store) (bad_shape shape) _ _ (fresh_spare (limited 0 0 0 0))
    (by_cond (λ (r : Outcome). Spare r.store) (bad_limit shape) _ _ (fresh_spare (limited 0 0 0 0)) (fresh_spare shape))

-- a lane put back
set_spare : (n : ℕ) (ls : List Lane) (k : ℕ) (l : Lane) → k < n → ((j : ℕ) → n ≤ j → Empty (get_or ls j no_lane)) → (j : ℕ) → n ≤ j → Empty (get_or (set ls k l) j no_lane)
set_spare n ls k l h e j g = rw (get_or-set_other ls k j l no_lane (λ q. omega arith)) (e j g)

lane_spare : (s : Store) (k : LaneNo) (r : LaneStep) → k.0 < s.shape.n → Spare s → Spare (commit_lane s k r).store
lane_spare s k r h e = lane_rule (λ (x : Outcome). Spare x.store) s k r (λ _ _. e) (λ _. set_spare s.shape.n s.lanes k.0 r.lane h e)

-- a message leaves the lanes that it does not go to as they were
post_skip : (to : List Bool) (x : DownMessage) (j t : ℕ) (ls : List Lane) → (j ≡ t → goes_to to t ≡ false) → get_or (post_to capacity to x t ls) j no_lane ≡ get_or ls j no_lane
unfolding post_to
post_skip to x j t ls e = on (goes_to to t) (λ q. rw q (get_or-set_other ls t j _ no_lane (λ z. clash (cc (e z))))) (λ q. rw q)

post_skips : (to : List Bool) (x : DownMessage) (j t : ℕ) (ls : List Lane) → (j < t → goes_to to j ≡ false) → get_or (up_to (post_to capacity to x) t ls) j no_lane ≡ get_or ls j no_lane
unfolding up_to
post_skips to x j zero ls e = refl
post_skips to x j (suc t) ls e =
    post_skip to x j t (up_to (post_to capacity to x) t ls) (λ z. ap (goes_to to) (sym z) ∙ e (omega arith)) ∙ post_skips to x j t ls (λ h. e (omega arith))

-- memory's part of a call, whose message goes to lanes only
move_spare : (s : Store) (k : LaneNo) (a : BlockNo) (v : Move) → k.0 < s.shape.n → ((j : ℕ) → s.shape.n ≤ j → j < 8 → goes_to v.to j ≡ false) → Spare s →
    Spare (commit_move s k a v).store
unfolding post_all
move_spare s k a v h to e = move_rule (λ (r : Outcome). Spare r.store) s k a v (λ _. e) (λ _ _. moved)
  where
    moved : Spare (moved_store s k a v)
    moved j g = rw (post_skips v.to v.message j 8 (set s.lanes k.0 v.lane) (to j g)) (set_spare s.shape.n s.lanes k.0 v.lane h e j g)

-- one lane alone
only_spare : (n : ℕ) (k : LaneNo) → k.0 < n → (j : ℕ) → n ≤ j → goes_to (only k) j ≡ false
only_spare n k h j g = only_other k j (λ q. omega arith)

-- serve
serve_to : (n : ℕ) (k : LaneNo) (o : Operation) (l : Lane) (b : Block) (x : Control) → k.0 < n → BlockSound n b → (j : ℕ) → n ≤ j → j < 8 →
    goes_to (serve_move k o l b x).to j ≡ false
unfolding close
serve_to n k o l b x h g j p q =
    serve_move_rule (λ (v : Move). goes_to v.to j ≡ false) k o l b x (λ _. only_spare n k h j p) (λ _. ordered_absent n b k o.command g j p q)

serve_spare : (s : Store) (k : LaneNo) → Spare s → Spare (serve_of s k).store
serve_spare s k e =
    serve_rule (λ (r : Outcome). Spare r.store) s k (λ _. e)
    (λ o r.
    let a = sound s r.sound in
    move_spare s k (block_of o.word) _ r.lane
    (serve_to s.shape.n k o (lane_at s k.0) (block_at s (block_of o.word).0) s.control r.lane (a.block (block_of o.word).0 ((a.lane k.0 r.lane).unserved o r.unserved))) e)

-- return
return_to : (n m limit : ℕ) (k : LaneNo) (x : ReturnMessage) (l : Lane) (b : Block) (y : Control) → ControlSound n m limit y → (j : ℕ) → n ≤ j → goes_to (return_move k x l b y).to j ≡ false
unfolding close
return_to n m limit k x l b y g j p =
    return_move_rule (λ (v : Move). goes_to v.to j ≡ false) k x l b y (λ _. nobody_none j) (nobody_none j) (λ _ v w _. only_spare n v.lane (service_sound n m limit y v.block v g w.at).lane j p)
    (λ _ v _ _. nobody_none j)

return_spare : (s : Store) (k : LaneNo) → Spare s → Spare (return_of s k).store
return_spare s k e =
    return_rule (λ (r : Outcome). Spare r.store) s k (λ _. e)
    (λ r.
    let x = head_return (lane_at s k.0).returns in
    move_spare s k x.block _ r.lane
    (λ j p _. return_to s.shape.n s.shape.m s.shape.limit k x (lane_at s k.0) (block_at s x.block.0) s.control (sound s r.sound).control j p) e)

deliver_spare : (ins : Insertion) (s : Store) (k : LaneNo) → Spare s → Spare (deliver_of ins s k).store
deliver_spare ins s k e = deliver_rule ins (λ (r : Outcome). Spare r.store) s k (λ _. e) (λ _ h. lane_spare s k _ h e)

begin_spare : (s : Store) (k : LaneNo) (op : Op) (w : WordNo) → Spare s → Spare (begin_of s k op w).store
begin_spare s k op w e = begin_rule (λ (r : Outcome). Spare r.store) s k op w (λ _. e) (λ r. lane_spare s k _ r.lane e)

-- settle
pub step_spare : (ins : Insertion) (s : Store) → Spare s → Spare (settle_step ins s).store
step_spare ins s e =
    step_rule ins (λ (r : Outcome). Spare r.store) s (λ k _ _. deliver_spare ins s (lane k) e) (λ _ k _ _. return_spare s (lane k) e) (λ _ _ k _ _. serve_spare s (lane k) e)
    (λ _ _ _. e)

repeat_spare : (ins : Insertion) (n : ℕ) (p : Progress) → Spare p.store → Spare (repeat_step ins n p).store
unfolding advance
repeat_spare ins n p e = repeat_rule ins (λ (r : Progress). Spare r.store) (λ q _. step_spare ins q.store) n p e

settle_spare : (ins : Insertion) (s : Store) → Spare s → Spare (settle_of ins s).store
settle_spare ins s e = settle_rule ins (λ (r : Settlement). Spare r.store) s (λ _. e) (λ _ _ _. repeat_spare ins (suc (bound_of s)) (start_at s) e)

-- every call
pub call_spare : (ins : Insertion) (s : Store) (x : Call) → Spare s → Spare (call_of ins s x).store
unfolding call_of
call_spare ins s (Begin k op w) e = begin_spare s k op w e
call_spare ins s (Serve k) e = serve_spare s k e
call_spare ins s (Return k) e = return_spare s k e
call_spare ins s (Deliver k) e = deliver_spare ins s k e
call_spare ins s Settle e = settle_spare ins s e
