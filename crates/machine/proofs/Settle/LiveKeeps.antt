-- An opening gives a live store, and every call keeps a consistent one live. Assumes nothing.
use Prim.Native.Nat.{ℕ, suc, ◌<◌, ◌≤◌}
use mathlib.Core.Path.{◌≡◌, refl, sym, ◌∙◌}
use mathlib.Core.List.{List}
use native.Mathlib.Omega.{arith}
use Rattle.words.specs.declared.LaneNo.{LaneNo}
use Rattle.words.specs.declared.WordNo.{WordNo}
use Rattle.words.specs.declared.BlockNo.{BlockNo}
use Rattle.words.specs.declared.Op.{Op}
use Rattle.words.specs.declared.Shape.{Shape}
use Rattle.lanes.specs.declared.Lane.{Lane}
use Rattle.lanes.specs.UseOrder.{Insertion, place_at}
use Rattle.answers.specs.declared.Answer.TheVariants.{Opened}
use Rattle.store.specs.declared.Store.{Store}
use Rattle.store.specs.declared.Outcome.{Outcome}
use Rattle.store.specs.Opening.{blank_lane, fresh_of, open_of}
use Rattle.store.specs.Stores.{no_lane, lane_at}
use Rattle.machine.specs.Machine.Parts.{LaneStep}
use Rattle.machine.specs.Machine.Change.{commit_lane}
use Rattle.machine.specs.Machine.Begin.{begin_of}
use Rattle.machine.specs.Machine.Deliver.{deliver_of}
use Rattle.machine.specs.Machine.Settle.{settle_step, bound_of, Progress, advance, repeat_step, Settlement, settle_of, lane}
use Rattle.machine.specs.Machine.Calls.{Call, Begin, Serve, Return, Deliver, Settle, call_of}
use Rattle.machine.proofs.Laws.Sets.{set_cases}
use Rattle.machine.proofs.Bounds.KeepsLane.{clash}
use Rattle.machine.proofs.Bounds.Sound.{sound}
use Rattle.machine.proofs.Settle.FallsSettle.{start_at, settle_rule}
use Rattle.machine.proofs.Protocol.BlockState.{seen, block_no}
use Rattle.machine.proofs.Protocol.Invariant.{owed}
use Rattle.machine.proofs.Projection.SeenBegin.{begin_case}
use Rattle.machine.proofs.Projection.SeenDeliver.{deliver_case}
use Rattle.machine.proofs.Store.Consistent.{Consistent}
use Rattle.machine.proofs.Store.ConsistentLane.{lane_sized}
use Rattle.machine.proofs.Store.ConsistentOpen.{each_lane, blank_service, opened_fresh}
use Rattle.machine.proofs.Store.ConsistentSettle.{serve_leads, return_leads, deliver_leads}
use Rattle.machine.proofs.Settle.Live.{LaneLive, Live}
use Rattle.machine.proofs.Settle.LiveLane.{begin_lane_live, deliver_lane_live}
use Rattle.machine.proofs.Settle.LiveOwed.{OwesLess, begin_owed, deliver_owed}
use Rattle.machine.proofs.Settle.LiveServe.{serve_live}
use Rattle.machine.proofs.Settle.LiveReturn.{return_live}
use Rattle.machine.proofs.Rules.Rules.{lane_rule, begin_rule, deliver_rule}
use Rattle.machine.proofs.Rules.RulesSettle.{step_rule, repeat_rule}
use Rattle.std.specs.Prelude.{Some, None, Ok}

-- nothing is under way in the lanes of an opening
blank_live : (c : ℕ) → LaneLive c blank_lane
unfolding blank_lane
blank_live c = record { ejects = omega arith; room = refl }

blank_owed : (c : ℕ) (a : BlockNo) → owed (seen c a blank_lane) ≤ 1
unfolding blank_lane seen owed
blank_owed c a = omega arith

past_owed : (c : ℕ) (a : BlockNo) → owed (seen c a no_lane) ≤ 1
unfolding seen owed
past_owed c a = omega arith

fresh_live : (shape : Shape) → Live (fresh_of shape)
unfolding fresh_of
fresh_live shape =
    record {
      lane = each_lane (LaneLive shape.c) shape (blank_live shape.c) (record { ejects = omega arith; room = refl });
      one = λ a _. each_lane (λ (l : Lane). owed (seen shape.c (block_no a) l) ≤ 1) shape (blank_owed shape.c (block_no a)) (past_owed shape.c (block_no a));
      awaits = λ a v e. let q : None ≡ Some v = sym (blank_service a) ∙ e in clash (cc);
    }

pub open_live : (shape : Shape) → (open_of shape).answer ≡ Ok Opened → Live (open_of shape).store
open_live shape e = rw (opened_fresh shape e).2 (fresh_live shape)

-- a live lane that owes no more, put back
lane_commits : (s : Store) (k : LaneNo) (r : LaneStep) → Live s → LaneLive s.shape.c r.lane → OwesLess s.shape.c (lane_at s k.0) r.lane → Live (commit_lane s k r).store
lane_commits s k r live h Less =
    lane_rule (λ (x : Outcome). Live x.store) s k r (λ _ _. live)
    (λ _. record {
      lane = λ j. set_cases (LaneLive s.shape.c) s.lanes k.0 j r.lane no_lane (λ _. h) (live.lane j);
      one = λ a b j. set_cases (λ (l : Lane). owed (seen s.shape.c (block_no a) l) ≤ 1) s.lanes k.0 j r.lane no_lane
          (λ _. let p = Less (block_no a) in let q = live.one a b k.0 in omega arith) (live.one a b j);
      awaits = live.awaits;
    })

module _ (s : Store) (f : List ℕ) (i : Consistent s f) (k : LaneNo) (h : k.0 < s.shape.n) where
  -- the oldest line is one of the lane's
  oldest_below : (place_at (lane_at s k.0).order 0).0 < s.shape.c
  oldest_below = ((sound s i.sound).lane k.0 h).order.named 0 (sound s i.sound).c_low

begin_live : (s : Store) (f : List ℕ) (k : LaneNo) (op : Op) (w : WordNo) → Consistent s f → Live s → Live (begin_of s k op w).store
begin_live s f k op w i live =
    begin_rule (λ (r : Outcome). Live r.store) s k op w (λ _. live)
    (λ r.
    let h = r.lane in
    let z = lane_sized s f i k.0 h in
    let c = (sound s i.sound).c_high in
    let o = oldest_below s f i k h in
    lane_commits s k _ live (begin_lane_live s.shape.c op w (lane_at s k.0) z c o r.admits (live.lane k.0))
    (begin_owed s.shape.c op w (lane_at s k.0) _ (begin_case s.shape.c op w (lane_at s k.0) z c (i.unique k.0) o r.admits)))

deliver_live : (ins : Insertion) (s : Store) (f : List ℕ) (k : LaneNo) → Consistent s f → Live s → Live (deliver_of ins s k).store
deliver_live ins s f k i live =
    deliver_rule ins (λ (r : Outcome). Live r.store) s k (λ _. live)
    (λ _ h.
    let z = lane_sized s f i k.0 h in
    lane_commits s k _ live (deliver_lane_live ins s.shape.c (lane_at s k.0) z (live.lane k.0))
    (deliver_owed s.shape.c (lane_at s k.0) _
    (deliver_case ins s.shape.c (lane_at s k.0) z (sound s i.sound).c_high (i.unique k.0) ((sound s i.sound).lane k.0 h).downs.short)))

-- a consistent and live store, with flat memory
abbrev Running : Store → Type 0
Running s = (f : List ℕ) × Consistent s f × Live s

-- settle is a list of deliver, return and serve
step_runs : (ins : Insertion) (s : Store) → Running s → Running (settle_step ins s).store
step_runs ins s (f, i, live) =
    step_rule ins (λ (r : Outcome). Running r.store) s (λ k _ _. let r = deliver_leads ins s f (lane k) i in (r.0, r.1, deliver_live ins s f (lane k) i live))
    (λ _ k _ _. let r = return_leads s f (lane k) i in (r.0, r.1, return_live s f (lane k) i live))
    (λ _ _ k _ _. let r = serve_leads s f (lane k) i in (r.0, r.1, serve_live s f (lane k) i live)) (λ _ _ _. (f, i, live))

-- .. as often as it repeats
repeat_runs : (ins : Insertion) (n : ℕ) (p : Progress) → Running p.store → Running (repeat_step ins n p).store
unfolding advance
repeat_runs ins n p r = repeat_rule ins (λ (q : Progress). Running q.store) (λ q _. step_runs ins q.store) n p r

pub settle_step_live : (ins : Insertion) (s : Store) (f : List ℕ) → Consistent s f → Live s → Live (settle_step ins s).store
settle_step_live ins s f i live = (step_runs ins s (f, i, live)).2

settle_live : (ins : Insertion) (s : Store) (f : List ℕ) → Consistent s f → Live s → Live (settle_of ins s).store
settle_live ins s f i live =
    settle_rule ins (λ (r : Settlement). Live r.store) s (λ _. live) (λ _ _ _. (repeat_runs ins (suc (bound_of s)) (start_at s) (f, i, live)).2)

pub call_live : (ins : Insertion) (s : Store) (f : List ℕ) (x : Call) → Consistent s f → Live s → Live (call_of ins s x).store
unfolding call_of
call_live ins s f (Begin k op w) i live = begin_live s f k op w i live
call_live ins s f (Serve k) i live = serve_live s f k i live
call_live ins s f (Return k) i live = return_live s f k i live
call_live ins s f (Deliver k) i live = deliver_live ins s f k i live
call_live ins s f Settle i live = settle_live ins s f i live
