-- Begin, serve, return, deliver and a step of settle on the same stores. Assumes nothing.
use Prim.Native.Nat.{ℕ, ◌*◌, ◌<◌}
use native.Mathlib.Omega.{arith}
use mathlib.Core.Path.{◌≡◌, refl, sym, ap, ◌∙◌, subst}
use mathlib.Core.Bool.{false, cond}
use mathlib.Core.List.{List}
use lib.Dec.{leb, ltb, eqb}
use lib.ListN.{get_or}
use borrow.Author.Tests.{leb-false, eqb-false}
use Rattle.words.specs.declared.Shape.{Shape}
use Rattle.words.specs.declared.LaneNo.{LaneNo}
use Rattle.words.specs.declared.BlockNo.{BlockNo}
use Rattle.words.specs.declared.WordNo.{WordNo}
use Rattle.words.specs.declared.Op.{Op}
use Rattle.words.specs.Units.{block_of}
use Rattle.words.specs.Folds.{lowest_to}
use Rattle.words.proofs.Folds.{skip, lowest_same}
use Rattle.queues.specs.Messages.{ReturnMessage}
use Rattle.queues.specs.Queues.{empty_at, after_take, no_return}
use Rattle.lanes.specs.declared.Lane.{Lane}
use Rattle.lanes.specs.declared.Operation.{Operation}
use Rattle.lanes.specs.declared.Waiting.{Waiting}
use Rattle.lanes.specs.declared.Waiting.TheVariants.{Idle, Unserved, Served}
use Rattle.lanes.specs.UseOrder.{Insertion}
use Rattle.lanes.specs.Lanes.{with_waiting, with_returns}
use Rattle.lanes.specs.Waits.{unserved_of}
use Rattle.answers.specs.declared.Refusal.TheVariants.{NoSuchLane, NoSuchWord, LaneBusy, PlacesExhausted, NothingPending, ControlBusy, ReturnsPending, Unexpected, Corrupt}
use Rattle.store.specs.declared.Store.{Store}
use Rattle.store.specs.declared.Block.{Block}
use Rattle.store.specs.declared.Service.{Service}
use Rattle.store.specs.declared.Control.{Control}
use Rattle.store.specs.declared.Outcome.{Outcome}
use Rattle.store.specs.Control.{lowered, counted_of, answer_of}
use Rattle.store.specs.LaneSets.{count_of}
use Rattle.store.specs.Stores.{no_lane, block_at}
use Rattle.machine.specs.Machine.Begun.{last_place, exhausted_of}
use Rattle.machine.specs.Machine.Corruption.{corrupt_of}
use Rattle.machine.specs.Machine.Change.{guarded, commit_move}
use Rattle.machine.specs.Machine.Begin.{admits_of, begin_of}
use Rattle.machine.specs.Machine.Serve.{ordered, service_for, close, ready_with, ready_of, serve_move, serve_ready, serve_of}
use Rattle.machine.specs.Machine.Return.{taken_by, is_answer, counted_move, return_move, return_of}
use Rattle.machine.specs.Machine.Deliver.{deliver_of}
use Rattle.machine.specs.Machine.Settle.{lane, settle_step}
use Rattle.machine.proofs.Laws.Tests.{on}
use Rattle.machine.proofs.Bounds.Sound.{BlockSound, Sound, sound}
use Rattle.machine_w5.specs.Control.{Free, Busy}
use Rattle.machine_w5.specs.Control as FormerControl
use Rattle.machine_w5.specs.Stores as Former
use Rattle.machine_w5.specs.Corruption as FormerCorruption
use Rattle.machine_w5.specs.Change as FormerChange
use Rattle.machine_w5.specs.Steps as FormerSteps
use Rattle.machine_w5.specs.Settle as FormerSettle
use Rattle.machine_w5.specs.Same.{SameLane, SameLanes, SameControl, Same}
use Rattle.machine_w5.proofs.Pairs.{both}
use Rattle.machine_w5.proofs.Queues.{take_same, at_same}
use Rattle.machine_w5.proofs.Lanes.{begin_same, deliver_same, admits_same}
use Rattle.machine_w5.proofs.Controls.{busy_for_same, service_same, open_same, update_same, close_same}
use Rattle.machine_w5.proofs.Corruption.{former_with, store_with, by_stores, each_lane, parts_same, begun_same, corrupt_same}
use Rattle.machine_w5.proofs.Inside.{serve_inside, return_inside}
use Rattle.machine_w5.proofs.Commits.{SameResult, SameMove, refuse_same, commit_lane_lem, commit_move_lem}
use Rattle.std.specs.Prelude.{Option, Some, None, Ok, Err, Result}
use Rattle.answers.specs.declared.Refusal.{Refusal}

-- 9, 10, 11
ready_same : (w : Waiting) (p l : Lane) (x : FormerControl.Control) (y : Control) → SameLane p l → SameControl x y → FormerSteps.ready_with w p x ≡ ready_with w l 1 y
ready_same Idle p l x y e f = refl
ready_same (Served o) p l x y e f = refl
ready_same (Unserved o) p l x y e f =
    let u = busy_for_same x y (block_of o.word) f in
    let v = e.returns.lens in
    λ i. cond (u i) (Err ControlBusy) (cond (ltb 0 (v i)) (Err ReturnsPending) (Ok o))

-- close: the control without the service is the same
closed_same : (v : Service) (p l : Lane) (b : Block) (x : FormerControl.Control) (y : Control) → SameLane p l → SameControl x y → SameMove (FormerSteps.close v p b x) (close v l b y)
unfolding FormerSteps.close close
closed_same v p l b x y e f = record { answer = refl; lane = e; block = refl; control = f; to = refl; message = refl }

-- memory takes a command, where no service is under way
serve_move_lem : (k : LaneNo) (o : Operation) (p l : Lane) (b : Block) (y : Control) → SameLane p l → SameControl Free y → SameMove (FormerSteps.serve_move k o p b Free) (serve_move k o l b y)
unfolding FormerSteps.serve_move serve_move
serve_move_lem k o p l b y e f =
    let to = ordered b k o.command in
    let v : Service = service_for k o b (count_of to) in
    let z : SameLane (with_waiting (Served o) p) (with_waiting (Served o) l) = record { lines = e.lines; order = e.order; waiting = refl; returns = e.returns; downs = e.downs } in
    both SameMove (eqb (count_of to) 0) (eqb (count_of to) 0) refl (λ _. closed_same v _ _ b Free y z f)
    (λ _. record { answer = refl; lane = z; block = refl; control = open_same v y f; to = refl; message = refl })

-- memory takes a message: l and b before it, u and c after it
counted_same : (q : Option Service) (p l : Lane) (b c : Block) (x : FormerControl.Control) (y : Control) (t u : Lane) → SameLane p l → SameLane t u → SameControl x y →
    ((v : Service) → q ≡ Some v → x ≡ Busy v) →
    SameMove (FormerSteps.counted_move (FormerControl.counted_of q) p b x t c) (counted_move (counted_of q) l b y u c)
counted_same None p l b c x y t u e f g own = record { answer = refl; lane = e; block = refl; control = g; to = refl; message = refl }
counted_same (Some v) p l b c x y t u e f g own =
    on (eqb v.awaited 0)
    (λ z. rw z (record { answer = refl; lane = e; block = refl; control = g; to = refl; message = refl }))
    (λ z. on (eqb v.awaited 1)
    (λ w. rw (z, w) (closed_same v t u c Free _ f (close_same v y held)))
    (λ w. rw (z, w) (record { answer = refl; lane = f; block = refl; control = update_same v (lowered v) y refl held; to = refl; message = refl })))
  where
    held : SameControl (Busy v) y
    held = subst (λ (r : FormerControl.Control). SameControl r y) (own v refl) g

-- the service that is looked up is the one under way
looked_up : (x : FormerControl.Control) (a : BlockNo) (v : Service) → FormerControl.service_of x a ≡ Some v → x ≡ Busy v
looked_up Free a v e = let z : ◌≡◌ {A = ℕ} 0 1 = cc in absurd (omega arith)
looked_up (Busy u) a v e =
    on (eqb u.block.0 a.0) (λ t. let z : Some u ≡ Some v = rw t at e in cc)
    (λ t. let y : None ≡ Some v = rw t at e in let z : ◌≡◌ {A = ℕ} 0 1 = cc in absurd (omega arith))

answered_same : (a : BlockNo) (p l : Lane) (b c : Block) (x : FormerControl.Control) (y : Control) (t u : Lane) → SameLane p l → SameLane t u → SameControl x y →
    SameMove (FormerSteps.counted_move (FormerControl.answer_of x a) p b x t c) (counted_move (answer_of y a) l b y u c)
answered_same a p l b c x y t u e f g =
    subst (λ (q : Option Service). SameMove (FormerSteps.counted_move (FormerControl.answer_of x a) p b x t c) (counted_move (counted_of q) l b y u c)) (service_same x y a g)
    (counted_same (FormerControl.service_of x a) p l b c x y t u e f g (λ v q. looked_up x a v q))

-- the head leaves the return queues
taken_same : (p l : Lane) → empty_at p.returns.len ≡ false → SameLane p l → SameLane (with_returns (after_take p.returns) p) (with_returns (after_take l.returns) l)
taken_same p l h e =
    let n : empty_at l.returns.len ≡ false = sym (ap empty_at e.returns.lens) ∙ h in
    rw (h, n) (record { lines = e.lines; order = e.order; waiting = e.waiting; returns = take_same _ _ _ _ e.returns (eqb-false _ _ h); downs = e.downs })

return_move_lem : (k : LaneNo) (m : ReturnMessage) (p l : Lane) (b : Block) (x : FormerControl.Control) (y : Control) → empty_at p.returns.len ≡ false → SameLane p l → SameControl x y →
    SameMove (FormerSteps.return_move k m p b x) (return_move k m l b y)
unfolding FormerSteps.return_move return_move
return_move_lem k m p l b x y h e f =
    let z = taken_same p l h e in
    both SameMove (is_answer m.kind) (is_answer m.kind) refl
    (λ _. answered_same m.block p l b (taken_by m.kind m.words k b) x y _ _ e z f)
    (λ _. record { answer = refl; lane = z; block = refl; control = f; to = refl; message = refl })

-- a command is taken only where no service is under way
ready_free : (w : Waiting) (p : Lane) (x : FormerControl.Control) (o : Operation) → FormerSteps.ready_with w p x ≡ Ok o → x ≡ Free
ready_free w p Free o e = refl
ready_free Idle p (Busy v) o e = let z : ◌≡◌ {A = ℕ} 0 1 = cc in absurd (omega arith)
ready_free (Served q) p (Busy v) o e = let z : ◌≡◌ {A = ℕ} 0 1 = cc in absurd (omega arith)
ready_free (Unserved q) p (Busy v) o e = let z : ◌≡◌ {A = ℕ} 0 1 = cc in absurd (omega arith)

-- .. and is that of an unserved operation
ready_unserved : (w : Waiting) (p : Lane) (x : FormerControl.Control) (o : Operation) → FormerSteps.ready_with w p x ≡ Ok o → w ≡ Unserved o
ready_unserved Idle p x o e = let z : ◌≡◌ {A = ℕ} 0 1 = cc in absurd (omega arith)
ready_unserved (Served q) p x o e = let z : ◌≡◌ {A = ℕ} 0 1 = cc in absurd (omega arith)
ready_unserved (Unserved q) p x o e =
    let a = skip (FormerControl.busy_of x) e (λ f. let z : ◌≡◌ {A = ℕ} 0 1 = cc in omega arith) in
    let b = skip (ltb 0 p.returns.len) a.1 (λ f. let z : ◌≡◌ {A = ℕ} 0 1 = cc in omega arith) in
    let c : Ok q ≡ Ok o = b.1 in
    cc

-- a call on equal lanes
at_lane : (f : LaneNo → Former.Outcome) (g : LaneNo → Outcome) → ((k : LaneNo) → SameResult (f k) (g k)) → (a b : ℕ) → a ≡ b → SameResult (f (lane a)) (g (lane b))
at_lane f g h a b e = subst (λ (k : ℕ). SameResult (f (lane a)) (g (lane k))) e (h (lane a))

module _ (shape : Shape) (x : FormerControl.Control) (y : Control) (done : ℕ) (ps ls : List Lane) (bs : List Block) (one : shape.limit ≡ 1) (ec : SameControl x y) (el : SameLanes shape.n ps ls) where
  abbrev t : Former.Store
  t = former_with shape x done ps bs

  abbrev s : Store
  s = store_with shape y done ls bs

  same : Same t s
  same = parts_same shape x y done ps ls bs one ec el

  -- 14, then 6
  guard_same : (k : LaneNo) (r : Former.Outcome) (q : Outcome) → (Sound s → k.0 < 8 → k.0 < shape.n → SameResult r q) → SameResult (FormerChange.guarded t k r) (guarded s k q)
  guard_same k r q h =
      both SameResult (FormerCorruption.corrupt_of t) (corrupt_of s) (corrupt_same shape x y done ps ls bs one ec el) (λ _. refuse_same t s Corrupt same)
      (λ good. both SameResult (leb shape.n k.0) (leb shape.n k.0) refl (λ _. refuse_same t s NoSuchLane same)
      (λ f.
      let g = sound s (sym (corrupt_same shape x y done ps ls bs one ec el) ∙ good) in
      let b = leb-false shape.n k.0 f in
      h g (let a = g.n_high in omega arith) b))

  begin_parts : (k : LaneNo) (op : Op) (w : WordNo) → SameResult (FormerSteps.begin_of t k op w) (begin_of s k op w)
  unfolding FormerSteps.begin_of begin_of
  begin_parts k op w = guard_same k _ _ (λ _ h b.
      both SameResult (leb (4 * shape.m) w.0) (leb (4 * shape.m) w.0) refl (λ _. refuse_same t s NoSuchWord same)
      (λ _. both SameResult (admits_of shape.c op w (get_or ps k.0 no_lane)) (admits_of shape.c op w (get_or ls k.0 no_lane)) (admits_same shape.c op w _ _ (el.lane k.0 h b))
      (λ _. both SameResult (FormerCorruption.exhausted_of t) (exhausted_of s) (ap (λ n. eqb n last_place) (begun_same shape x y done ps ls bs one ec el)) (λ _. refuse_same t s PlacesExhausted same)
      (λ _. commit_lane_lem shape x y done ps ls bs one ec el k _ _ h (begin_same shape.c op w _ _ (el.lane k.0 h b))))
      (λ _. refuse_same t s LaneBusy same)))

  deliver_parts : (ins : Insertion) (k : LaneNo) → SameResult (FormerSteps.deliver_of ins t k) (deliver_of ins s k)
  unfolding FormerSteps.deliver_of deliver_of
  deliver_parts ins k = guard_same k _ _ (λ _ h b. commit_lane_lem shape x y done ps ls bs one ec el k _ _ h (deliver_same ins shape.c _ _ (el.lane k.0 h b)))

  -- memory takes a message m, the head of both return queues
  taken : Sound s → (k : LaneNo) (p l : Lane) (m n : ReturnMessage) → m ≡ n → empty_at p.returns.len ≡ false → SameLane p l →
      SameResult (FormerChange.commit_move t k m.block (FormerSteps.return_move k m p (Former.block_at t m.block.0) x))
      (commit_move s k n.block (return_move k n l (block_at s n.block.0) y))
  taken g k p l m n q f e =
      subst
      (λ (z : ReturnMessage). SameResult (FormerChange.commit_move t k m.block (FormerSteps.return_move k m p (Former.block_at t m.block.0) x))
      (commit_move s k z.block (return_move k z l (block_at s z.block.0) y)))
      q (commit_move_lem shape x y done ps ls bs one ec el k _ _ _ (return_move_lem k m p l _ x y f e ec) (return_inside shape.n shape.m shape.limit k m l _ y g.control))

  return_parts : (k : LaneNo) → SameResult (FormerSteps.return_of t k) (return_of s k)
  unfolding FormerSteps.return_of return_of
  return_parts k = guard_same k _ _ (λ g h b.
      let e = el.lane k.0 h b in
      let p = get_or ps k.0 no_lane in
      let l = get_or ls k.0 no_lane in
      both SameResult (empty_at p.returns.len) (empty_at l.returns.len) (ap empty_at e.returns.lens) (λ _. refuse_same t s NothingPending same)
      (λ f.
      let n : p.returns.len ≡ 0 → ⊥ = eqb-false p.returns.len 0 f in
      taken g k p l _ _ (at_same _ _ _ _ no_return 0 e.returns (omega (arith, n))) f e))

  serve_go : (k : LaneNo) (o : Operation) (p l : Lane) → SameLane p l → x ≡ Free → k.0 < shape.n → BlockSound shape.n (block_at s (block_of o.word).0) →
      SameResult (FormerChange.commit_move t k (block_of o.word) (FormerSteps.serve_move k o p (Former.block_at t (block_of o.word).0) x))
      (commit_move s k (block_of o.word) (serve_move k o l (block_at s (block_of o.word).0) y))
  serve_go k o p l e f h g =
      let b = block_at s (block_of o.word).0 in
      commit_move_lem shape x y done ps ls bs one ec el k _ _ _
      (subst (λ (c : FormerControl.Control). SameMove (FormerSteps.serve_move k o p b c) (serve_move k o l b y)) (sym f)
      (serve_move_lem k o p l b y e (subst (λ (c : FormerControl.Control). SameControl c y) f ec)))
      (serve_inside shape.n k o l b y h g)

  serve_parts : (k : LaneNo) → SameResult (FormerSteps.serve_of t k) (serve_of s k)
  unfolding FormerSteps.serve_of serve_of FormerSteps.ready_of ready_of
  serve_parts k = guard_same k _ _ (λ g h b.
      subst (λ (r : Result Operation Refusal). SameResult (FormerSteps.serve_ready (FormerSteps.ready_of (get_or ps k.0 no_lane) x) t k) (serve_ready r s k)) (ready (el.lane k.0 h b)) (go g (el.lane k.0 h b) b _ refl))
    where
      ready : SameLane (get_or ps k.0 no_lane) (get_or ls k.0 no_lane) → FormerSteps.ready_of (get_or ps k.0 no_lane) x ≡ ready_of (get_or ls k.0 no_lane) shape.limit y
      ready e =
          ready_same (get_or ps k.0 no_lane).waiting (get_or ps k.0 no_lane) (get_or ls k.0 no_lane) x y e ec ∙
          (λ i. ready_with (e.waiting i) (get_or ls k.0 no_lane) (sym one i) y)

      go : Sound s → SameLane (get_or ps k.0 no_lane) (get_or ls k.0 no_lane) → k.0 < shape.n → (r : Result Operation Refusal) → FormerSteps.ready_of (get_or ps k.0 no_lane) x ≡ r →
          SameResult (FormerSteps.serve_ready r t k) (serve_ready r s k)
      go g e h (Err r) q = refuse_same t s r same
      go g e h (Ok o) q =
          let w : (get_or ls k.0 no_lane).waiting ≡ Unserved o = sym e.waiting ∙ ready_unserved (get_or ps k.0 no_lane).waiting (get_or ps k.0 no_lane) x o q in
          serve_go k o _ _ e (ready_free (get_or ps k.0 no_lane).waiting (get_or ps k.0 no_lane) x o q) h (g.block (block_of o.word).0 ((g.lane k.0 h).unserved o w))

  -- deliver, else return, else serve, each the lowest
  step_parts : (ins : Insertion) → SameResult (FormerSettle.settle_step ins t) (settle_step ins s)
  unfolding FormerSettle.settle_step settle_step
  step_parts ins =
      let n = shape.n in
      let d : lowest_to (λ k. ltb 0 (get_or ps k no_lane).downs.len) n ≡ lowest_to (λ k. ltb 0 (get_or ls k no_lane).downs.len) n =
      lowest_same _ _ n (each_lane (λ l. ltb 0 l.downs.len) (λ l. ltb 0 l.downs.len) n ps ls el (λ p l e. ap (ltb 0) e.downs.lens) refl) in
      let r : lowest_to (λ k. ltb 0 (get_or ps k no_lane).returns.len) n ≡ lowest_to (λ k. ltb 0 (get_or ls k no_lane).returns.len) n =
      lowest_same _ _ n (each_lane (λ l. ltb 0 l.returns.len) (λ l. ltb 0 l.returns.len) n ps ls el (λ p l e. ap (ltb 0) e.returns.lens) refl) in
      let u : lowest_to (λ k. unserved_of (get_or ps k no_lane).waiting) n ≡ lowest_to (λ k. unserved_of (get_or ls k no_lane).waiting) n =
      lowest_same _ _ n (each_lane (λ l. unserved_of l.waiting) (λ l. unserved_of l.waiting) n ps ls el (λ p l e. ap unserved_of e.waiting) refl) in
      both SameResult _ _ (ap (λ k. ltb k n) d) (λ _. at_lane (FormerSteps.deliver_of ins t) (deliver_of ins s) (deliver_parts ins) _ _ d)
      (λ _. both SameResult _ _ (ap (λ k. ltb k n) r) (λ _. at_lane (FormerSteps.return_of t) (return_of s) return_parts _ _ r)
      (λ _. both SameResult _ _ (ap (λ k. ltb k n) u) (λ _. at_lane (FormerSteps.serve_of t) (serve_of s) serve_parts _ _ u)
      (λ _. refuse_same t s Unexpected same)))

-- the same on any same stores
pub begin_of_lem : (t : Former.Store) (s : Store) (k : LaneNo) (op : Op) (w : WordNo) → Same t s → SameResult (FormerSteps.begin_of t k op w) (begin_of s k op w)
begin_of_lem t s k op w = by_stores (λ t s. SameResult (FormerSteps.begin_of t k op w) (begin_of s k op w)) (λ sh x y d ps ls bs a b c. begin_parts sh x y d ps ls bs a b c k op w) t s

pub serve_of_lem : (t : Former.Store) (s : Store) (k : LaneNo) → Same t s → SameResult (FormerSteps.serve_of t k) (serve_of s k)
serve_of_lem t s k = by_stores (λ t s. SameResult (FormerSteps.serve_of t k) (serve_of s k)) (λ sh x y d ps ls bs a b c. serve_parts sh x y d ps ls bs a b c k) t s

pub return_of_lem : (t : Former.Store) (s : Store) (k : LaneNo) → Same t s → SameResult (FormerSteps.return_of t k) (return_of s k)
return_of_lem t s k = by_stores (λ t s. SameResult (FormerSteps.return_of t k) (return_of s k)) (λ sh x y d ps ls bs a b c. return_parts sh x y d ps ls bs a b c k) t s

pub deliver_of_lem : (ins : Insertion) (t : Former.Store) (s : Store) (k : LaneNo) → Same t s → SameResult (FormerSteps.deliver_of ins t k) (deliver_of ins s k)
deliver_of_lem ins t s k = by_stores (λ t s. SameResult (FormerSteps.deliver_of ins t k) (deliver_of ins s k)) (λ sh x y d ps ls bs a b c. deliver_parts sh x y d ps ls bs a b c ins k) t s

pub step_of : (ins : Insertion) (t : Former.Store) (s : Store) → Same t s → SameResult (FormerSettle.settle_step ins t) (settle_step ins s)
step_of ins = by_stores (λ t s. SameResult (FormerSettle.settle_step ins t) (settle_step ins s)) (λ sh x y d ps ls bs a b c. step_parts sh x y d ps ls bs a b c ins)
