-- What every step does to a lane, a block and the control keeps them within bounds. Assumes nothing.
use Prim.Native.Nat.{ℕ, suc, ◌+◌, ◌-◌, ◌<◌, ◌≤◌}
use mathlib.Core.Logic.{◌⊎◌, inl, inr, ◌≢◌}
use mathlib.Core.Path.{◌≡◌}
use mathlib.Core.Bool.{true, false}
use mathlib.Core.List.{List}
use lib.Dec.{leb, eqb}
use lib.ListN.{length, get_or, set}
use lib.Seq.{get_or-set_other}
use borrow.Author.Tests.{leb-false, eqb-false}
use native.Mathlib.Omega.{arith}
use Rattle.words.specs.declared.LineNo.{LineNo}
use Rattle.words.specs.declared.WordNo.{WordNo}
use Rattle.words.specs.declared.Line.{Line}
use Rattle.words.specs.declared.Op.{Op}
use Rattle.words.specs.Units.{block_of}
use Rattle.words.specs.Lines.{no_line}
use Rattle.words.specs.Operations.{perform_of}
use Rattle.queues.specs.Messages.{ReturnMessage}
use Rattle.queues.specs.Queues.{ReturnQueue}
use Rattle.queues.specs.Messages.{DownMessage}
use Rattle.queues.specs.Queues.{DownQueue}
use Rattle.queues.specs.Queues.{capacity, shifted, no_return, no_down, after_take}
use Rattle.queues.proofs.Shifts.{shifted_cases}
use Rattle.lanes.specs.declared.Lane.{Lane}
use Rattle.lanes.specs.declared.Operation.{Operation}
use Rattle.lanes.specs.declared.Waiting.{Waiting}
use Rattle.lanes.specs.declared.Waiting.TheVariants.{Idle, Unserved, Served}
use Rattle.lanes.specs.Lanes.{with_waiting, with_returns, with_downs, with_line}
use Rattle.machine.specs.Machine.Change.{posted}
use Rattle.machine.specs.Machine.Begin.{complete_with}
use Rattle.machine.specs.Machine.Deliver.{reply}
use Rattle.machine.proofs.Laws.Tests.{on}
use Rattle.machine.proofs.Laws.Sets.{same?, set_cases, set_here}
use Rattle.machine.proofs.Laws.Orders.{Kept}
use Rattle.machine.proofs.Bounds.Sound.{Queued, LaneSound}

-- what cannot be
pub clash : {A : Type 0} → ◌≡◌ {A = ℕ} 0 1 → A
clash z = absurd (omega arith)

-- a message joins a queue; b gives a message's block
pub join_keeps : {A : Type 0} (b : A → ℕ) (none : A) (m len : ℕ) (places : List A) (x : A) → len < capacity → b none < m → b x < m →
    Queued m len (λ i. b (get_or places i none)) → Queued m (len + 1) (λ i. b (get_or (set places len x) i none))
join_keeps {A} b none m len places x h z y g = record { short = omega arith; inside = λ i l. go i l (same? i len) }
  where
    go : (i : ℕ) → i < len + 1 → (i ≡ len) ⊎ (i ≢ len) → b (get_or (set places len x) i none) < m
    go i l (inl e) = rw e (set_here (λ (r : A). b r < m) places len x none y z)
    go i l (inr n) = rw (get_or-set_other places len i x none n) (g.inside i (omega (arith, n)))

-- the head leaves a queue
pub leave_keeps : {A : Type 0} (b : A → ℕ) (none : A) (m len : ℕ) (at : List A) → b none < m → Queued m len (λ i. b (get_or at i none)) → Queued m (len - 1) (λ i. b (get_or (shifted at) i none))
leave_keeps {A} b none m len at z g = record { short = let s = g.short in omega arith; inside = λ i l. shifted_cases (λ (r : A). b r < m) none at i z (g.inside (suc i) (omega arith)) (g.inside i (omega arith)) }

-- a lane within bounds whose use order has at least h places: h is what a law needs or keeps
pub record LaneFit (h c m : ℕ) (l : Lane) : Type 0 where
  pub sound : LaneSound c m l
  pub long : h ≤ length l.order

module _ (h c m : ℕ) (l : Lane) (g : LaneFit h c m l) where
  pub with_returns_lem : (q : ReturnQueue) → Queued m q.len (λ i. (get_or q.at i no_return).block.0) → LaneFit h c m (with_returns q l)
  with_returns_lem q p =
      record {
        sound = record { lines = g.sound.lines; order = g.sound.order; returns = p; downs = g.sound.downs; unserved = g.sound.unserved; served = g.sound.served };
        long = g.long;
      }

  pub with_downs_lem : (q : DownQueue) → Queued m q.len (λ i. (get_or q.at i no_down).block.0) → LaneFit h c m (with_downs q l)
  with_downs_lem q p =
      record {
        sound = record { lines = g.sound.lines; order = g.sound.order; returns = g.sound.returns; downs = p; unserved = g.sound.unserved; served = g.sound.served };
        long = g.long;
      }

  -- the lane waits for something else, or for nothing; an operation that waits is of a block of the store
  with_waiting_lem : (x : Waiting) → ((o : Operation) → x ≡ Unserved o → (block_of o.word).0 < m) → ((o : Operation) → x ≡ Served o → (block_of o.word).0 < m) → LaneFit h c m (with_waiting x l)
  with_waiting_lem x u s =
      record {
        sound = record { lines = g.sound.lines; order = g.sound.order; returns = g.sound.returns; downs = g.sound.downs; unserved = u; served = s };
        long = g.long;
      }

  pub with_unserved : (o : Operation) → (block_of o.word).0 < m → LaneFit h c m (with_waiting (Unserved o) l)
  with_unserved o b = with_waiting_lem (Unserved o) (λ p e. let q : ◌≡◌ {A = Operation} o p = cc in rw q at b) (λ p e. clash (cc))

  pub with_served : (o : Operation) → (block_of o.word).0 < m → LaneFit h c m (with_waiting (Served o) l)
  with_served o b = with_waiting_lem (Served o) (λ p e. clash (cc)) (λ p e. let q : ◌≡◌ {A = Operation} o p = cc in rw q at b)

  pub with_idle : LaneFit h c m (with_waiting Idle l)
  with_idle = with_waiting_lem Idle (λ p e. clash (cc)) (λ p e. clash (cc))

  -- a line is replaced by one that, if valid, has a block of the store
  pub with_line_lem : (i : LineNo) (x : Line) → (x.valid ≡ true → x.block.0 < m) → LaneFit h c m (with_line i x l)
  with_line_lem i x b =
      record {
        sound = record {
          lines = λ j p. set_cases (λ (y : Line). y.valid ≡ true → y.block.0 < m) l.lines i.0 j x no_line (λ _. b) (g.sound.lines j p);
          order = g.sound.order;
          returns = g.sound.returns;
          downs = g.sound.downs;
          unserved = g.sound.unserved;
          served = g.sound.served;
        };
        long = g.long;
      }

  -- an operation completes on a line, whatever the use order is after it
  pub complete_keeps : (o : List LineNo) (i : LineNo) (x : Line) (op : Op) (w : WordNo) → 1 ≤ c → c ≤ h → (x.valid ≡ true → x.block.0 < m) →
      Kept c l.order o → LaneFit h c m (complete_with o i x op w l).lane
  unfolding complete_with
  complete_keeps o i x op w p q b k =
      let r = g.long in
      let e = k.0 in
      record {
        sound = record {
          lines = λ j y. set_cases (λ (z : Line). z.valid ≡ true → z.block.0 < m) l.lines i.0 j (perform_of x op w).line no_line (λ _. b) (g.sound.lines j y);
          order = k.1 p (omega arith) g.sound.order;
          returns = g.sound.returns;
          downs = g.sound.downs;
          unserved = g.sound.unserved;
          served = g.sound.served;
        };
        long = omega arith;
      }

  -- a message joins the down queue, or it is full
  pub posted_keeps : (x : DownMessage) → 1 ≤ m → x.block.0 < m → LaneFit h c m (posted capacity x l)
  posted_keeps x z b =
      on (leb capacity l.downs.len) (λ e. rw e g)
      (λ e. rw e (with_downs_lem (record { len = l.downs.len + 1; at = set l.downs.at l.downs.len x })
      (join_keeps (λ (y : DownMessage). y.block.0) no_down m l.downs.len l.downs.at x (leb-false _ _ e) z b g.sound.downs)))

  -- the head of a queue leaves it
  pub returned_keeps : 1 ≤ m → LaneFit h c m (with_returns (after_take l.returns) l)
  returned_keeps z =
      on (eqb l.returns.len 0) (λ e. rw e g)
      (λ e. rw e (with_returns_lem (record { len = l.returns.len - 1; at = shifted l.returns.at })
      (leave_keeps (λ (y : ReturnMessage). y.block.0) no_return m l.returns.len l.returns.at z g.sound.returns)))

  pub taken_keeps : 1 ≤ m → LaneFit h c m (with_downs (after_take l.downs) l)
  taken_keeps z =
      on (eqb l.downs.len 0) (λ e. rw e g)
      (λ e. rw e (with_downs_lem (record { len = l.downs.len - 1; at = shifted l.downs.at })
      (leave_keeps (λ (y : DownMessage). y.block.0) no_down m l.downs.len l.downs.at z g.sound.downs)))

  -- an answer joins the return queue, or the lane is as before
  pub reply_keeps : (x : ReturnMessage) → 1 ≤ m → x.block.0 < m → LaneFit h c m (reply capacity x l).lane
  unfolding reply
  reply_keeps x z b =
      on (leb capacity l.returns.len) (λ e. rw e g)
      (λ e. rw e (with_returns_lem (record { len = l.returns.len + 1; at = set l.returns.at l.returns.len x })
      (join_keeps (λ (y : ReturnMessage). y.block.0) no_return m l.returns.len l.returns.at x (leb-false _ _ e) z b g.sound.returns)))

-- the head of a queue that has one is of a block of the store
pub head_inside : (m len : ℕ) (block : ℕ → ℕ) → Queued m len block → eqb len 0 ≡ false → block 0 < m
head_inside m len block g e = let n = eqb-false len 0 e in g.inside 0 (omega (arith, n))
