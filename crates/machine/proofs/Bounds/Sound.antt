-- What holds of a store that is not corrupt, with names: the bounds that a step needs. And back: a store that has all of it is not
-- corrupt. Assumes nothing.
use Prim.Native.Nat.{ℕ, ◌≤◌, ◌<◌}
use mathlib.Core.Logic.{◌⊎◌, inl, inr}
use mathlib.Core.Path.{◌≡◌, refl, sym, ◌∙◌, ap}
use mathlib.Core.Bool.{Bool, true, false, ◌||◌, ◌&&◌, true≢false}
use mathlib.Core.List.{List}
use lib.Dec.{leb, ltb, eqb}
use lib.ListN.{get_or}
use borrow.Author.Tests.{ltb-false, leb-false, leb-true, ltb-true, eqb-false, lt-ltb, le-ltb, lt-leb, le-leb, ne_eqb}
use native.Mathlib.Omega.{arith}
use Rattle.words.specs.declared.LineNo.{LineNo}
use Rattle.words.specs.declared.BlockNo.{BlockNo}
use Rattle.words.specs.declared.Shape.{Shape}
use Rattle.words.specs.Lines.{no_line}
use Rattle.words.specs.Units.{block_of}
use Rattle.words.specs.Folds.{any_to}
use Rattle.words.proofs.Folds.{below?, or_left, or_right, all_false, any_false, any_never}
use Rattle.queues.specs.Queues.{capacity, no_return, no_down}
use Rattle.lanes.specs.declared.Lane.{Lane}
use Rattle.lanes.specs.declared.Operation.{Operation}
use Rattle.lanes.specs.declared.Waiting.{Waiting}
use Rattle.lanes.specs.declared.Waiting.TheVariants.{Idle, Unserved, Served}
use Rattle.lanes.specs.UseOrder.{place_at}
use Rattle.store.specs.declared.Store.{Store}
use Rattle.store.specs.declared.Block.{Block}
use Rattle.store.specs.declared.Service.{Service}
use Rattle.store.specs.declared.Control.{Control}
use Rattle.store.specs.Control.{slot_at, is_for, slot_of, open_services, is_busy, service_in}
use Rattle.store.specs.Stores.{lane_at, block_at}
use Rattle.store.proofs.Services.{Found, Distinct, for_turned, never}
use Rattle.machine.specs.Machine.Begun.{begun_in, last_place}
use Rattle.machine.specs.Machine.Corruption.{bad_line, bad_lane, bad_waiting, bad_use, bad_order, bad_flag, bad_flags, bad_service, bad_slot, bad_control, corrupt_of}
use Rattle.machine.proofs.Laws.Tests.{and_right, and_never, or_never, none_of}
use Rattle.machine.proofs.Bounds.Shape.{shape_bounds, bounds_shape, limit_bounds, bounds_limit}

-- a queue of len messages, of which that at place i is of block (block i)
pub record Queued (m len : ℕ) (block : ℕ → ℕ) : Type 0 where
  pub short : len ≤ capacity
  pub inside : (i : ℕ) → i < len → block i < m

-- a use order of c lines: its places name lines, and two places never the same
pub record Ordered (c : ℕ) (o : List LineNo) : Type 0 where
  pub named : (j : ℕ) → j < c → (place_at o j).0 < c
  pub once : (i j : ℕ) → i < c → j < c → (place_at o i).0 ≡ (place_at o j).0 → i ≡ j

-- a lane of c lines, with m blocks
pub record LaneSound (c m : ℕ) (l : Lane) : Type 0 where
  pub lines : (i : ℕ) → i < c → (get_or l.lines i no_line).valid ≡ true → (get_or l.lines i no_line).block.0 < m
  pub order : Ordered c l.order
  pub returns : Queued m l.returns.len (λ i. (get_or l.returns.at i no_return).block.0)
  pub downs : Queued m l.downs.len (λ i. (get_or l.downs.at i no_down).block.0)
  pub unserved : (o : Operation) → l.waiting ≡ Unserved o → (block_of o.word).0 < m
  pub served : (o : Operation) → l.waiting ≡ Served o → (block_of o.word).0 < m

-- a block, with n lanes: PRESENT is for lanes only
pub record BlockSound (n : ℕ) (b : Block) : Type 0 where
  pub absent : (j : ℕ) → n ≤ j → j < 8 → get_or b.present j false ≡ false

-- a service, with n lanes and m blocks
pub record ServiceSound (n m : ℕ) (v : Service) : Type 0 where
  pub lane : v.lane.0 < n
  pub block : v.block.0 < m
  pub awaited : v.awaited < n

-- a control: each of its services, no two of one block, at most as many as the limit
pub record ControlSound (n m limit : ℕ) (x : Control) : Type 0 where
  pub services : (i : ℕ) → i < 8 → is_busy (slot_at x i) ≡ true → ServiceSound n m (service_in (slot_at x i))
  pub distinct : Distinct x
  pub most : open_services x ≤ limit

-- the service of a block
pub service_sound : (n m limit : ℕ) (x : Control) (a : BlockNo) (v : Service) → ControlSound n m limit x → Found x a v → ServiceSound n m v
service_sound n m limit x a v g f = rw (← f.service) (g.services (slot_of x a) f.below f.busy)

pub record Sound (s : Store) : Type 0 where
  pub n_low : 2 ≤ s.shape.n
  pub n_high : s.shape.n ≤ 8
  pub c_low : 1 ≤ s.shape.c
  pub c_high : s.shape.c ≤ 8
  pub m_low : 1 ≤ s.shape.m
  pub m_high : s.shape.m ≤ 64
  pub limit_low : 1 ≤ s.shape.limit
  pub limit_high : s.shape.limit ≤ 8
  pub control : ControlSound s.shape.n s.shape.m s.shape.limit s.control
  pub lane : (k : ℕ) → k < s.shape.n → LaneSound s.shape.c s.shape.m (lane_at s k)
  pub block : (a : ℕ) → a < s.shape.m → BlockSound s.shape.n (block_at s a)
  pub begun : begun_in s ≤ last_place

-- the test of a place of a queue, and of a queue
abbrev place_test : ℕ → ℕ → (ℕ → ℕ) → ℕ → Bool
place_test m len block i = ltb i len && leb m (block i)

abbrev queue_test : ℕ → ℕ → (ℕ → ℕ) → Bool
queue_test m len block = ltb capacity len || any_to (place_test m len block) capacity

queue_sound : (m len : ℕ) (block : ℕ → ℕ) → queue_test m len block ≡ false → Queued m len block
queue_sound m len block e = record { short = most; inside = within }
  where
    most : len ≤ capacity
    most = ltb-false capacity len (or_left (ltb capacity len) (any_to (place_test m len block) capacity) e)

    within : (i : ℕ) → i < len → block i < m
    within i h =
        let p = most in
        let q = any_false (place_test m len block) capacity i (or_right (ltb capacity len) (any_to (place_test m len block) capacity) e) (omega arith) in
        leb-false m (block i) (and_right (ltb i len) (leb m (block i)) q (lt-ltb i len h))

sound_queue : (m len : ℕ) (block : ℕ → ℕ) → Queued m len block → queue_test m len block ≡ false
sound_queue m len block g =
    or_never _ _ (le-ltb capacity len g.short)
    (any_never (place_test m len block) capacity (λ i _. and_never (ltb i len) (leb m (block i)) (λ h. lt-leb m (block i) (g.inside i (ltb-true i len h)))))

-- the test that place k's line is named before
abbrev named_before : List LineNo → ℕ → ℕ → Bool
named_before o k j = eqb (place_at o j).0 (place_at o k).0

pub order_sound : (c : ℕ) (o : List LineNo) → bad_order c o ≡ false → Ordered c o
order_sound c o e = record { named = λ j h. leb-false c (place_at o j).0 (or_left _ (any_to (named_before o j) j) (each j h)); once = once }
  where
    each : (j : ℕ) → j < c → (leb c (place_at o j).0 || any_to (named_before o j) j) ≡ false
    each j h = any_false (bad_use c o) c j e h

    apart : (i j : ℕ) → i < j → j < c → (place_at o i).0 ≡ (place_at o j).0 → ⊥
    apart i j l h q = eqb-false _ _ (any_false (named_before o j) j i (or_right (leb c (place_at o j).0) (any_to (named_before o j) j) (each j h)) l) q

    once : (i j : ℕ) → i < c → j < c → (place_at o i).0 ≡ (place_at o j).0 → i ≡ j
    once i j hi hj q = go (below? i j) (below? j i)
      where
        go : (i < j) ⊎ (j ≤ i) → (j < i) ⊎ (i ≤ j) → i ≡ j
        go (inl l) r = absurd (apart i j l hj q)
        go (inr l) (inl r) = absurd (apart j i r hi (sym q))
        go (inr l) (inr r) = omega arith

sound_order : (c : ℕ) (o : List LineNo) → Ordered c o → bad_order c o ≡ false
sound_order c o g =
    any_never (bad_use c o) c
    (λ k h. or_never _ _ (lt-leb c (place_at o k).0 (g.named k h))
    (any_never (named_before o k) k (λ j l. ne_eqb _ _ (λ q. let e = g.once j k (omega arith) h q in omega arith))))

sound_waiting : (m : ℕ) (w : Waiting) → ((o : Operation) → w ≡ Unserved o → (block_of o.word).0 < m) → ((o : Operation) → w ≡ Served o → (block_of o.word).0 < m) →
    bad_waiting m w ≡ false
sound_waiting m Idle u v = refl
sound_waiting m (Unserved o) u v = lt-leb m (block_of o.word).0 (u o refl)
sound_waiting m (Served o) u v = lt-leb m (block_of o.word).0 (v o refl)

pub lane_sound : (c m : ℕ) (l : Lane) → bad_lane capacity c m l ≡ false → LaneSound c m l
unfolding bad_lane
lane_sound c m l e =
    let a = all_false _ e in
    record {
      lines = λ i h v. leb-false m (get_or l.lines i no_line).block.0 (and_right (get_or l.lines i no_line).valid _ (any_false (λ j. bad_line m (get_or l.lines j no_line)) c i a.0 h) v);
      order = order_sound c l.order a.1.0;
      returns = queue_sound m l.returns.len (λ i. (get_or l.returns.at i no_return).block.0) a.1.1.0;
      downs = queue_sound m l.downs.len (λ i. (get_or l.downs.at i no_down).block.0) a.1.1.1.0;
      unserved = λ o w. leb-false m (block_of o.word).0 (sym (ap (bad_waiting m) w) ∙ a.1.1.1.1.0);
      served = λ o w. leb-false m (block_of o.word).0 (sym (ap (bad_waiting m) w) ∙ a.1.1.1.1.0);
    }

pub sound_lane : (c m : ℕ) (l : Lane) → LaneSound c m l → bad_lane capacity c m l ≡ false
unfolding bad_lane
sound_lane c m l g =
    none_of _ (
      any_never (λ i. bad_line m (get_or l.lines i no_line)) c
          (λ i h. and_never (get_or l.lines i no_line).valid (leb m (get_or l.lines i no_line).block.0) (λ v. lt-leb m _ (g.lines i h v))),
      (
        sound_order c l.order g.order,
        (
          sound_queue m l.returns.len (λ i. (get_or l.returns.at i no_return).block.0) g.returns,
          (
            sound_queue m l.downs.len (λ i. (get_or l.downs.at i no_down).block.0) g.downs,
            (
              sound_waiting m l.waiting g.unserved g.served,
              tt,
            ),
          ),
        ),
      ),
    )

pub block_sound : (n : ℕ) (b : Block) → bad_flags n b ≡ false → BlockSound n b
unfolding bad_flags
block_sound n b e =
    record { absent = λ j h l. and_right (leb n j) (get_or b.present j false) (any_false (bad_flag n b) 8 j e l) (le-leb n j h) }

pub sound_block : (n : ℕ) (b : Block) → BlockSound n b → bad_flags n b ≡ false
unfolding bad_flags
sound_block n b g = any_never (bad_flag n b) 8 (λ j l. and_never (leb n j) (get_or b.present j false) (λ h. g.absent j (leb-true n j h) l))

-- the test of a service
abbrev service_test : ℕ → ℕ → Service → Bool
service_test n m v = leb m v.block.0 || leb n v.awaited

tested_service : (n m : ℕ) (v : Service) → bad_service n m v ≡ false → ServiceSound n m v
tested_service n m v h =
    record {
      lane = leb-false n v.lane.0 (or_left (leb n v.lane.0) (service_test n m v) h);
      block = leb-false m v.block.0 (or_left (leb m v.block.0) (leb n v.awaited) (or_right (leb n v.lane.0) (service_test n m v) h));
      awaited = leb-false n v.awaited (or_right (leb m v.block.0) (leb n v.awaited) (or_right (leb n v.lane.0) (service_test n m v) h));
    }

sound_service : (n m : ℕ) (v : Service) → ServiceSound n m v → bad_service n m v ≡ false
sound_service n m v h = or_never _ _ (lt-leb n v.lane.0 h.lane) (or_never _ _ (lt-leb m v.block.0 h.block) (lt-leb n v.awaited h.awaited))

-- the test that an earlier slot has a service of slot i's block
abbrev served_before : Control → ℕ → ℕ → Bool
served_before x i j = is_for (service_in (slot_at x i)).block (slot_at x j)

module _ (shape : Shape) (x : Control) where
  abbrev slot_test : ℕ → Bool
  slot_test i = bad_service shape.n shape.m (service_in (slot_at x i)) || any_to (served_before x i) i

  pub control_sound : bad_control shape x ≡ false → ControlSound shape.n shape.m shape.limit x
  unfolding bad_control
  control_sound e = record { services = λ i h b. tested_service _ _ _ (or_left _ (any_to (served_before x i) i) (each i h b)); distinct = once; most = ltb-false _ _ (or_left _ _ e) }
    where
      each : (i : ℕ) → i < 8 → is_busy (slot_at x i) ≡ true → slot_test i ≡ false
      each i h b = and_right (is_busy (slot_at x i)) (slot_test i) (any_false (bad_slot shape.n shape.m x) 8 i (or_right (ltb shape.limit (open_services x)) _ e) h) b

      apart : (i j : ℕ) → j < i → i < 8 → is_busy (slot_at x i) ≡ true → served_before x i j ≡ true → ⊥
      apart i j l h b f =
          true≢false (sym f ∙ any_false (served_before x i) i j (or_right (bad_service shape.n shape.m (service_in (slot_at x i))) (any_to (served_before x i) i) (each i h b)) l)

      once : Distinct x
      once i j hi hj b f = go (below? i j) (below? j i)
        where
          go : (i < j) ⊎ (j ≤ i) → (j < i) ⊎ (i ≤ j) → j ≡ i
          go (inl l) r = let t = for_turned x i j b f in absurd (apart j i l hj t.0 t.1)
          go (inr l) (inl r) = absurd (apart i j r hi b f)
          go (inr l) (inr r) = omega arith

  pub sound_control : ControlSound shape.n shape.m shape.limit x → bad_control shape x ≡ false
  unfolding bad_control
  sound_control g =
      or_never _ _ (le-ltb _ _ g.most)
      (any_never (bad_slot shape.n shape.m x) 8
      (λ i h. and_never (is_busy (slot_at x i)) (slot_test i)
      (λ b. or_never _ _ (sound_service _ _ _ (g.services i h b)) (any_never (served_before x i) i (λ j l. never (served_before x i j) (λ f. let e = g.distinct i j h (omega arith) b f in absurd (omega arith)))))))

-- what a store has that is not corrupt
pub sound : (s : Store) → corrupt_of s ≡ false → Sound s
unfolding corrupt_of
sound s e =
    let a = all_false _ e in
    let b = shape_bounds s.shape a.0 in
    let l = limit_bounds s.shape a.1.0 in
    record {
      n_low = b.0;
      n_high = b.1;
      c_low = b.2;
      c_high = b.3;
      m_low = b.4;
      m_high = b.5;
      limit_low = l.0;
      limit_high = l.1;
      control = control_sound s.shape s.control a.1.1.0;
      lane = λ k h. lane_sound s.shape.c s.shape.m (lane_at s k) (any_false (λ j. bad_lane capacity s.shape.c s.shape.m (lane_at s j)) s.shape.n k a.1.1.1.0 h);
      block = λ k h. block_sound s.shape.n (block_at s k) (any_false (λ j. bad_flags s.shape.n (block_at s j)) s.shape.m k a.1.1.1.1.0 h);
      begun = ltb-false _ _ a.1.1.1.1.1.0;
    }

-- .. and back
pub not_corrupt : (s : Store) → Sound s → corrupt_of s ≡ false
unfolding corrupt_of
not_corrupt s g =
    none_of _ (
      bounds_shape s.shape g.n_low g.n_high g.c_low g.c_high g.m_low g.m_high,
      (
        bounds_limit s.shape g.limit_low g.limit_high,
        (
          sound_control s.shape s.control g.control,
          (
            any_never (λ k. bad_lane capacity s.shape.c s.shape.m (lane_at s k)) s.shape.n (λ k h. sound_lane s.shape.c s.shape.m (lane_at s k) (g.lane k h)),
            (
              any_never (λ a. bad_flags s.shape.n (block_at s a)) s.shape.m (λ a h. sound_block s.shape.n (block_at s a) (g.block a h)),
              (
                le-ltb _ _ g.begun,
                tt,
              ),
            ),
          ),
        ),
      ),
    )
