-- A store after a lane, or a lane with a block, the control and a message to some lanes, was put back, as each block sees it.
-- Assumes nothing.
use Prim.Native.Nat.{ℕ, ◌<◌, ◌≤◌}
use mathlib.Core.Logic.{◌⊎◌, inl, inr, ◌≢◌}
use mathlib.Core.Path.{◌≡◌, refl, sym, ap, ◌∙◌, fun_ext}
use mathlib.Core.Bool.{Bool, true, false, cond, ◌&&◌}
use mathlib.Core.List.{List, [], ◌∷◌, ◌++◌}
use lib.Dec.{eqb}
use lib.ListN.{length, get_or, set, length-set, get_or-eq_default}
use lib.Seq.{get_or-set_same, get_or-set_other}
use borrow.Author.Tests.{eq-eqb, ne_eqb, leb-false, lt-leb}
use native.Mathlib.Omega.{arith}
use Rattle.words.specs.declared.LaneNo.{LaneNo}
use Rattle.words.specs.declared.BlockNo.{BlockNo}
use Rattle.words.proofs.Folds.{below?, any_false, by_cond}
use Rattle.queues.specs.Messages.{DownMessage}
use Rattle.queues.specs.Queues.{capacity, full_at, messages}
use Rattle.lanes.specs.declared.Lane.{Lane}
use Rattle.store.specs.declared.Store.{Store}
use Rattle.store.specs.declared.Block.{Block}
use Rattle.store.specs.Control.{service_of}
use Rattle.store.specs.Stores.{no_lane, no_block, lane_at, block_at, with_lane}
use Rattle.store.specs.LaneSets.{goes_to}
use Rattle.machine.specs.Machine.Parts.{Move}
use Rattle.machine.specs.Machine.Change.{some_full, posted, post_all, moved_store}
use Rattle.machine.specs.Machine.Sized.{LaneSized, Sized}
use Rattle.machine.proofs.Laws.Tests.{on, and_right}
use Rattle.machine.proofs.Laws.Sets.{same?}
use Rattle.machine.proofs.Bounds.KeepsLane.{clash}
use Rattle.machine.proofs.List.Owes.{upd}
use Rattle.machine.proofs.Laws.Updates.{upd_self}
use Rattle.machine.proofs.Protocol.BlockState.{Seen, BlockState, down_about, seen, block_no, project}
use Rattle.machine.proofs.Protocol.Moves.{put_lane, post_seen, send_all}
use Rattle.machine.proofs.Bounds.Posts.{post_all_at, post_all_length}
use Rattle.machine.proofs.Projection.Queued.{push_messages, keep_join}

-- what is read after a set, by the test of the place
pub get_d_set : {A : Type 0} (l : List A) (i j : ℕ) (x d : A) → i < length l → get_or (set l i x) j d ≡ cond (eqb j i) x (get_or l j d)
get_d_set l i j x d h = go (same? j i)
  where
    go : (j ≡ i) ⊎ (j ≢ i) → get_or (set l i x) j d ≡ cond (eqb j i) x (get_or l j d)
    go (inl e) = rw (e, eq-eqb i i refl, get_or-set_same l i x d h)
    go (inr n) = rw (ne_eqb j i n, get_or-set_other l i j x d n)

-- a function of what a test picks
pick_of : {A B : Type 0} (f : A → B) (b : Bool) (x y : A) → f (cond b x y) ≡ cond b (f x) (f y)
pick_of f true x y = refl
pick_of f false x y = refl

-- lane k put back
pub project_lane : (s : Store) (k : ℕ) (l : Lane) (a : ℕ) → k < length s.lanes →
    project (with_lane s k l) a ≡ put_lane k (seen s.shape.c (block_no a) l) (project s a)
project_lane s k l a h =
    ap (λ (f : ℕ → Seen). record { lane = f; block = block_at s a; service = service_of s.control (block_no a) })
    (fun_ext (λ j. ap (seen s.shape.c (block_no a)) (get_d_set s.lanes k j l no_lane h) ∙ pick_of (seen s.shape.c (block_no a)) (eqb j k) l (lane_at s j)))

-- .. where the block sees nothing of it
pub project_lane_same : (s : Store) (k : ℕ) (l : Lane) (a : ℕ) → k < length s.lanes → seen s.shape.c (block_no a) l ≡ seen s.shape.c (block_no a) (lane_at s k) →
    project (with_lane s k l) a ≡ project s a
project_lane_same s k l a h e =
    project_lane s k l a h ∙ ap (λ (x : Seen). put_lane k x (project s a)) e ∙
    ap (λ (f : ℕ → Seen). record { lane = f; block = block_at s a; service = service_of s.control (block_no a) }) (upd_self (project s a).lane k)

-- every lane, after a message to those that it goes to
pub post_at : (to : List Bool) (x : DownMessage) (ls : List Lane) (j : ℕ) → length to ≡ 8 → length ls ≡ 8 →
    get_or (post_all capacity to x ls) j no_lane ≡ cond (goes_to to j) (posted capacity x (get_or ls j no_lane)) (get_or ls j no_lane)
post_at to x ls j t l = go (below? j 8)
  where
    go : (j < 8) ⊎ (8 ≤ j) → get_or (post_all capacity to x ls) j no_lane ≡ cond (goes_to to j) (posted capacity x (get_or ls j no_lane)) (get_or ls j no_lane)
    go (inl h) = post_all_at capacity to x j ls h (omega arith)
    go (inr h) =
        let z = post_all_length capacity to x ls in
        let p : length to ≤ j = omega arith in
        let q : length ls ≤ j = omega arith in
        let r : length (post_all capacity to x ls) ≤ j = omega arith in
        rw (get_or-eq_default to false p, get_or-eq_default ls no_lane q, get_or-eq_default (post_all capacity to x ls) no_lane r)

-- a message goes to lanes only
pub goes_below : (to : List Bool) (j : ℕ) → length to ≡ 8 → goes_to to j ≡ true → j < 8
goes_below to j t e = go (below? j 8)
  where
    go : (j < 8) ⊎ (8 ≤ j) → j < 8
    go (inl h) = h
    go (inr h) =
        let p : length to ≤ j = omega arith in
        let q : get_or to j false ≡ false = get_or-eq_default to false p in
        clash (cc)

-- the lanes that a message goes to have room for it
pub room : (to : List Bool) (ls : List Lane) (j : ℕ) → length to ≡ 8 → some_full capacity to ls ≡ false → goes_to to j ≡ true → (get_or ls j no_lane).downs.len < capacity
unfolding some_full
room to ls j t e g =
    leb-false capacity (get_or ls j no_lane).downs.len
    (and_right (goes_to to j) (full_at capacity (get_or ls j no_lane).downs.len) (any_false (λ i. goes_to to i && full_at capacity (get_or ls i no_lane).downs.len) 8 j e (goes_below to j t g)) g)

-- a lane with one down message more, or as it was
post_pick : (b : Bool) (x : DownMessage) (l : Seen) →
    ◌≡◌ {A = Seen} (record { line = l.line; words = l.words; returns = l.returns; downs = cond b (l.downs ++ (x ∷ [])) l.downs; waiting = l.waiting })
    (cond b (post_seen x l) l)
post_pick true x l = refl
post_pick false x l = refl

-- a lane that a message joined, as a block sees it
pub seen_posted : (c : ℕ) (a : BlockNo) (x : DownMessage) (l : Lane) → LaneSized l → l.downs.len < capacity →
    seen c a (posted capacity x l) ≡ cond (down_about a x) (post_seen x (seen c a l)) (seen c a l)
unfolding seen
seen_posted c a x l z h =
    rw (lt-leb capacity l.downs.len h, push_messages l.downs.len l.downs.at x z.downs h, keep_join (down_about a) (messages l.downs.len l.downs.at) x)
    (post_pick (down_about a x) x (seen c a l))

-- lane j of a store in which lane k was put back and a message sent to some lanes
pub lane_sent : (s : Store) (k : ℕ) (l : Lane) (to : List Bool) (x : DownMessage) (j : ℕ) → length to ≡ 8 → length s.lanes ≡ 8 → k < 8 →
    get_or (post_all capacity to x (set s.lanes k l)) j no_lane ≡ cond (goes_to to j) (posted capacity x (cond (eqb j k) l (lane_at s j))) (cond (eqb j k) l (lane_at s j))
lane_sent s k l to x j t n h =
    let z = length-set s.lanes k l in
    post_at to x (set s.lanes k l) j t (z ∙ n) ∙
    ap (λ (y : Lane). cond (goes_to to j) (posted capacity x y) y) (get_d_set s.lanes k j l no_lane (omega arith))

-- what memory's part of a call has to show: sizes, room in the queues, and that its message is about its block
pub record Moves (s : Store) (k : LaneNo) (a : BlockNo) (v : Move) : Type 0 where
  pub sized : Sized s
  pub lane_below : k.0 < 8
  pub block_below : a.0 < 64
  pub to : length v.to ≡ 8
  pub lane : LaneSized v.lane
  pub space : some_full capacity v.to (set s.lanes k.0 v.lane) ≡ false
  pub about : (j : ℕ) → goes_to v.to j ≡ true → v.message.block.0 ≡ a.0

module _ (s : Store) (k : LaneNo) (x : BlockNo) (v : Move) (g : Moves s k x v) where
  -- lane j before the message is sent
  unfoldable pub was : ℕ → Lane
  was j = cond (eqb j k.0) v.lane (lane_at s j)

  pub was_sized : (j : ℕ) → j < 8 → LaneSized (was j)
  unfolding was
  was_sized j h = by_cond LaneSized (eqb j k.0) v.lane (lane_at s j) g.lane (g.sized.lane j h)

  pub was_room : (j : ℕ) → goes_to v.to j ≡ true → (was j).downs.len < capacity
  unfolding was
  was_room j e =
      let z = g.sized.lanes in
      let p = g.lane_below in
      let q : k.0 < length s.lanes = omega arith in
      rw (← get_d_set s.lanes k.0 j v.lane no_lane q) (room v.to (set s.lanes k.0 v.lane) j g.to g.space e)

  -- each lane, as block a sees it
  lane_seen : (a : BlockNo) (j : ℕ) →
      seen s.shape.c a (get_or (post_all capacity v.to v.message (set s.lanes k.0 v.lane)) j no_lane) ≡
      cond (goes_to v.to j && down_about a v.message) (post_seen v.message (seen s.shape.c a (was j))) (seen s.shape.c a (was j))
  unfolding was
  lane_seen a j =
      ap (seen s.shape.c a) (lane_sent s k.0 v.lane v.to v.message j g.to g.sized.lanes g.lane_below) ∙
      on (goes_to v.to j)
      (λ e. rw e (seen_posted s.shape.c a v.message (was j) (was_sized j (goes_below v.to j g.to e)) (was_room j e)))
      (λ e. rw e refl)

  was_seen : (a : BlockNo) (j : ℕ) → seen s.shape.c a (was j) ≡ upd (λ i. seen s.shape.c a (lane_at s i)) k.0 (seen s.shape.c a v.lane) j
  unfolding was
  was_seen a j = pick_of (seen s.shape.c a) (eqb j k.0) v.lane (lane_at s j)

  -- the store after it, as its block sees it
  pub project_here : project (moved_store s k x v) x.0 ≡ record {
    lane = send_all v.to v.message (upd (project s x.0).lane k.0 (seen s.shape.c x v.lane));
    block = v.block;
    service = service_of v.control x;
  }
  project_here = cong3 (fun_ext lane) (get_or-set_same s.blocks x.0 v.block no_block below)
    where
      below : x.0 < length s.blocks
      below = let z = g.sized.blocks in let p = g.block_below in omega arith

      cong3 : {f h : ℕ → Seen} {b d : Block} → f ≡ h → b ≡ d →
          ◌≡◌ {A = BlockState} (record { lane = f; block = b; service = service_of v.control x }) (record { lane = h; block = d; service = service_of v.control x })
      cong3 e q = rw (e, q)

      lane : (j : ℕ) → (project (moved_store s k x v) x.0).lane j ≡ send_all v.to v.message (upd (project s x.0).lane k.0 (seen s.shape.c x v.lane)) j
      lane j =
          lane_seen x j ∙
          on (goes_to v.to j)
          (λ e. rw (e, eq-eqb v.message.block.0 x.0 (g.about j e), was_seen x j))
          (λ e. rw (e, was_seen x j))

  -- .. and as another block sees it, which sees nothing of the lane's and the control's change
  pub project_there : (a : ℕ) → a ≢ x.0 → seen s.shape.c (block_no a) v.lane ≡ seen s.shape.c (block_no a) (lane_at s k.0) →
      service_of v.control (block_no a) ≡ service_of s.control (block_no a) → project (moved_store s k x v) a ≡ project s a
  project_there a n e q = rw (q, get_or-set_other s.blocks x.0 a v.block no_block n) (ap (λ (f : ℕ → Seen). record { lane = f; block = block_at s a; service = service_of s.control (block_no a) }) (fun_ext lane))
    where
      lane : (j : ℕ) → (project (moved_store s k x v) a).lane j ≡ (project s a).lane j
      lane j =
          lane_seen (block_no a) j ∙
          on (goes_to v.to j)
          (λ p. rw (p, ne_eqb v.message.block.0 a (λ r. n (sym r ∙ g.about j p)), was_seen (block_no a) j, e) (ap (λ (f : ℕ → Seen). f j) (upd_self (project s a).lane k.0)))
          (λ p. rw (p, was_seen (block_no a) j, e) (ap (λ (f : ℕ → Seen). f j) (upd_self (project s a).lane k.0)))
