-- OWED: what a lane owes over all blocks, orders to take and answers on their way, is no more than the services of other lanes. LANES: services
-- are of different lanes, each of which has a served operation; so it is Less than n, and at most L. And a lane has no grant on its way but for its
-- served operation. Assumes nothing.
use Prim.Native.Nat.{ℕ, zero, suc, ◌+◌, ◌<◌, ◌≤◌}
use mathlib.Core.Logic.{◌≢◌}
use mathlib.Core.Path.{◌≡◌, refl, sym, ap, ◌∙◌, subst}
use mathlib.Core.Bool.{Bool, true, false, cond, not, ◌&&◌, true≢false}
use mathlib.Core.List.{List, [], ◌∷◌}
use lib.Dec.{eqb}
use lib.ListN.{length, get_or}
use borrow.Author.Tests.{eq-eqb, ne_eqb, eqb-true}
use native.Mathlib.Omega.{arith}
use Rattle.words.specs.declared.BlockNo.{BlockNo}
use Rattle.words.specs.Folds.{count_to, sum_to}
use Rattle.words.specs.Units.{block_of}
use Rattle.words.proofs.Folds.{by_cond}
use Rattle.queues.specs.Messages.{ReturnMessage}
use Rattle.queues.specs.Messages.{DownMessage}
use Rattle.queues.specs.Queues.{messages, no_return, no_down}
use Rattle.lanes.specs.declared.Lane.{Lane}
use Rattle.lanes.specs.declared.Operation.{Operation}
use Rattle.lanes.specs.declared.Waiting.{Waiting}
use Rattle.lanes.specs.declared.Waiting.TheVariants.{Idle, Unserved, Served}
use Rattle.lanes.specs.Waits.{unserved_of}
use Rattle.store.specs.declared.Store.{Store}
use Rattle.store.specs.declared.Service.{Service}
use Rattle.store.specs.Control.{slot_at, slot_of, service_of, open_services, is_busy, service_in}
use Rattle.store.specs.Stores.{lane_at}
use Rattle.store.proofs.Services.{found, busy_found, never}
use Rattle.machine.specs.Machine.Return.{is_answer}
use Rattle.machine.specs.Machine.Settle.{is_order}
use Rattle.machine.proofs.Laws.Tests.{and_both}
use Rattle.machine.proofs.Laws.Counts.{count_less}
use Rattle.machine.proofs.Laws.Sums.{count_sum, count_zero, sum_up, sum_less, sums_up, count_by, count_unique}
use Rattle.machine.proofs.Bounds.Sound.{sound}
use Rattle.machine.proofs.Protocol.BlockState.{keep_if, return_about, down_about, waiting_on, seen, block_no, project}
use Rattle.machine.proofs.Protocol.Invariant.{answer_count, order_count, grant_count, served_count, owed, ServedWell, ServiceFits}
use Rattle.machine.proofs.Projection.Queued.{queued_returns, queued_downs}
use Rattle.machine.proofs.Store.Consistent.{Consistent}
use Rattle.machine.proofs.Settle.Live.{eject_count, Live}
use Rattle.machine.proofs.Settle.LiveAwaited.{owed_awaited}
use Rattle.std.specs.Prelude.{Some}

-- messages of a kind, by their blocks
module _ {A : Type 0} (block : A → ℕ) (p : A → Bool) where
  -- how many are of the kind, and how many of these are about block d
  abbrev tally : List A → ℕ
  tally [] = 0
  tally (x ∷ xs) = cond (p x) 1 0 + tally xs

  abbrev part : ℕ → List A → ℕ
  part d xs = tally (keep_if (λ (x : A). eqb (block x) d) xs)

  part_more : (d : ℕ) (x : A) (xs : List A) → part d xs ≤ part d (x ∷ xs)
  part_more d x xs = by_cond (λ (r : List A). part d xs ≤ tally r) (eqb (block x) d) (x ∷ keep_if (λ (y : A). eqb (block y) d) xs) (keep_if (λ (y : A). eqb (block y) d) xs) (omega arith) (omega arith)

  part_here : (x : A) (xs : List A) → p x ≡ true → part (block x) (x ∷ xs) ≡ part (block x) xs + 1
  part_here x xs e = rw (eq-eqb (block x) (block x) refl, e) (omega arith)

  -- blocks below m
  abbrev Within : ℕ → List A → Type 0
  Within m [] = Unit {0}
  Within m (x ∷ xs) = (block x < m) × Within m xs

  -- each block that they are about is that of one of n slots that count: they are no more than those about the slots' blocks
  module _ (n m : ℕ) (slot : ℕ → ℕ) (counts : ℕ → Bool) where
    abbrev At : ℕ → Type 0
    At d = (i : ℕ) × (i < n) × (counts i ≡ true) × (slot i ≡ d)

    abbrev share : List A → ℕ → ℕ
    share xs i = cond (counts i) (part (slot i) xs) 0

    share_more : (x : A) (xs : List A) (i : ℕ) → share xs i ≤ share (x ∷ xs) i
    share_more x xs i = go (counts i)
      where
        go : (b : Bool) → cond b (part (slot i) xs) 0 ≤ cond b (part (slot i) (x ∷ xs)) 0
        go true = part_more (slot i) x xs
        go false = omega arith

    share_here : (x : A) (xs : List A) (i : ℕ) → counts i ≡ true → slot i ≡ block x → p x ≡ true → share xs i + 1 ≤ share (x ∷ xs) i
    share_here x xs i c s e =
        let here : part (block x) xs + 1 ≤ part (block x) (x ∷ xs) = rw (eq-eqb (block x) (block x) refl, e) (omega arith) in
        rw c (subst (λ (d : ℕ). part d xs + 1 ≤ part d (x ∷ xs)) (sym s) here)

    tally_most : (xs : List A) → Within m xs → ((d : ℕ) → d < m → part d xs ≢ 0 → At d) → tally xs ≤ sum_to (share xs) n
    tally_most [] w h = omega arith
    tally_most (x ∷ xs) w h = go (p x) refl (tally_most xs w.1 (λ d l z. h d l (λ q. let a = part_more d x xs in z (omega arith))))
      where
        go : (b : Bool) → p x ≡ b → tally xs ≤ sum_to (share xs) n → cond (p x) 1 0 + tally xs ≤ sum_to (share (x ∷ xs)) n
        go false e r = let a = sum_up (share xs) (share (x ∷ xs)) n (λ i _. share_more x xs i) in rw e (omega arith)
        go true e r =
            let a = part_here x xs e in
            let i = h (block x) w.0 (λ q. let z : part (block x) xs + 1 ≡ 0 = sym a ∙ q in absurd (omega arith)) in
            let b = sum_less (share xs) (share (x ∷ xs)) n i.0 i.1 (share_more x xs) (share_here x xs i.0 i.2 i.3 e) in
            rw e (omega arith)

-- the blocks of a queue's messages
within : {A : Type 0} (block : A → ℕ) (p : A → Bool) (none : A) (m len : ℕ) (xs : List A) → ((i : ℕ) → i < len → block (get_or xs i none) < m) → Within block p m (messages len xs)
within block p none m zero xs h = tt
within block p none m (suc len) [] h = tt
within block p none m (suc len) (x ∷ xs) h = (h 0 (omega arith), within block p none m len xs (λ i l. h (suc i) (omega arith)))

-- as many messages as the queue says
pub queue_length : {A : Type 0} (len : ℕ) (xs : List A) → len ≤ length xs → length (messages len xs) ≡ len
queue_length zero xs h = refl
queue_length (suc len) [] h = absurd (omega arith)
queue_length (suc len) (x ∷ xs) h = ap suc (queue_length len xs (omega arith))

-- return messages are answers or ejections, down messages orders or grants
pub returns_split : (xs : List ReturnMessage) → answer_count xs + eject_count xs ≡ length xs
returns_split [] = refl
returns_split (x ∷ xs) = go (is_answer x.kind) (returns_split xs)
  where
    go : (b : Bool) → answer_count xs + eject_count xs ≡ length xs → cond b 1 0 + answer_count xs + (cond b 0 1 + eject_count xs) ≡ suc (length xs)
    go true e = omega arith
    go false e = omega arith

pub downs_split : (xs : List DownMessage) → order_count xs + grant_count xs ≡ length xs
downs_split [] = refl
downs_split (x ∷ xs) = go (is_order x.kind) (downs_split xs)
  where
    go : (b : Bool) → order_count xs + grant_count xs ≡ length xs → cond b 1 0 + order_count xs + (cond b 0 1 + grant_count xs) ≡ suc (length xs)
    go true e = omega arith
    go false e = omega arith

-- the kinds, as tests
abbrev answering : ReturnMessage → Bool
answering x = is_answer x.kind

abbrev ordering : DownMessage → Bool
ordering x = is_order x.kind

abbrev granting : DownMessage → Bool
granting x = not (is_order x.kind)

abbrev return_block : ReturnMessage → ℕ
return_block x = x.block.0

abbrev down_block : DownMessage → ℕ
down_block x = x.block.0

tally_answers : (xs : List ReturnMessage) → tally return_block answering xs ≡ answer_count xs
tally_answers [] = refl
tally_answers (x ∷ xs) = let a = tally_answers xs in omega arith

tally_orders : (xs : List DownMessage) → tally down_block ordering xs ≡ order_count xs
tally_orders [] = refl
tally_orders (x ∷ xs) = let a = tally_orders xs in omega arith

tally_grants : (xs : List DownMessage) → tally down_block granting xs ≡ grant_count xs
tally_grants [] = refl
tally_grants (x ∷ xs) = go (is_order x.kind) (tally_grants xs)
  where
    go : (b : Bool) → tally down_block granting xs ≡ grant_count xs → cond (not b) 1 0 + tally down_block granting xs ≡ cond b 0 1 + grant_count xs
    go true e = omega arith
    go false e = omega arith

-- an unserved operation is served on no block
pub unserved_none : (o : Operation) (a : BlockNo) → served_count (waiting_on a (Unserved o)) ≡ 0
unserved_none o a = by_cond (λ (w : Waiting). served_count w ≡ 0) (eqb (block_of o.word).0 a.0) _ _ refl refl

-- what waits on block a, served
pub served_on_lem : (w : Waiting) (a : BlockNo) → served_count (waiting_on a w) ≢ 0 → (o : Operation) × (w ≡ Served o) × ((block_of o.word).0 ≡ a.0)
served_on_lem Idle a n = absurd (n refl)
served_on_lem (Unserved o) a n = absurd (n (unserved_none o a))
served_on_lem (Served o) a n = go (eqb (block_of o.word).0 a.0) refl
  where
    go : (b : Bool) → eqb (block_of o.word).0 a.0 ≡ b → (u : Operation) × (Served o ≡ Served u) × ((block_of u.word).0 ≡ a.0)
    go true e = (o, refl, eqb-true _ _ e)
    go false e = absurd (n (rw e))

served_most : (w : Waiting) (a : BlockNo) → served_count (waiting_on a w) ≤ 1
served_most Idle a = omega arith
served_most (Unserved o) a = by_cond (λ (x : Waiting). served_count x ≤ 1) (eqb (block_of o.word).0 a.0) (Unserved o) Idle (omega arith) (omega arith)
served_most (Served o) a = by_cond (λ (x : Waiting). served_count x ≤ 1) (eqb (block_of o.word).0 a.0) (Served o) Idle (omega arith) (omega arith)

served_inj : (o u : Operation) → ◌≡◌ {A = Waiting} (Served o) (Served u) → o ≡ u
served_inj o u e = cc

-- both tests pass no more often than one
fewer : (a b : Bool) → cond (a && b) 1 0 ≤ cond a 1 0
fewer true true = omega arith
fewer true false = omega arith
fewer false b = omega arith

-- what a lane owes over all blocks
abbrev pub owed_all : Lane → ℕ
owed_all l = answer_count (queued_returns l.returns) + order_count (queued_downs l.downs)

module _ (s : Store) (f : List ℕ) (i : Consistent s f) (live : Live s) where
  abbrev service_at : ℕ → Service
  service_at j = (service_in (slot_at s.control j))

  -- what the invariant says of the service of block a
  pub fits : (a : ℕ) (h : a < s.shape.m) (v : Service) → service_of s.control (block_no a) ≡ Some v → ServiceFits (i.block a h).0 (project s a).lane v
  fits a h v e = subst (ServedWell (i.block a h).0 (project s a).lane) e (i.block a h).1.service

  -- the service in slot j: its block is one of the store's, and its lane waits for it
  module _ (j : ℕ) (l : j < 8) (b : is_busy (slot_at s.control j) ≡ true) where
    slot_block : (service_at j).block.0 < s.shape.m
    slot_block = ((sound s i.sound).control.services j l b).block

    slot_served : served_count (waiting_on (service_at j).block (lane_at s (service_at j).lane.0).waiting) ≡ 1
    unfolding seen
    slot_served =
        let g = fits (service_at j).block.0 slot_block (service_at j) (busy_found s.control j (sound s i.sound).control.distinct l b) in
        ap served_count g.waits

  -- LANES: two services of one lane are one
  one_lane : (j d : ℕ) → j < 8 → d < 8 → is_busy (slot_at s.control j) ≡ true → is_busy (slot_at s.control d) ≡ true → (service_at j).lane.0 ≡ (service_at d).lane.0 → j ≡ d
  one_lane j d l m b c e =
      let p = slot_served j l b in
      let q = slot_served d m c in
      let u = served_on_lem (lane_at s (service_at j).lane.0).waiting (service_at j).block (λ z. absurd (omega arith)) in
      let w = served_on_lem (lane_at s (service_at d).lane.0).waiting (service_at d).block (λ z. absurd (omega arith)) in
      let same : ◌≡◌ {A = Waiting} (Served u.0) (Served w.0) = sym u.1 ∙ ap (λ (k : ℕ). (lane_at s k).waiting) e ∙ w.1 in
      let o : u.0 ≡ w.0 = served_inj u.0 w.0 same in
      let block : (service_at d).block.0 ≡ (service_at j).block.0 = sym w.2 ∙ ap (λ (x : Operation). (block_of x.word).0) (sym o) ∙ u.2 in
      sym ((sound s i.sound).control.distinct j d l m b (rw c (eq-eqb _ _ block)))

  module _ (k : ℕ) (h : k < s.shape.n) where
    k_below : k < 8
    k_below = let q = (sound s i.sound).n_high in omega arith

    -- the services of other lanes
    abbrev others : ℕ → Bool
    others j = is_busy (slot_at s.control j) && not (eqb (service_at j).lane.0 k)

    other_busy : (j : ℕ) → others j ≡ true → is_busy (slot_at s.control j) ≡ true
    other_busy j e = (and_both (is_busy (slot_at s.control j)) (not (eqb (service_at j).lane.0 k)) e).0

    -- the other lanes that may have a service: none that waits unserved
    abbrev lanes : ℕ → Bool
    lanes d = not (eqb d k) && not (unserved_of (lane_at s d).waiting)

    other_lane : (j : ℕ) → j < 8 → others j ≡ true → lanes (service_at j).lane.0 ≡ true
    other_lane j l e =
        let p = slot_served j l (other_busy j e) in
        let u = served_on_lem (lane_at s (service_at j).lane.0).waiting (service_at j).block (λ z. absurd (omega arith)) in
        rw ((and_both (is_busy (slot_at s.control j)) (not (eqb (service_at j).lane.0 k)) e).1, u.1)

    -- the services of other lanes are no more than these
    others_lanes : count_to others 8 ≤ count_to lanes s.shape.n
    others_lanes =
        let a = count_by others (λ j. (service_at j).lane.0) s.shape.n 8 (λ j l e. ((sound s i.sound).control.services j l (other_busy j e)).lane) in
        let b = sum_up (λ d. count_to (λ j. others j && eqb (service_at j).lane.0 d) 8) (λ d. cond (lanes d) 1 0) s.shape.n (λ d _. each d) in
        let c = count_sum lanes s.shape.n in
        omega arith
      where
        both : (j d : ℕ) → (others j && eqb (service_at j).lane.0 d) ≡ true → (others j ≡ true) × ((service_at j).lane.0 ≡ d)
        both j d e = let q = and_both (others j) (eqb (service_at j).lane.0 d) e in (q.0, eqb-true _ _ q.1)

        each : (d : ℕ) → count_to (λ j. others j && eqb (service_at j).lane.0 d) 8 ≤ cond (lanes d) 1 0
        each d = go (lanes d) refl
          where
            go : (b : Bool) → lanes d ≡ b → count_to (λ j. others j && eqb (service_at j).lane.0 d) 8 ≤ cond b 1 0
            go true q =
                count_unique (λ j. others j && eqb (service_at j).lane.0 d) 8
                (λ p q l m e g. let y = both p d e in let w = both q d g in one_lane p q l m (other_busy p y.0) (other_busy q w.0) (y.1 ∙ sym w.1))
            go false q =
                let z = count_zero (λ j. others j && eqb (service_at j).lane.0 d) 8
                (λ j l. never _ (λ e. let y = both j d e in absurd (true≢false (sym (other_lane j l y.0) ∙ ap lanes y.1 ∙ q)))) in
                omega arith

    -- .. fewer than n
    others_fewer : count_to others 8 + 1 ≤ s.shape.n
    others_fewer =
        let a = others_lanes in
        let b = count_less lanes s.shape.n k h (rw (eq-eqb k k refl)) in
        omega arith

    -- .. and by two where another lane waits unserved
    others_two_fewer : (d : ℕ) → d < s.shape.n → d ≢ k → unserved_of (lane_at s d).waiting ≡ true → count_to others 8 + 2 ≤ s.shape.n
    others_two_fewer d l n u =
        let a = others_lanes in
        let b = count_sum lanes s.shape.n in
        let c = sum_less (λ e. cond (lanes e) 1 0) (λ e. cond (not (eqb e k)) 1 0) s.shape.n d l (λ e. fewer (not (eqb e k)) (not (unserved_of (lane_at s e).waiting))) (rw (ne_eqb d k n, u) (omega arith)) in
        let e = count_sum (λ e. not (eqb e k)) s.shape.n in
        let z = count_less (λ e. not (eqb e k)) s.shape.n k h (ap not (eq-eqb k k refl)) in
        omega arith

    others_open : count_to others 8 ≤ open_services s.control
    unfolding open_services
    others_open =
        let a = count_sum others 8 in
        let b = count_sum (λ j. is_busy (slot_at s.control j)) 8 in
        let c = sum_up (λ j. cond (others j) 1 0) (λ j. cond (is_busy (slot_at s.control j)) 1 0) 8 (λ j _. fewer (is_busy (slot_at s.control j)) (not (eqb (service_at j).lane.0 k))) in
        omega arith

    -- what the lane owes a block has its service in a slot, and that is of another lane
    owed_slot : (d : ℕ) → d < s.shape.m → owed ((project s d).lane k) ≢ 0 → (j : ℕ) × (j < 8) × (others j ≡ true) × ((service_at j).block.0 ≡ d)
    unfolding owed
    owed_slot d b n =
        let w = owed_awaited s f i d b k k_below n in
        let g = found s.control (block_no d) w.service w.found in
        let r = fits d b w.service w.found in
        let lane : (service_at (slot_of s.control (block_no d))).lane.0 ≢ k = λ q.
        let z : w.service.lane.0 ≡ k = ap (λ (v : Service). v.lane.0) (sym g.service) ∙ q in
        n (rw (← z) (rw (r.returns, r.downs) refl)) in
        (slot_of s.control (block_no d), g.below, rw (g.busy, ne_eqb _ _ lane) refl, ap (λ (v : Service). v.block.0) g.service ∙ g.block)

    -- OWED
    owed_others : owed_all (lane_at s k) ≤ count_to others 8
    unfolding owed seen
    owed_others =
        let m = s.shape.m in
        let l = lane_at s k in
        let x = (sound s i.sound).lane k h in
        let a = tally_most return_block answering 8 m (λ j. (service_at j).block.0) others (queued_returns l.returns)
        (within return_block answering no_return m l.returns.len l.returns.at x.returns.inside)
        (λ d b z. owed_slot d b (λ q. z (tally_answers (keep_if (return_about (block_no d)) (queued_returns l.returns)) ∙ first_zero (answer_count (keep_if (return_about (block_no d)) (queued_returns l.returns))) (order_count (keep_if (down_about (block_no d)) (queued_downs l.downs))) q))) in
        let c = tally_most down_block ordering 8 m (λ j. (service_at j).block.0) others (queued_downs l.downs)
        (within down_block ordering no_down m l.downs.len l.downs.at x.downs.inside)
        (λ d b z. owed_slot d b (λ q. z (tally_orders (keep_if (down_about (block_no d)) (queued_downs l.downs)) ∙ second_zero (answer_count (keep_if (return_about (block_no d)) (queued_returns l.returns))) (order_count (keep_if (down_about (block_no d)) (queued_downs l.downs))) q))) in
        let e = sums_up (share return_block answering 8 m (λ j. (service_at j).block.0) others (queued_returns l.returns))
        (share down_block ordering 8 m (λ j. (service_at j).block.0) others (queued_downs l.downs)) (λ j. cond (others j) 1 0) 8 each in
        let p = tally_answers (queued_returns l.returns) in
        let q = tally_orders (queued_downs l.downs) in
        let r = count_sum others 8 in
        omega arith
      where
        first_zero : (a b : ℕ) → a + b ≡ 0 → a ≡ 0
        first_zero a b q = omega arith

        second_zero : (a b : ℕ) → a + b ≡ 0 → b ≡ 0
        second_zero a b q = omega arith

        each : (j : ℕ) → j < 8 →
            cond (others j) (part return_block answering (service_at j).block.0 (queued_returns (lane_at s k).returns)) 0 +
            cond (others j) (part down_block ordering (service_at j).block.0 (queued_downs (lane_at s k).downs)) 0 ≤ cond (others j) 1 0
        each j t = go (others j) refl
          where
            go : (b : Bool) → others j ≡ b →
                cond b (part return_block answering (service_at j).block.0 (queued_returns (lane_at s k).returns)) 0 +
                cond b (part down_block ordering (service_at j).block.0 (queued_downs (lane_at s k).downs)) 0 ≤ cond b 1 0
            go false e = omega arith
            go true e =
                let y = live.one (service_at j).block.0 (slot_block j t (other_busy j e)) k in
                let p = tally_answers (keep_if (return_about (service_at j).block) (queued_returns (lane_at s k).returns)) in
                let q = tally_orders (keep_if (down_about (service_at j).block) (queued_downs (lane_at s k).downs)) in
                omega arith

    pub owed_fewer : owed_all (lane_at s k) + 1 ≤ s.shape.n
    owed_fewer = let a = owed_others in let b = others_fewer in omega arith

    pub owed_two_fewer : (d : ℕ) → d < s.shape.n → d ≢ k → unserved_of (lane_at s d).waiting ≡ true → owed_all (lane_at s k) + 2 ≤ s.shape.n
    owed_two_fewer d l n u = let a = owed_others in let b = others_two_fewer d l n u in omega arith

    pub owed_limit : owed_all (lane_at s k) ≤ s.shape.limit
    owed_limit = let a = owed_others in let b = others_open in let c = (sound s i.sound).control.most in omega arith

    -- the blocks of the lane's grants
    grants_inside : Within down_block granting s.shape.m (queued_downs (lane_at s k).downs)
    grants_inside = within down_block granting no_down s.shape.m (lane_at s k).downs.len (lane_at s k).downs.at ((sound s i.sound).lane k h).downs.inside

    -- a grant is for the operation that is served
    grant_on : (d : ℕ) → d < s.shape.m → part down_block granting d (queued_downs (lane_at s k).downs) ≢ 0 → served_count (waiting_on (block_no d) (lane_at s k).waiting) ≢ 0
    unfolding seen
    grant_on d b n z = let g = (i.block d b).1.grant k in n (tally_grants (keep_if (down_about (block_no d)) (queued_downs (lane_at s k).downs)) ∙ omega arith)

    -- so where none is, there is no grant
    pub grants_none : ((a : BlockNo) → served_count (waiting_on a (lane_at s k).waiting) ≡ 0) → grant_count (queued_downs (lane_at s k).downs) ≡ 0
    unfolding sum_to
    grants_none z =
        let a = tally_most down_block granting 0 s.shape.m (λ j. 0) (λ j. true) (queued_downs (lane_at s k).downs) grants_inside (λ d b n. absurd (grant_on d b n (z (block_no d)))) in
        let b = tally_grants (queued_downs (lane_at s k).downs) in
        omega arith

    -- .. and where one is, they are about its block
    pub grants_about : (o : Operation) → (lane_at s k).waiting ≡ Served o → grant_count (queued_downs (lane_at s k).downs) ≤ grant_count ((project s (block_of o.word).0).lane k).downs
    unfolding sum_to seen
    grants_about o e =
        let d = (block_of o.word).0 in
        let a = tally_most down_block granting 1 s.shape.m (λ j. d) (λ j. true) (queued_downs (lane_at s k).downs) grants_inside
        (λ c b n. let u = served_on_lem (lane_at s k).waiting (block_no c) (grant_on c b n) in (0, omega arith, refl, ap (λ (x : Operation). (block_of x.word).0) (served_inj o u.0 (sym e ∙ u.1)) ∙ u.2)) in
        let b = tally_grants (queued_downs (lane_at s k).downs) in
        let p = tally_grants (keep_if (down_about (block_no d)) (queued_downs (lane_at s k).downs)) in
        omega arith

    -- at most one
    pub grants_one : (o : Operation) → (lane_at s k).waiting ≡ Served o → grant_count (queued_downs (lane_at s k).downs) ≤ 1
    unfolding seen
    grants_one o e =
        let a = grants_about o e in
        let g = (i.block (block_of o.word).0 (((sound s i.sound).lane k h).served o e)).1.grant k in
        let m = served_most (lane_at s k).waiting (block_of o.word) in
        omega arith
