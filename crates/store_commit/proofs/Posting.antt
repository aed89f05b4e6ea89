-- The walk that posts a message: what it has done by the bits that are left of its byte. Assumes nothing.
use Prim.Native.Nat.{ℕ, zero, suc, ◌+◌, ◌<◌, ◌≤◌}
use native.Mathlib.Nat.{eq-or-lt_of_le}
use native.Mathlib.Omega.{arith}
use mathlib.Core.Logic.{◌⊎◌, inl, inr}
use mathlib.Core.Bool.{Bool, true, false, cond, ◌&&◌}
use mathlib.Core.Path.{◌≡◌, refl, sym, ap, ◌∙◌}
use mathlib.Core.List.{List}
use lib.ListN.{get_or, set}
use Rattle.words.specs.Folds.{up_to, any_to}
use Rattle.words.proofs.Folds.{below?, skip, up_to_none, up_to_more, any_none, any_more, any_true, any_false, any_never}
use Rattle.std.specs.Prelude.{Some, None}
use Rattle.queues.specs.Messages.{DownMessage}
use Rattle.queues.specs.declared.Message.{Message}
use Rattle.queues.specs.declared.Queue.{Queue}
use Rattle.queues.specs.Queues.{capacity, full_at, push_of, after_push}
use Rattle.lanes.specs.declared.Lane.{Lane}
use Rattle.store.specs.declared.Store.{Store}
use Rattle.store.specs.LaneSets.{goes_to}
use Rattle.store.specs.Stores.{no_lane, with_lanes}
use Rattle.machine.specs.Machine.LaneBytes.{bit_of, lanes_of}
use Rattle.machine.specs.Machine.Change.{some_full, posted, post_to, post_all}
use Rattle.machine.proofs.Bounds.Posts.{posts_before}
use Rattle.machine.proofs.Laws.LaneBytes.{lanes_bit}
use Rattle.store_commit.specs.Bits.{lowest_bit, without_lowest}
use Rattle.store_commit.proofs.Walks.{Left, left_all, left_none, lowest_below, fewer, next_above, next_set, next_first, next_left}

-- what push gives says whether the queue was full
no_queue : {A : Type 0} {x : A} → None ≡ Some x → ⊥
no_queue e = let z : ◌≡◌ {A = ℕ} 0 1 = cc in omega arith

pub push_none : {K : Type 0} (q : Queue K) (x : Message K) → push_of capacity q x ≡ None → full_at capacity q.len ≡ true
push_none q x e = go (full_at capacity q.len) e
  where
    go : (b : Bool) → cond b None (Some (after_push capacity q x)) ≡ None → b ≡ true
    go true e = refl
    go false e = absurd (no_queue (sym e))

pub push_some : {K : Type 0} (q : Queue K) (x : Message K) {r : Queue K} → push_of capacity q x ≡ Some r →
    (full_at capacity q.len ≡ false) × (r ≡ after_push capacity q x)
push_some q x {r} e = let s = skip (full_at capacity q.len) e no_queue in (s.0, cc)

-- turns that do nothing can be left out
skip_turns : {A : Type 0} (f : ℕ → A → A) (a : A) (j n : ℕ) → j ≤ n → ((i : ℕ) (b : A) → j ≤ i → i < n → f i b ≡ b) → up_to f n a ≡ up_to f j a
unfolding up_to
skip_turns f a j zero h e = let q : j ≡ 0 = omega arith in rw q refl
skip_turns f a j (suc n) h e = go (eq-or-lt_of_le h) (λ l. e n (up_to f n a) l (omega arith) ∙ skip_turns f a j n l (λ i b g k. e i b g (omega arith)))
  where
    go : (j ≡ suc n) ⊎ (j < suc n) → (j ≤ n → up_to f (suc n) a ≡ up_to f j a) → up_to f (suc n) a ≡ up_to f j a
    go (inl q) r = rw q refl
    go (inr l) r = r (omega arith)

-- .. and so can tests that fail
skip_tests : (p : ℕ → Bool) (j n : ℕ) → any_to p j ≡ false → ((i : ℕ) → j ≤ i → i < n → p i ≡ false) → any_to p n ≡ false
skip_tests p j n h e = any_never p n (λ i l. go i l (below? i j))
  where
    go : (i : ℕ) → i < n → (i < j) ⊎ (j ≤ i) → p i ≡ false
    go i l (inl b) = any_false p j i h b
    go i l (inr b) = e i b l

-- a lane that the message goes to has no room for it
abbrev full : ℕ → List Lane → ℕ → Bool
full to ls i = goes_to (lanes_of to) i && full_at capacity (get_or ls i no_lane).downs.len

-- from s to t message x has been posted to the lanes below j that are in the byte, each of which had room; the byte left has the others
pub record Posted (to : ℕ) (x : DownMessage) (s t : Store) (left j : ℕ) : Type 0 where
  pub below : j ≤ 8
  pub fits : left < 256
  pub rest : Left to left j
  pub done : t ≡ with_lanes s (up_to (post_to capacity (lanes_of to) x) j s.lanes)
  pub room : any_to (full to s.lanes) j ≡ false

module _ (to : ℕ) (x : DownMessage) (s : Store) where
  -- before the first turn
  pub posted_none : to < 256 → Posted to x s s to 0
  posted_none h = record {
    below = omega arith;
    fits = h;
    rest = left_all to;
    done = ap (with_lanes s) (up_to_none (post_to capacity (lanes_of to) x) s.lanes);
    room = any_none (full to s.lanes);
  }

  not_full : (i : ℕ) → i < 8 → bit_of to i ≡ false → full to s.lanes i ≡ false
  not_full i h e = rw (lanes_bit to i h, e) refl

  not_posted : (i : ℕ) (ls : List Lane) → i < 8 → bit_of to i ≡ false → post_to capacity (lanes_of to) x i ls ≡ ls
  unfolding post_to
  not_posted i ls h e = rw (post_to, lanes_bit to i h, e) refl

  -- after the last one
  module _ (t : Store) (j : ℕ) (w : Posted to x s t 0 j) where
    pub posted_all : t ≡ with_lanes s (post_all capacity (lanes_of to) x s.lanes)
    unfolding post_all
    posted_all = w.done ∙ ap (with_lanes s) (sym (skip_turns (post_to capacity (lanes_of to) x) s.lanes j 8 w.below (λ i ls h g. not_posted i ls g (left_none to j w.rest i h g))))

    pub room_all : some_full capacity (lanes_of to) s.lanes ≡ false
    unfolding some_full
    room_all = skip_tests (full to s.lanes) j 8 w.room (λ i h g. not_full i g (left_none to j w.rest i h g))

  -- a turn, at the lowest lane that is left
  module _ (t : Store) (left j : ℕ) (w : Posted to x s t left j) (h : 0 < left) where
    abbrev z : ℕ
    z = lowest_bit left

    pub turn_below : z < 8
    turn_below = lowest_below left w.fits h

    reached : t ≡ with_lanes s (up_to (post_to capacity (lanes_of to) x) z s.lanes)
    reached =
        let b = turn_below in
        w.done ∙ ap (with_lanes s) (sym (skip_turns (post_to capacity (lanes_of to) x) s.lanes j z (next_above to left j w.rest h w.fits)
        (λ i ls g l. not_posted i ls (omega arith) (next_first to left j w.rest h w.fits i g l))))

    clear : any_to (full to s.lanes) z ≡ false
    clear = let b = turn_below in skip_tests (full to s.lanes) j z w.room (λ i g l. not_full i (omega arith) (next_first to left j w.rest h w.fits i g l))

    -- its queue is as it was
    same_lane : get_or t.lanes z no_lane ≡ get_or s.lanes z no_lane
    same_lane = ap (λ (u : Store). get_or u.lanes z no_lane) reached ∙ posts_before capacity (lanes_of to) x z z s.lanes (omega arith)

    goes : goes_to (lanes_of to) z ≡ true
    goes = lanes_bit to z turn_below ∙ next_set to left j w.rest h w.fits

    full_here : full to s.lanes z ≡ full_at capacity (get_or t.lanes z no_lane).downs.len
    full_here = rw (goes, same_lane) refl

    pub turn_full : full_at capacity (get_or t.lanes z no_lane).downs.len ≡ true → some_full capacity (lanes_of to) s.lanes ≡ true
    unfolding some_full
    turn_full e = any_true (full to s.lanes) 8 z (full_here ∙ e) turn_below

    pub turn_posts : {l : Lane} → full_at capacity (get_or t.lanes z no_lane).downs.len ≡ false → l ≡ posted capacity x (get_or t.lanes z no_lane) →
        Posted to x s (with_lanes t (set t.lanes z l)) (without_lowest left) (z + 1)
    unfolding post_to
    turn_posts {l} e q = record {
      below = let b = turn_below in omega arith;
      fits = let b = fewer left w.fits h in let g = w.fits in omega arith;
      rest = next_left to left j w.rest h w.fits;
      done =
          ap (λ (u : Store). with_lanes u (set t.lanes z l)) reached ∙
          ap (with_lanes s) (up_to_more (post_to capacity (lanes_of to) x) s.lanes z (ap (λ (u : Store). u.lanes) reached) (rw (post_to, goes, q)));
      room = any_more (full to s.lanes) z clear (full_here ∙ e);
    }
