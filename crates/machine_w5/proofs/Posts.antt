-- A message sent to some of the lanes of the same stores: the same, unless one of their down queues has two messages. Assumes nothing.
use Prim.Native.Nat.{ℕ, zero, suc, ◌+◌, ◌<◌, ◌≤◌}
use mathlib.Core.Path.{◌≡◌, refl, sym, ◌∙◌}
use mathlib.Core.Logic.{◌⊎◌, inl, inr}
use mathlib.Core.Bool.{Bool, true, false, ◌&&◌, true≢false}
use mathlib.Core.List.{List}
use lib.Dec.{leb}
use lib.ListN.{length, get_or}
use native.Mathlib.Omega.{arith}
use borrow.Author.Tests.{leb-true, leb-false, lt-leb, le-leb}
use Rattle.words.specs.Folds.{any_to}
use Rattle.words.proofs.Folds.{below?, any_false, any_never}
use Rattle.queues.specs.Queues.{capacity}
use Rattle.queues.specs.Messages.{DownMessage}
use Rattle.lanes.specs.declared.Lane.{Lane}
use Rattle.store.specs.Stores.{no_lane}
use Rattle.store.specs.LaneSets.{LaneSet, goes_to}
use Rattle.machine.specs.Machine.Change.{some_full, posted, post_all}
use Rattle.machine.proofs.Laws.Tests.{on, and_right, and_both, and_never}
use Rattle.machine.proofs.Bounds.Posts.{post_all_at, post_all_length}
use Rattle.machine_w5.specs.Stores as Former
use Rattle.machine_w5.specs.Same.{SameLane, SameLanes}
use Rattle.machine_w5.proofs.Pairs.{both}
use Rattle.machine_w5.proofs.Inside.{Inside}
use Rattle.machine_w5.proofs.Queues.{push_same}

-- one number below n that passes a test
pub record Passes (p : ℕ → Bool) (n : ℕ) : Type 0 where
  pub at : ℕ
  pub below : at < n
  pub passes : p at ≡ true

any_passes : (p : ℕ → Bool) (n : ℕ) → any_to p n ≡ true → Passes p n
unfolding any_to
any_passes p zero e = absurd (true≢false (sym e))
any_passes p (suc n) e =
    on (any_to p n) (λ t. let r = any_passes p n t in record { at = r.at; below = let h = r.below in omega arith; passes = r.passes })
    (λ f. record { at = n; below = omega arith; passes = rw f at e })

module _ (n : ℕ) (to : LaneSet) (x : DownMessage) (ps ls : List Lane) (e : SameLanes n ps ls) (inside : Inside n to) where
  -- a lane that it goes to is there
  lane_to : (j : ℕ) → j < 8 → goes_to to j ≡ true → SameLane (get_or ps j no_lane) (get_or ls j no_lane)
  lane_to j h t = go (below? j n)
    where
      go : (j < n) ⊎ (n ≤ j) → SameLane (get_or ps j no_lane) (get_or ls j no_lane)
      go (inl l) = e.lane j h l
      go (inr l) = absurd (true≢false (sym t ∙ inside j l h))

  -- eight places are enough
  pub none_full : some_full capacity to ls ≡ false
  unfolding some_full
  none_full = any_never _ 8 (λ j h. and_never (goes_to to j) _ (λ t. let q = (lane_to j h t).downs in lt-leb 8 (get_or ls j no_lane).downs.len (omega (arith, q.lens, q.short))))

  -- two were not: then one queue has three messages now
  pub full_long : some_full Former.capacity to ps ≡ true → Passes (λ j. leb 3 (get_or (post_all capacity to x ls) j no_lane).downs.len) 8
  unfolding some_full
  full_long f =
      let r = any_passes (λ j. goes_to to j && leb 2 (get_or ps j no_lane).downs.len) 8 f in
      let b = and_both (goes_to to r.at) (leb 2 (get_or ps r.at no_lane).downs.len) r.passes in
      let q = (lane_to r.at r.below b.0).downs in
      let h : 2 ≤ (get_or ps r.at no_lane).downs.len = leb-true 2 _ b.1 in
      let u : leb 8 (get_or ls r.at no_lane).downs.len ≡ false = lt-leb 8 (get_or ls r.at no_lane).downs.len (omega (arith, q.lens, q.short)) in
      let i : r.at < length ls = let z = r.below in let y = e.lanes in omega arith in
      record { at = r.at; below = r.below; passes = rw (post_all_at capacity to x r.at ls r.below i, b.0, u) (le-leb 3 ((get_or ls r.at no_lane).downs.len + 1) (omega (arith, q.lens))) }

  -- two were: the lanes are the same after it
  posted_same : (p l : Lane) → SameLane p l → p.downs.len < 2 → SameLane (posted Former.capacity x p) (posted capacity x l)
  posted_same p l g h =
      let q = g.downs in
      let u : leb 2 p.downs.len ≡ false = lt-leb 2 _ h in
      let v : leb 8 l.downs.len ≡ false = lt-leb 8 l.downs.len (omega (arith, q.lens)) in
      rw (u, v) (record { lines = g.lines; order = g.order; waiting = g.waiting; returns = g.returns; downs = push_same _ _ _ _ x q h })

  pub post_same : some_full Former.capacity to ps ≡ false → SameLanes n (post_all Former.capacity to x ps) (post_all capacity to x ls)
  unfolding some_full
  post_same f = record {
    former_lanes = post_all_length Former.capacity to x ps ∙ e.former_lanes;
    lanes = post_all_length capacity to x ls ∙ e.lanes;
    lane = λ j h l.
        rw (post_all_at Former.capacity to x j ps h (omega (arith, e.former_lanes)), post_all_at capacity to x j ls h (omega (arith, e.lanes)))
        (both SameLane (goes_to to j) (goes_to to j) refl
        (λ t. posted_same _ _ (e.lane j h l) (leb-false 2 _ (and_right (goes_to to j) _ (any_false _ 8 j f h) t)))
        (λ _. e.lane j h l));
  }
