-- What a lane is after a message was sent to some lanes: lane j alone tells. Assumes nothing.
use Prim.Native.Nat.{ℕ, zero, suc, ◌<◌, ◌≤◌}
use mathlib.Core.Logic.{◌⊎◌, inl, inr, ◌≢◌}
use mathlib.Core.Path.{◌≡◌, refl, ◌∙◌}
use mathlib.Core.Bool.{Bool, true, false, cond}
use mathlib.Core.List.{List}
use lib.ListN.{length, get_or, set, length-set}
use lib.Seq.{get_or-set_same, get_or-set_other}
use native.Mathlib.Omega.{arith}
use Rattle.words.specs.Folds.{up_to}
use Rattle.words.proofs.Folds.{by_cond}
use Rattle.queues.specs.Messages.{DownMessage}
use Rattle.lanes.specs.declared.Lane.{Lane}
use Rattle.store.specs.Stores.{no_lane}
use Rattle.store.specs.LaneSets.{goes_to}
use Rattle.machine.specs.Machine.Change.{posted, post_to, post_all}
use Rattle.machine.proofs.Laws.Sets.{same?}

module _ (places : ℕ) (to : List Bool) (x : DownMessage) where
  post_length : (i : ℕ) (ls : List Lane) → length (post_to places to x i ls) ≡ length ls
  unfolding post_to
  post_length i ls = by_cond (λ (r : List Lane). length r ≡ length ls) (goes_to to i) _ _ (length-set ls i _) refl

  post_other : (i j : ℕ) (ls : List Lane) → j ≢ i → get_or (post_to places to x i ls) j no_lane ≡ get_or ls j no_lane
  unfolding post_to
  post_other i j ls n =
      by_cond (λ (r : List Lane). get_or r j no_lane ≡ get_or ls j no_lane) (goes_to to i) _ _ (get_or-set_other ls i j _ no_lane n) refl

  -- what lane j becomes
  abbrev after : ℕ → List Lane → Lane
  after j ls = cond (goes_to to j) (posted places x (get_or ls j no_lane)) (get_or ls j no_lane)

  post_here : (j : ℕ) (ls : List Lane) → j < length ls → get_or (post_to places to x j ls) j no_lane ≡ after j ls
  unfolding post_to
  post_here j ls h = go (goes_to to j)
    where
      go : (b : Bool) → get_or (cond b (set ls j (posted places x (get_or ls j no_lane))) ls) j no_lane ≡ cond b (posted places x (get_or ls j no_lane)) (get_or ls j no_lane)
      go true = get_or-set_same ls j _ no_lane h
      go false = refl

  posts_length : (t : ℕ) (ls : List Lane) → length (up_to (post_to places to x) t ls) ≡ length ls
  unfolding up_to
  posts_length zero ls = refl
  posts_length (suc t) ls = post_length t (up_to (post_to places to x) t ls) ∙ posts_length t ls

  -- before its turn, and after it
  pub posts_before : (t j : ℕ) (ls : List Lane) → t ≤ j → get_or (up_to (post_to places to x) t ls) j no_lane ≡ get_or ls j no_lane
  unfolding up_to
  posts_before zero j ls h = refl
  posts_before (suc t) j ls h = post_other t j (up_to (post_to places to x) t ls) (λ e. omega arith) ∙ posts_before t j ls (omega arith)

  posts_after : (t j : ℕ) (ls : List Lane) → j < t → j < length ls → get_or (up_to (post_to places to x) t ls) j no_lane ≡ after j ls
  unfolding up_to
  posts_after zero j ls h l = absurd (omega arith)
  posts_after (suc t) j ls h l = go (same? j t) (λ m. posts_after t j ls m l)
    where
      go : (j ≡ t) ⊎ (j ≢ t) → (j < t → get_or (up_to (post_to places to x) t ls) j no_lane ≡ after j ls) → get_or (post_to places to x t (up_to (post_to places to x) t ls)) j no_lane ≡ after j ls
      go (inl e) r =
          let q = posts_length t ls in
          let d = posts_before t t ls (omega arith) in
          rw (e, post_here t (up_to (post_to places to x) t ls) (omega arith), d)
      go (inr n) r = post_other t j (up_to (post_to places to x) t ls) n ∙ r (omega (arith, n))

  -- lane j after all posts
  pub post_all_at : (j : ℕ) (ls : List Lane) → j < 8 → j < length ls → get_or (post_all places to x ls) j no_lane ≡ cond (goes_to to j) (posted places x (get_or ls j no_lane)) (get_or ls j no_lane)
  unfolding post_all
  post_all_at j ls h l = posts_after 8 j ls h l

  pub post_all_length : (ls : List Lane) → length (post_all places to x ls) ≡ length ls
  unfolding post_all
  post_all_length ls = posts_length 8 ls
