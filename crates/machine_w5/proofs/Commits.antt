-- A lane's part and memory's part of a call put back into the same stores: the same, or 12 before W6, and today a queue of three messages. Assumes
-- nothing.
use Prim.Native.Nat.{ℕ, ◌<◌, ◌≤◌}
use native.Mathlib.Omega.{arith}
use mathlib.Core.Logic.{◌⊎◌, inl, inr, ◌≢◌}
use mathlib.Core.Path.{◌≡◌, refl, sym, ap, ◌∙◌, subst}
use mathlib.Core.List.{List}
use lib.ListN.{get_or, set, length-set}
use lib.Seq.{get_or-set_same, get_or-set_other}
use borrow.Author.Tests.{leb-true}
use Rattle.words.specs.declared.Shape.{Shape}
use Rattle.words.specs.declared.LaneNo.{LaneNo}
use Rattle.words.specs.declared.BlockNo.{BlockNo}
use Rattle.words.proofs.Folds.{same?}
use Rattle.queues.specs.Messages.{DownMessage}
use Rattle.lanes.specs.declared.Lane.{Lane}
use Rattle.answers.specs.declared.Answer.{Answer}
use Rattle.answers.specs.declared.Refusal.{Refusal}
use Rattle.answers.specs.declared.Refusal.TheVariants.{QueueFull}
use Rattle.answers.specs.Refusals.{refused_of}
use Rattle.store.specs.declared.Store.{Store}
use Rattle.store.specs.declared.Block.{Block}
use Rattle.store.specs.declared.Control.{Control}
use Rattle.store.specs.declared.Outcome.{Outcome}
use Rattle.store.specs.LaneSets.{LaneSet}
use Rattle.store.specs.Stores.{no_lane, lane_at}
use Rattle.machine.specs.Machine.Parts.{LaneStep}
use Rattle.machine.specs.Machine.Parts.{Move}
use Rattle.machine.specs.Machine.Change.{refuse, refused_in, counted, answer_to, commit_lane, some_full, commit_move}
use Rattle.machine.proofs.Laws.Tests.{on}
use Rattle.machine_w5.specs.Control as FormerControl
use Rattle.machine_w5.specs.Stores as Former
use Rattle.machine_w5.specs.Change as FormerChange
use Rattle.machine_w5.specs.Same.{SameLane, SameLanes, SameControl, Same}
use Rattle.machine_w5.proofs.Pairs.{both}
use Rattle.machine_w5.proofs.Lanes.{Step}
use Rattle.machine_w5.proofs.Corruption.{former_with, store_with, parts_same}
use Rattle.machine_w5.proofs.Inside.{Inside}
use Rattle.machine_w5.proofs.Posts.{none_full, full_long, post_same}
use Rattle.std.specs.Prelude.{Result, Err}

-- equal answers, and the same stores
pub record SameOutcome (r : Former.Outcome) (q : Outcome) : Type 0 where
  pub answer : r.answer ≡ q.answer
  pub store : Same r.store q.store

-- a store with L = 1 and a queue of three messages
pub record Long (s : Store) : Type 0 where
  pub limit : s.shape.limit ≡ 1
  pub lane : ℕ
  pub long : (3 ≤ (lane_at s lane).returns.len) ⊎ (3 ≤ (lane_at s lane).downs.len)

-- 12 before W6, where today a queue gets a third message
pub record FullOutcome (r : Former.Outcome) (q : Outcome) : Type 0 where
  pub full : r.answer ≡ Err QueueFull
  pub long : Long q.store

abbrev pub SameResult : Former.Outcome → Outcome → Type 0
SameResult r q = FullOutcome r q ⊎ SameOutcome r q

-- a refusal
pub refuse_same : (t : Former.Store) (s : Store) (r : Refusal) → Same t s → SameResult (FormerChange.refuse r t) (refuse r s)
refuse_same t s r e = inr (record { answer = refl; store = e })

-- one lane is put back
set_same : (n : ℕ) (ps ls : List Lane) (k : ℕ) (p l : Lane) → SameLanes n ps ls → SameLane p l → SameLanes n (set ps k p) (set ls k l)
set_same n ps ls k p l e f = record {
  former_lanes = length-set ps k p ∙ e.former_lanes;
  lanes = length-set ls k l ∙ e.lanes;
  lane = λ j h b. go j h b (same? j k);
}
  where
    go : (j : ℕ) → j < 8 → j < n → (j ≡ k) ⊎ (j ≢ k) → SameLane (get_or (set ps k p) j no_lane) (get_or (set ls k l) j no_lane)
    go j h b (inl q) = rw (q, get_or-set_same ps k p no_lane (omega (arith, e.former_lanes)), get_or-set_same ls k l no_lane (omega (arith, e.lanes))) f
    go j h b (inr m) = rw (get_or-set_other ps k j p no_lane m, get_or-set_other ls k j l no_lane m) (e.lane j h b)

-- memory's parts that are put back the same
pub record SameMove (r : FormerChange.Move) (q : Move) : Type 0 where
  pub answer : r.answer ≡ q.answer
  pub lane : SameLane r.lane q.lane
  pub block : r.block ≡ q.block
  pub control : SameControl r.control q.control
  pub to : r.to ≡ q.to
  pub message : r.message ≡ q.message

-- memory's part before W6, by its parts
abbrev former_move : Result Answer Refusal → Lane → Block → FormerControl.Control → LaneSet → DownMessage → FormerChange.Move
former_move x l b y to m = record { answer = x; lane = l; block = b; control = y; to = to; message = m }

module _ (shape : Shape) (x : FormerControl.Control) (y : Control) (done : ℕ) (ps ls : List Lane) (bs : List Block) (one : shape.limit ≡ 1) (ec : SameControl x y) (el : SameLanes shape.n ps ls) where
  abbrev t : Former.Store
  t = former_with shape x done ps bs

  abbrev s : Store
  s = store_with shape y done ls bs

  same : Same t s
  same = parts_same shape x y done ps ls bs one ec el

  pub commit_lane_lem : (k : LaneNo) (r q : LaneStep) → k.0 < 8 → Step r q → SameResult (FormerChange.commit_lane t k r) (commit_lane s k q)
  unfolding FormerChange.commit_lane commit_lane
  commit_lane_lem k r q h (inl f) =
      let z = get_or-set_same ls k.0 q.lane no_lane (omega (arith, el.lanes)) in
      inl (record {
        full = ap (λ a. answer_to k (counted a done) a) f.full;
        long = rw f.goes (record { limit = one; lane = k.0; long = inl (rw z f.long) });
      })
  commit_lane_lem k r q h (inr f) =
      inr (record {
        answer = ap (λ a. answer_to k (counted a done) a) f.answer;
        store = both Same (refused_in r.answer) (refused_in q.answer) (ap refused_in f.answer) (λ _. same)
            (λ _. record { shape = refl; limit = one; control = ec; completions = ap (λ a. counted a done) f.answer; lanes = set_same shape.n ps ls k.0 r.lane q.lane el f.lane; blocks = refl });
      })

  move_parts : (k : LaneNo) (a : BlockNo) (r : FormerControl.Control) (p : Lane) (q : Move) → SameLane p q.lane → SameControl r q.control → Inside shape.n q.to →
      SameResult (FormerChange.commit_move t k a (former_move q.answer p q.block r q.to q.message)) (commit_move s k a q)
  unfolding FormerChange.commit_move commit_move
  move_parts k a r p q f g i =
      let ms = set_same shape.n ps ls k.0 p q.lane el f in
      both SameResult (refused_of q.answer) (refused_of q.answer) refl (λ _. inr (record { answer = refl; store = same }))
      (λ _. rw (none_full shape.n q.to q.message _ _ ms i)
      (on (some_full Former.capacity q.to (set ps k.0 p))
      (λ full. let z = full_long shape.n q.to q.message _ _ ms i full in
      rw full (inl (record { full = refl; long = record { limit = one; lane = z.at; long = inr (leb-true 3 _ z.passes) } })))
      (λ room. rw room (inr (record {
        answer = refl;
        store = record {
          shape = refl;
          limit = one;
          control = g;
          completions = refl;
          lanes = post_same shape.n q.to q.message _ _ ms i room;
          blocks = refl;
        };
      })))))

  pub commit_move_lem : (k : LaneNo) (a : BlockNo) (r : FormerChange.Move) (q : Move) → SameMove r q → Inside shape.n q.to → SameResult (FormerChange.commit_move t k a r) (commit_move s k a q)
  commit_move_lem k a r q e i =
      let z : former_move q.answer r.lane q.block r.control q.to q.message ≡ r =
      sym (λ i. former_move (e.answer i) r.lane (e.block i) r.control (e.to i) (e.message i)) in
      subst (λ (m : FormerChange.Move). SameResult (FormerChange.commit_move t k a m) (commit_move s k a q)) z (move_parts k a r.control r.lane q e.lane e.control i)
