-- What memory's moves on a block share: the conjuncts of one lane together, a move that puts another view of one lane, another lane,
-- block and service, and lanes that owe nothing. Assumes nothing.
use Prim.Native.Nat.{ℕ, ◌+◌, ◌<◌, ◌≤◌}
use mathlib.Core.Logic.{◌⊎◌, inl, inr, ◌≢◌}
use mathlib.Core.Path.{◌≡◌, refl, sym, ap, ◌∙◌}
use mathlib.Core.Bool.{true, false, cond}
use mathlib.Core.List.{List, [], ◌∷◌, ◌++◌}
use borrow.Author.Tests.{eq-eqb, ne_eqb}
use native.Mathlib.Omega.{arith}
use Rattle.words.specs.Folds.{sum_to}
use Rattle.words.proofs.Folds.{below?}
use Rattle.queues.specs.Messages.{DownMessage}
use Rattle.store.specs.declared.Block.{Block}
use Rattle.store.specs.Control.{awaited_of}
use Rattle.machine.specs.Machine.Settle.{is_order}
use Rattle.machine.proofs.Laws.Sets.{same?}
use Rattle.machine.proofs.Laws.Sums.{sum_change, sum_zero}
use Rattle.machine.proofs.List.Owes.{upd}
use Rattle.machine.proofs.Protocol.BlockState.{Status, Invalid, Modified, dirty, Seen, BlockState}
use Rattle.machine.proofs.Protocol.Invariant.{Chain, grant_count, serving, served_count, WaitFits, is_grant, DownsBear, Bears, answer_count, order_count, owed, ServedWell, Directory, Inv}
use Rattle.machine.proofs.Protocol.Moves.{post_seen}
use Rattle.machine.proofs.Laws.Updates.{upd_same, upd_other}
use Rattle.std.specs.Prelude.{Option}
use Rattle.store.specs.declared.Service.{Service}

-- the conjuncts of lane k alone
pub record LaneFits (v : Status) (x : Option Service) (f : List ℕ) (k : ℕ) (l : Seen) : Type 0 where
  pub chain : Chain v l
  pub grant : grant_count l.downs + serving x k ≡ served_count l.waiting
  pub wait : WaitFits l.line l.waiting
  pub bears : Bears f l

pub lane_fits : (v : ℕ → Status) (b : BlockState) (f : List ℕ) → Inv v b f → (k : ℕ) → LaneFits (v k) b.service f k (b.lane k)
lane_fits v b f i k = record { chain = i.chain k; grant = i.grant k; wait = i.wait k; bears = i.bears k }

-- .. under another service that is as little or as much the lane's
pub other_service : (v : Status) (x y : Option Service) (f : List ℕ) (k : ℕ) (l : Seen) → serving y k ≡ serving x k → LaneFits v x f k l → LaneFits v y f k l
other_service v x y f k l e h = record { chain = h.chain; grant = rw e h.grant; wait = h.wait; bears = h.bears }

-- what another view y of lane k, lane l, block c and service x owe
pub record PutFits (v : ℕ → Status) (b : BlockState) (f : List ℕ) (k : ℕ) (y : Status) (l : Seen) (c : Block) (x : Option Service) : Type 0 where
  pub directory : Directory (upd v k y) c
  pub here : LaneFits y x f k l
  pub others : (j : ℕ) → j ≢ k → serving x j ≡ serving b.service j
  pub alone : y ≡ Modified → (j : ℕ) → j ≢ k → v j ≡ Invalid
  pub gone : (j : ℕ) → j ≢ k → v j ≡ Modified → y ≡ Invalid
  pub main : ((j : ℕ) → dirty (upd v k y j) ≡ false) → c.words ≡ f
  pub count : awaited_of x + owed (b.lane k) ≡ awaited_of b.service + owed l
  pub service : ServedWell (upd v k y) (upd b.lane k l) x

-- every lane's conjuncts after it
put_lanes : (v : ℕ → Status) (b : BlockState) (f : List ℕ) (k : ℕ) (y : Status) (l : Seen) (c : Block) (x : Option Service) → Inv v b f →
    PutFits v b f k y l c x → (j : ℕ) → LaneFits (upd v k y j) x f j (upd b.lane k l j)
put_lanes v b f k y l c x i p j = go (same? j k)
  where
    go : (j ≡ k) ⊎ (j ≢ k) → LaneFits (upd v k y j) x f j (upd b.lane k l j)
    go (inl e) = rw (e, eq-eqb k k refl) p.here
    go (inr n) = rw (ne_eqb j k n) (other_service (v j) b.service x f j (b.lane j) (p.others j n) (lane_fits v b f i j))

-- SOLE after it
put_sole : (v : ℕ → Status) (k : ℕ) (y : Status) → ((i j : ℕ) → v i ≡ Modified → j ≢ i → v j ≡ Invalid) →
    (y ≡ Modified → (j : ℕ) → j ≢ k → v j ≡ Invalid) → ((j : ℕ) → j ≢ k → v j ≡ Modified → y ≡ Invalid) →
    (i j : ℕ) → upd v k y i ≡ Modified → j ≢ i → upd v k y j ≡ Invalid
put_sole v k y sole alone gone i j e n = go (same? i k) (same? j k)
  where
    go : (i ≡ k) ⊎ (i ≢ k) → (j ≡ k) ⊎ (j ≢ k) → upd v k y j ≡ Invalid
    go (inl p) (inl q) = absurd (n (q ∙ sym p))
    go (inl p) (inr q) = upd_other v k y j q ∙ alone (sym (upd_same v k y) ∙ ap (upd v k y) (sym p) ∙ e) j q
    go (inr p) (inl q) = ap (upd v k y) q ∙ upd_same v k y ∙ gone i p (sym (upd_other v k y i p) ∙ e)
    go (inr p) (inr q) = upd_other v k y j q ∙ sole i j (sym (upd_other v k y i p) ∙ e) n

-- COUNT after it
put_count : (b : BlockState) (k : ℕ) (l : Seen) (x : Option Service) → k < 8 → sum_to (λ j. owed (b.lane j)) 8 ≡ awaited_of b.service →
    awaited_of x + owed (b.lane k) ≡ awaited_of b.service + owed l → sum_to (λ j. owed (upd b.lane k l j)) 8 ≡ awaited_of x
put_count b k l x h c e =
    let s = sum_change (λ j. owed (b.lane j)) (λ j. owed (upd b.lane k l j)) 8 k h (λ j n. ap owed (upd_other b.lane k l j n)) in
    let z = ap owed (upd_same b.lane k l) in
    omega arith

-- it keeps the invariant
pub put_keeps : (v : ℕ → Status) (b : BlockState) (f : List ℕ) (k : ℕ) (y : Status) (l : Seen) (c : Block) (x : Option Service) → Inv v b f → k < 8 →
    PutFits v b f k y l c x → Inv (upd v k y) (record { lane = upd b.lane k l; block = c; service = x }) f
put_keeps v b f k y l c x i h p =
    record {
      directory = p.directory;
      chain = λ j. (put_lanes v b f k y l c x i p j).chain;
      grant = λ j. (put_lanes v b f k y l c x i p j).grant;
      wait = λ j. (put_lanes v b f k y l c x i p j).wait;
      sole = put_sole v k y i.sole p.alone p.gone;
      bears = λ j. (put_lanes v b f k y l c x i p j).bears;
      main = p.main;
      count = put_count b k l x h i.count p.count;
      far = λ j g. ap owed (upd_other b.lane k l j (λ e. omega arith)) ∙ i.far j g;
      service = p.service;
    }

-- where no answer is awaited no lane owes anything
pub nothing_owed : (v : ℕ → Status) (b : BlockState) (f : List ℕ) → Inv v b f → awaited_of b.service ≡ 0 → (j : ℕ) → owed (b.lane j) ≡ 0
nothing_owed v b f i z j = go (below? j 8)
  where
    go : (j < 8) ⊎ (8 ≤ j) → owed (b.lane j) ≡ 0
    go (inl h) = sum_zero (λ k. owed (b.lane k)) 8 (i.count ∙ z) j h
    go (inr h) = i.far j h

pub no_answers : (l : Seen) → owed l ≡ 0 → answer_count l.returns ≡ 0
unfolding owed
no_answers l e = omega arith

pub no_orders : (l : Seen) → owed l ≡ 0 → order_count l.downs ≡ 0
unfolding owed
no_orders l e = omega arith

-- what a message that joins the down queue adds: to the orders, to the grants, to what is owed
orders_join : (q : List DownMessage) (m : DownMessage) → order_count (q ++ (m ∷ [])) ≡ order_count q + cond (is_order m.kind) 1 0
orders_join [] m = omega arith
orders_join (n ∷ q) m = let h = orders_join q m in omega arith

pub grants_join : (q : List DownMessage) (m : DownMessage) → grant_count (q ++ (m ∷ [])) ≡ grant_count q + cond (is_order m.kind) 0 1
grants_join [] m = omega arith
grants_join (n ∷ q) m = let h = grants_join q m in omega arith

pub post_owed : (m : DownMessage) (l : Seen) → owed (post_seen m l) ≡ owed l + cond (is_order m.kind) 1 0
unfolding owed
post_owed m l = let h = orders_join l.downs m in omega arith

-- .. and the words borne
pub post_bears : (f : List ℕ) (m : DownMessage) (l : Seen) → Bears f l → (is_grant m.kind ≡ true → m.words ≡ f) → Bears f (post_seen m l)
post_bears f m l h w = record { line = h.line; returns = h.returns; downs = go l.downs h.downs }
  where
    go : (q : List DownMessage) → DownsBear f q → DownsBear f (q ++ (m ∷ []))
    go [] b = (w, tt)
    go (n ∷ q) b = (b.0, go q b.1)
