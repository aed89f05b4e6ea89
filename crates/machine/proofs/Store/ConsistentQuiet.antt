-- A consistent store that is quiet: no lane waits, it shows flat memory's words, and the four properties of the flags hold.
-- Assumes nothing.
use Prim.Native.Nat.{ℕ, zero, suc, ◌<◌, ◌≤◌}
use mathlib.Core.Logic.{◌⊎◌, inl, inr, ◌≢◌}
use mathlib.Core.Path.{◌≡◌, refl, sym, ap, ◌∙◌}
use mathlib.Core.Bool.{Bool, true, false, cond}
use mathlib.Core.List.{List, []}
use lib.Dec.{ltb}
use lib.ListN.{length, get_or-eq_default}
use borrow.Author.Tests.{ltb-true}
use native.Mathlib.Omega.{arith}
use native.Mathlib.Nat.{eq-or-lt_of_le}
use Rattle.words.specs.Lines.{holds_of}
use Rattle.words.specs.Folds.{up_to, any_to}
use Rattle.words.proofs.Folds.{below?, any_true, any_never, pick}
use Rattle.lanes.specs.Search.{search_of}
use Rattle.store.specs.declared.Store.{Store}
use Rattle.store.specs.Stores.{lane_at, block_at}
use Rattle.store.specs.Quiet.{quiet_of}
use Rattle.machine.specs.Claims.Flat.{flat_block}
use Rattle.machine.specs.Claims.Flags.{line_in, present_in, has_copy, owns, shown_of, Flags}
use Rattle.machine.proofs.Laws.Tests.{on, and_both}
use Rattle.machine.proofs.Laws.Sets.{same?}
use Rattle.machine.proofs.Bounds.Sound.{sound}
use Rattle.machine.proofs.Bounds.KeepsLane.{clash}
use Rattle.machine.proofs.List.Owes.{Rests}
use Rattle.machine.proofs.Protocol.BlockState.{Status, Invalid, Shared, Modified, held, dirty, status_at, words_at, seen, block_no, project}
use Rattle.machine.proofs.Protocol.Invariant.{Inv, view_of}
use Rattle.machine.proofs.Protocol.BlockQuiet.{quiet_view}
use Rattle.machine.proofs.Laws.Lines.{holds_valid, valid_holds}
use Rattle.machine.proofs.Projection.Searches.{found_holds, search_at}
use Rattle.machine.proofs.Projection.SeenBegin.{held_line}
use Rattle.machine.proofs.Store.Consistent.{Consistent, pending_in}
use Rattle.machine.proofs.Rules.RulesQuiet.{lane_still}
use Rattle.std.specs.Prelude.{Option, Some, None}
use Rattle.words.specs.declared.LineNo.{LineNo}

-- a loop keeps what each turn keeps
loop_keeps : {A : Type 0} (P : A → Type 0) (g : ℕ → A → A) (n : ℕ) (a : A) → ((k : ℕ) → k < n → (x : A) → P x → P (g k x)) → P a → P (up_to g n a)
unfolding up_to
loop_keeps P g zero a e p = p
loop_keeps P g (suc n) a e p = e n (omega arith) (up_to g n a) (loop_keeps P g n a (λ k h. e k (omega arith)) p)

-- .. and has at its end what one turn gives
loop_gives : {A : Type 0} (P : A → Type 0) (g : ℕ → A → A) (n : ℕ) (a : A) (t : ℕ) → t < n → ((x : A) → P (g t x)) → ((k : ℕ) → k < n → (x : A) → P x → P (g k x)) → P (up_to g n a)
unfolding up_to
loop_gives P g zero a t h o e = absurd (omega arith)
loop_gives P g (suc n) a t h o e =
    let l : t ≤ n = omega arith in go (eq-or-lt_of_le l) (λ q. loop_gives P g n a t q o (λ k b. e k (omega arith)))
  where
    go : (t ≡ n) ⊎ (t < n) → (t < n → P (up_to g n a)) → P (g n (up_to g n a))
    go (inl q) r = rw (← q) (o (up_to g t a))
    go (inr q) r = e n (omega arith) (up_to g n a) (r q)

module _ (s : Store) (f : List ℕ) (i : Consistent s f) (quiet : quiet_of s ≡ true) where
  -- no lane waits
  pub quiet_rests : (k : ℕ) → pending_in s k ≡ Rests
  unfolding pending_in
  quiet_rests k = on (ltb k s.shape.n) (λ e. rw (e, (lane_still s quiet k (ltb-true _ _ e)).waits)) (λ e. rw e)

  -- a view that is not Invalid has PRESENT set, which lanes alone have
  flag_below : (a k : ℕ) → a < s.shape.m → present_in s a k ≡ true → k < s.shape.n
  flag_below a k h e = go (below? k s.shape.n) (below? k 8)
    where
      go : (k < s.shape.n) ⊎ (s.shape.n ≤ k) → (k < 8) ⊎ (8 ≤ k) → k < s.shape.n
      go (inl l) r = l
      go (inr l) (inl r) = let z = ((sound s i.sound).block a h).absent k l r in clash (cc)
      go (inr l) (inr r) =
          let b = (sound s i.sound).m_high in
          let q = i.sized.present a (omega arith) in
          let p : length (block_at s a).present ≤ k = omega arith in
          let z : present_in s a k ≡ false = get_or-eq_default (block_at s a).present false p in
          clash (cc)

  module _ (a : ℕ) (below : a < s.shape.m) where
    abbrev v : ℕ → Status
    v = (i.block a below).0

    inv : Inv v (project s a) (flat_block f a)
    inv = (i.block a below).1

    -- what lane k has of the block
    abbrev status : ℕ → Status
    status k = status_at (search_of (lane_at s k) s.shape.c (block_no a)) (lane_at s k).lines

    line_is : (k : ℕ) → (seen s.shape.c (block_no a) (lane_at s k)).line ≡ status k
    unfolding seen
    line_is k = refl

    no_returns : (k : ℕ) → k < s.shape.n → (seen s.shape.c (block_no a) (lane_at s k)).returns ≡ []
    unfolding seen
    no_returns k h = rw (lane_still s quiet k h).returns

    no_downs : (k : ℕ) → k < s.shape.n → (seen s.shape.c (block_no a) (lane_at s k)).downs ≡ []
    unfolding seen
    no_downs k h = rw (lane_still s quiet k h).downs

    -- memory's view is the line, and what the flags say
    view_line : (k : ℕ) → k < s.shape.n → v k ≡ status k
    view_line k h = quiet_view v (project s a) (flat_block f a) inv k (no_returns k h) (no_downs k h) ∙ line_is k

    view_flags : (k : ℕ) → v k ≡ view_of (block_at s a) k
    view_flags k = inv.directory.view k

    -- a copy that is held is found, and a copy that is found is held
    held_copy : (k : ℕ) → held (status k) ≡ true → has_copy s k a ≡ true
    held_copy k e = go (search_of (lane_at s k) s.shape.c (block_no a)) refl
      where
        go : (r : Option LineNo) → search_of (lane_at s k) s.shape.c (block_no a) ≡ r → has_copy s k a ≡ true
        go (Some j) q = let p = found_holds s.shape.c (lane_at s k) (block_no a) j q in any_true (λ t. holds_of (line_in s k t) (block_no a)) s.shape.c j.0 p.1 p.0
        go None q = let z : false ≡ true = rw q at e in clash (cc)

    invalid_copy : (k : ℕ) → status k ≡ Invalid → has_copy s k a ≡ false
    invalid_copy k e = any_never (λ t. holds_of (line_in s k t) (block_no a)) s.shape.c (λ t h. on (holds_of (line_in s k t) (block_no a)) (λ q. clash (cc (found t h q))) (λ q. q))
      where
        found : (t : ℕ) → t < s.shape.c → holds_of (line_in s k t) (block_no a) ≡ true → held Invalid ≡ true
        found t h q = sym (ap held e) ∙ ap held (ap (λ (r : Option LineNo). status_at r (lane_at s k).lines) (search_at s.shape.c (lane_at s k) (i.unique k) (block_no a) t h q)) ∙ held_line (line_in s k t).private

    -- a line that holds the block is the one found, with its status
    line_status : (k t : ℕ) → t < s.shape.c → holds_of (line_in s k t) (block_no a) ≡ true → status k ≡ cond (line_in s k t).private Modified Shared
    line_status k t h q = ap (λ (r : Option LineNo). status_at r (lane_at s k).lines) (search_at s.shape.c (lane_at s k) (i.unique k) (block_no a) t h q)

    words_are : (k : ℕ) → (seen s.shape.c (block_no a) (lane_at s k)).words ≡ words_at (search_of (lane_at s k) s.shape.c (block_no a)) (lane_at s k).lines
    unfolding seen
    words_are k = refl

    -- .. and its words are flat memory's
    line_words : (k t : ℕ) → t < s.shape.c → holds_of (line_in s k t) (block_no a) ≡ true → (line_in s k t).words ≡ flat_block f a
    line_words k t h q =
        let e = search_at s.shape.c (lane_at s k) (i.unique k) (block_no a) t h q in
        sym (words_are k ∙ ap (λ (r : Option LineNo). words_at r (lane_at s k).lines) e) ∙ (inv.bears k).line (ap held (line_is k ∙ line_status k t h q) ∙ held_line (line_in s k t).private)

    -- 1
    present_copy : (k : ℕ) → k < s.shape.n → present_in s a k ≡ true → has_copy s k a ≡ true
    present_copy k h e = held_copy k (sym (ap held (view_line k h)) ∙ ap held (view_flags k) ∙ rw e (held_line (block_at s a).modified))

    -- a dirty view has PRESENT and MODIFIED set
    dirty_flags : (k : ℕ) → v k ≡ Modified → (present_in s a k ≡ true) × ((block_at s a).modified ≡ true)
    dirty_flags k e = go (present_in s a k) refl (block_at s a).modified refl
      where
        d : view_of (block_at s a) k ≡ Modified
        d = sym (view_flags k) ∙ e

        go : (p : Bool) → present_in s a k ≡ p → (m : Bool) → (block_at s a).modified ≡ m → (present_in s a k ≡ true) × ((block_at s a).modified ≡ true)
        go true p true m = (p, m)
        go true p false m = clash (cc (ap dirty (rw (p, m) at d)))
        go false p m q = clash (cc (ap dirty (rw p at d)))

    -- a dirty line is an owner
    dirty_owns : (k : ℕ) → status k ≡ Modified → (t : ℕ) × (t < s.shape.c) × (owns s k t a ≡ true)
    dirty_owns k e = go (search_of (lane_at s k) s.shape.c (block_no a)) refl
      where
        go : (r : Option LineNo) → search_of (lane_at s k) s.shape.c (block_no a) ≡ r → (t : ℕ) × (t < s.shape.c) × (owns s k t a ≡ true)
        go None q = clash (cc (ap dirty (rw q at e)))
        go (Some j) q =
            let p = found_holds s.shape.c (lane_at s k) (block_no a) j q in
            (j.0, p.0, rw p.1 (private (line_in s k j.0).private refl))
          where
            private : (b : Bool) → (line_in s k j.0).private ≡ b → (line_in s k j.0).private ≡ true
            private true x = x
            private false x = clash (cc (ap dirty (rw (q, x) at e)))

    -- an owner is dirty, and memory knows it
    owner_view : (k t : ℕ) → k < s.shape.n → t < s.shape.c → owns s k t a ≡ true → v k ≡ Modified
    owner_view k t h l e =
        let p = and_both (holds_of (line_in s k t) (block_no a)) (line_in s k t).private e in
        view_line k h ∙ line_status k t l p.0 ∙ rw p.1

    -- some lane has the block PRIVATE
    some_owner : (block_at s a).modified ≡ true → (k : ℕ) × (k < s.shape.n) × ((t : ℕ) × (t < s.shape.c) × (owns s k t a ≡ true))
    some_owner e =
        let p = inv.directory.some e in
        let h = flag_below a p.0 below (dirty_flags p.0 p.1).0 in
        (p.0, h, dirty_owns p.0 (sym (view_line p.0 h) ∙ p.1))

    -- 2
    modified_owner : (block_at s a).modified ≡ true → any_to (λ k. any_to (λ t. owns s k t a) s.shape.c) s.shape.n ≡ true
    modified_owner e =
        let p = some_owner e in
        any_true (λ k. any_to (λ t. owns s k t a) s.shape.c) s.shape.n p.0 (any_true (λ t. owns s p.0 t a) s.shape.c p.2.0 p.2.2 p.2.1) p.1

    -- 3
    owner_alone : (k t : ℕ) → k < s.shape.n → t < s.shape.c → owns s k t a ≡ true →
        (present_in s a k ≡ true) × ((j : ℕ) → j < s.shape.n → j ≢ k → (has_copy s j a ≡ false) × (present_in s a j ≡ false))
    owner_alone k t h l e = ((dirty_flags k mine).0, λ j g n. (invalid_copy j (sym (view_line j g) ∙ inv.sole k j mine n), absent j (inv.sole k j mine n) (present_in s a j) refl))
      where
        mine : v k ≡ Modified
        mine = owner_view k t h l e

        absent : (j : ℕ) → v j ≡ Invalid → (p : Bool) → present_in s a j ≡ p → present_in s a j ≡ false
        absent j x true p =
            let d : view_of (block_at s a) j ≡ Invalid = sym (view_flags j) ∙ x in
            let e : held (view_of (block_at s a) j) ≡ true = rw p (held_line (block_at s a).modified) in
            let q : held (view_of (block_at s a) j) ≡ false = ap held d in
            clash (cc (e, q))
        absent j x false p = p

    -- nobody is dirty where some lane has a clean copy, or where MODIFIED is reset
    clean_main : ((k : ℕ) → v k ≡ Modified → ⊥) → (block_at s a).words ≡ flat_block f a
    clean_main none = inv.main (λ k. clean (v k) (none k))
      where
        clean : (x : Status) → (x ≡ Modified → ⊥) → dirty x ≡ false
        clean Invalid n = refl
        clean Shared n = refl
        clean Modified n = absurd (n refl)

    -- 4
    shared_words : (k t : ℕ) → k < s.shape.n → t < s.shape.c → holds_of (line_in s k t) (block_no a) ≡ true → (line_in s k t).private ≡ false → (line_in s k t).words ≡ (block_at s a).words
    shared_words k t h l e p = line_words k t l e ∙ sym (clean_main other)
      where
        mine : v k ≡ Shared
        mine = view_line k h ∙ line_status k t l e ∙ rw p

        other : (j : ℕ) → v j ≡ Modified → ⊥
        other j x = go (same? j k)
          where
            go : (j ≡ k) ⊎ (j ≢ k) → ⊥
            go (inl q) = clash (cc (ap dirty (sym mine ∙ ap v (sym q) ∙ x)))
            go (inr n) = clash (cc (ap held (sym mine ∙ inv.sole j k x (λ q. n (sym q)))))

    -- an owner's words are flat memory's
    owner_words : (k t : ℕ) → t < s.shape.c → owns s k t a ≡ true → (line_in s k t).words ≡ flat_block f a
    owner_words k t l e = line_words k t l (and_both (holds_of (line_in s k t) (block_no a)) (line_in s k t).private e).0

    -- what the store shows
    abbrev shown : ℕ → List ℕ → List ℕ
    shown k ws = up_to (λ t xs. cond (owns s k t a) (line_in s k t).words xs) s.shape.c ws

    turn_keeps : (k t : ℕ) → t < s.shape.c → (xs : List ℕ) → xs ≡ flat_block f a → cond (owns s k t a) (line_in s k t).words xs ≡ flat_block f a
    turn_keeps k t h xs e = pick (λ (ws : List ℕ). ws ≡ flat_block f a) (owns s k t a) _ _ (owner_words k t h) (λ _. e)

    shown_keeps : (k : ℕ) → k < s.shape.n → (ws : List ℕ) → ws ≡ flat_block f a → shown k ws ≡ flat_block f a
    shown_keeps k h ws e = loop_keeps (λ (xs : List ℕ). xs ≡ flat_block f a) (λ t xs. cond (owns s k t a) (line_in s k t).words xs) s.shape.c ws (turn_keeps k) e

    shows_words : shown_of s a ≡ flat_block f a
    unfolding shown_of
    shows_words =
        on (block_at s a).modified
        (λ e.
        let p = some_owner e in
        loop_gives (λ (xs : List ℕ). xs ≡ flat_block f a) shown s.shape.n (block_at s a).words p.0 p.1
        (λ ws. loop_gives (λ (xs : List ℕ). xs ≡ flat_block f a) (λ t xs. cond (owns s p.0 t a) (line_in s p.0 t).words xs) s.shape.c ws p.2.0 p.2.1
        (λ xs. rw p.2.2 (owner_words p.0 p.2.0 p.2.1 p.2.2)) (turn_keeps p.0))
        shown_keeps)
        (λ e. loop_keeps (λ (xs : List ℕ). xs ≡ flat_block f a) shown s.shape.n (block_at s a).words shown_keeps (clean_main (λ k x. clash (cc (dirty_flags k x).1))))

  -- a valid line's block is one of the store's
  valid_below : (k t : ℕ) → k < s.shape.n → t < s.shape.c → (line_in s k t).valid ≡ true → (line_in s k t).block.0 < s.shape.m
  valid_below k t h l e = ((sound s i.sound).lane k h).lines t l e

  -- the store shows flat memory's words
  pub quiet_shows : (a : ℕ) → a < s.shape.m → shown_of s a ≡ flat_block f a
  quiet_shows a h = shows_words a h

  -- the four properties
  pub quiet_flags : Flags s
  quiet_flags =
      record {
        present = λ a k h l e. present_copy a h k l e;
        modified = λ a h e. modified_owner a h e;
        private = λ a k t h l e.
            let p = holds_valid (line_in s k t) (block_no a) (and_both (holds_of (line_in s k t) (block_no a)) (line_in s k t).private e).0 in
            let q = valid_below k t h l p.0 in
            let r = p.1 in
            owner_alone a (omega arith) k t h l e;
        shared = λ k t h l e p.
            shared_words (line_in s k t).block.0 (valid_below k t h l e) k t h l (valid_holds (line_in s k t) (line_in s k t).block e refl) p;
      }
