-- Search, and the lowest-numbered line that is not valid, in a lane whose valid lines have different blocks; and Search after one line
-- has changed. Assumes nothing.
use Prim.Native.Nat.{ℕ, zero, suc, ◌+◌, ◌<◌, ◌≤◌}
use mathlib.Core.Logic.{◌⊎◌, inl, inr, ◌≢◌}
use mathlib.Core.Path.{◌≡◌, refl, ap, sym, ◌∙◌}
use mathlib.Core.Bool.{Bool, true, false, not, cond}
use mathlib.Core.List.{List}
use lib.ListN.{length, get_or, set}
use lib.Seq.{get_or-set_same, get_or-set_other}
use borrow.Author.Tests.{not-true}
use native.Mathlib.Omega.{arith}
use Rattle.words.specs.declared.LineNo.{LineNo}
use Rattle.words.specs.declared.BlockNo.{BlockNo}
use Rattle.words.specs.declared.Line.{Line}
use Rattle.words.specs.Lines.{no_line, holds_of}
use Rattle.lanes.specs.declared.Lane.{Lane}
use Rattle.lanes.specs.Search.{line_at, first_from, search_of, vacant_of}
use Rattle.lanes.proofs.Firsts.{first_bound, first_passes}
use Rattle.machine.proofs.Laws.Tests.{on}
use Rattle.machine.proofs.Laws.Lines.{holds_valid, valid_holds}
use Rattle.machine.proofs.Laws.Sets.{same?}
use Rattle.machine.proofs.Bounds.KeepsLane.{clash}
use Rattle.machine.proofs.Bounds.KeepsDeliver.{found_below}
use Rattle.machine.proofs.Bounds.KeepsBegin.{first_nothing}
use Rattle.machine.proofs.Protocol.BlockState.{Shared, Modified, status_at, words_at}
use Rattle.std.specs.Prelude.{Option, Some, None}

-- the valid lines of a lane of c lines have different blocks
abbrev pub Unique : ℕ → Lane → Type 0
Unique c l =
    (i j : ℕ) → i < c → j < c → (get_or l.lines i no_line).valid ≡ true → (get_or l.lines j no_line).valid ≡ true →
    (get_or l.lines i no_line).block.0 ≡ (get_or l.lines j no_line).block.0 → i ≡ j

-- a block's number is all of it
pub same_block : (a b : BlockNo) → a.0 ≡ b.0 → a ≡ b
same_block a b e = λ i. record { 0 = e i }

-- no line passes the test
first_none_of : (p : Line → Bool) (ls : List Line) (n k : ℕ) → ((j : ℕ) → k ≤ j → j < k + n → p (get_or ls j no_line) ≡ false) → first_from p ls n k ≡ None
unfolding first_from
first_none_of p ls zero k h = refl
first_none_of p ls (suc n) k h = rw (h k (omega arith) (omega arith)) (first_none_of p ls n (k + 1) (λ j a b. h j (omega arith) (omega arith)))

-- line j is the first that passes the test
first_is : (p : Line → Bool) (ls : List Line) (n k j : ℕ) → k ≤ j → j < k + n → p (get_or ls j no_line) ≡ true →
    ((i : ℕ) → i < j → p (get_or ls i no_line) ≡ false) → first_from p ls n k ≡ Some (record { 0 = j })
unfolding first_from
first_is p ls zero k j a b t h = absurd (omega arith)
first_is p ls (suc n) k j a b t h = go (same? j k) (λ r. first_is p ls n (k + 1) j r (omega arith) t h)
  where
    go : (j ≡ k) ⊎ (j ≢ k) → (k + 1 ≤ j → first_from p ls n (k + 1) ≡ Some (record { 0 = j })) → first_from p ls (suc n) k ≡ Some (record { 0 = j })
    go (inl e) ih = rw (e, rw e at t)
    go (inr m) ih = rw (h k (omega (arith, m))) (ih (omega (arith, m)))

module _ (c : ℕ) (l : Lane) where
  -- the line found is one of the c lines, and holds the block
  pub found_holds : (a : BlockNo) (i : LineNo) → search_of l c a ≡ Some i → (i.0 < c) × (holds_of (line_at l i) a ≡ true)
  found_holds a i e = (found_below l c a i e, first_passes (λ (x : Line). holds_of x a) l.lines c 0 i e)

  -- where none is found no line holds the block
  pub none_holds : (a : BlockNo) → search_of l c a ≡ None → (j : ℕ) → j < c → holds_of (get_or l.lines j no_line) a ≡ false
  none_holds a e j h = first_nothing (λ (x : Line). holds_of x a) l.lines c 0 e j (omega arith) (omega arith)

  -- .. and the other way round
  pub search_none : (a : BlockNo) → ((j : ℕ) → j < c → holds_of (get_or l.lines j no_line) a ≡ false) → search_of l c a ≡ None
  search_none a h = first_none_of (λ (x : Line). holds_of x a) l.lines c 0 (λ j _ b. h j (omega arith))

  -- a line that holds the block is the one found
  pub search_at : Unique c l → (a : BlockNo) (j : ℕ) → j < c → holds_of (get_or l.lines j no_line) a ≡ true → search_of l c a ≡ Some (record { 0 = j })
  search_at u a j h t = first_is (λ (x : Line). holds_of x a) l.lines c 0 j (omega arith) (omega arith) t before
    where
      before : (i : ℕ) → i < j → holds_of (get_or l.lines i no_line) a ≡ false
      before i b = on (holds_of (get_or l.lines i no_line) a) other (λ q. q)
        where
          other : holds_of (get_or l.lines i no_line) a ≡ true → holds_of (get_or l.lines i no_line) a ≡ false
          other q =
              let x = holds_valid (get_or l.lines i no_line) a q in
              let y = holds_valid (get_or l.lines j no_line) a t in
              let e = u i j (omega arith) h x.0 y.0 (x.1 ∙ sym y.1) in
              absurd (omega arith)

  -- the vacant line is one of the c lines, and is not valid
  pub vacant_invalid : (i : LineNo) → vacant_of l c ≡ Some i → (i.0 < c) × ((line_at l i).valid ≡ false)
  vacant_invalid i e =
      let b = first_bound (λ (x : Line). not x.valid) l.lines c 0 i e in
      (omega arith, not-true (line_at l i).valid (first_passes (λ (x : Line). not x.valid) l.lines c 0 i e))

-- l' is l with y at line i
pub record Changed (i : LineNo) (y : Line) (l l' : Lane) : Type 0 where
  pub here : line_at l' i ≡ y
  pub there : (j : ℕ) → j ≢ i.0 → get_or l'.lines j no_line ≡ get_or l.lines j no_line

-- .. as it is after a set
pub set_changed : (i : LineNo) (y : Line) (l l' : Lane) → l'.lines ≡ set l.lines i.0 y → i.0 < length l.lines → Changed i y l l'
set_changed i y l l' e h =
    record {
      here = ap (λ (ls : List Line). get_or ls i.0 no_line) e ∙ get_or-set_same l.lines i.0 y no_line h;
      there = λ j n. ap (λ (ls : List Line). get_or ls j no_line) e ∙ get_or-set_other l.lines i.0 j y no_line n;
    }

-- no other valid line has the block of y
abbrev pub Alone : ℕ → LineNo → Line → Lane → Type 0
Alone c i y l = (j : ℕ) → j < c → j ≢ i.0 → (get_or l.lines j no_line).valid ≡ true → (get_or l.lines j no_line).block.0 ≢ y.block.0

-- .. where line i was valid with the same block
pub replace_alone : (c : ℕ) (i : LineNo) (y : Line) (l : Lane) → Unique c l → i.0 < c → (line_at l i).valid ≡ true → (line_at l i).block.0 ≡ y.block.0 → Alone c i y l
replace_alone c i y l u h v e j b n w q = n (u j i.0 b h w v (q ∙ sym e))

-- .. where the block was not found
pub fill_alone : (c : ℕ) (i : LineNo) (y : Line) (l : Lane) → search_of l c y.block ≡ None → Alone c i y l
fill_alone c i y l e j b n w q =
    let f = none_holds c l y.block e j b in
    let t = valid_holds (get_or l.lines j no_line) y.block w q in
    clash (cc)

-- the line of block a is as before
pub record SameLine (c : ℕ) (a : BlockNo) (l l' : Lane) : Type 0 where
  pub line : status_at (search_of l' c a) l'.lines ≡ status_at (search_of l c a) l.lines
  pub words : words_at (search_of l' c a) l'.lines ≡ words_at (search_of l c a) l.lines

module _ (c : ℕ) (i : LineNo) (y : Line) (l l' : Lane) (x : Changed i y l l') where
  -- the valid lines still have different blocks
  pub unique_changed : Unique c l → (y.valid ≡ true → Alone c i y l) → Unique c l'
  unique_changed u alone j k hj hk vj vk e = go (same? j i.0) (same? k i.0)
    where
      go : (j ≡ i.0) ⊎ (j ≢ i.0) → (k ≡ i.0) ⊎ (k ≢ i.0) → j ≡ k
      go (inl p) (inl q) = p ∙ sym q
      go (inl p) (inr q) =
          let r = ap (λ (n : ℕ). get_or l'.lines n no_line) p ∙ x.here in
          let s = x.there k q in
          absurd (alone (cc) k hk q (cc) (cc))
      go (inr p) (inl q) =
          let r = ap (λ (n : ℕ). get_or l'.lines n no_line) q ∙ x.here in
          let s = x.there j p in
          absurd (alone (cc) j hj p (cc) (cc))
      go (inr p) (inr q) =
          let r = x.there j p in
          let s = x.there k q in
          u j k hj hk (cc) (cc) (cc)

  -- the block of a valid y is found at line i
  pub changed_found : Unique c l' → i.0 < c → (a : BlockNo) → holds_of y a ≡ true → search_of l' c a ≡ Some i
  changed_found u h a t = search_at c l' u a i.0 h (rw x.here t)

  -- a block that only line i had, and y does not hold, is not found
  pub changed_gone : (a : BlockNo) → Unique c l → i.0 < c → holds_of (line_at l i) a ≡ true → holds_of y a ≡ false → search_of l' c a ≡ None
  changed_gone a u h t f = search_none c l' a (λ j b. go j b (same? j i.0))
    where
      go : (j : ℕ) → j < c → (j ≡ i.0) ⊎ (j ≢ i.0) → holds_of (get_or l'.lines j no_line) a ≡ false
      go j b (inl e) = rw (e, x.here) f
      go j b (inr n) = rw (x.there j n) (on (holds_of (get_or l.lines j no_line) a) (other j b n) (λ q. q))
        where
          other : (j : ℕ) → j < c → j ≢ i.0 → holds_of (get_or l.lines j no_line) a ≡ true → holds_of (get_or l.lines j no_line) a ≡ false
          other j b n q =
              let p = holds_valid (get_or l.lines j no_line) a q in
              let r = holds_valid (line_at l i) a t in
              absurd (n (u j i.0 b h p.0 r.0 (p.1 ∙ sym r.1)))

  -- a block that neither the line nor y holds is as before
  pub changed_other : (a : BlockNo) → Unique c l' → holds_of (line_at l i) a ≡ false → holds_of y a ≡ false → SameLine c a l l'
  changed_other a u s t = go (search_of l c a) refl
    where
      go : (f : Option LineNo) → search_of l c a ≡ f → SameLine c a l l'
      go (Some j) e = record { line = rw (e, e') (ap (λ (z : Line). cond z.private Modified Shared) q); words = rw (e, e') (ap (λ (z : Line). z.words) q) }
        where
          p : (j.0 < c) × (holds_of (line_at l j) a ≡ true)
          p = found_holds c l a j e

          n : j.0 ≢ i.0
          n r = let z = p.1 in let z' = ap (λ (k : ℕ). holds_of (get_or l.lines k no_line) a) r in clash (cc)

          q : line_at l' j ≡ line_at l j
          q = x.there j.0 n

          e' : search_of l' c a ≡ Some j
          e' = search_at c l' u a j.0 p.0 (rw q p.1)
      go None e = record { line = rw (e, e'); words = rw (e, e') }
        where
          each : (j : ℕ) → j < c → (j ≡ i.0) ⊎ (j ≢ i.0) → holds_of (get_or l'.lines j no_line) a ≡ false
          each j b (inl r) = rw (r, x.here) t
          each j b (inr n) = rw (x.there j n) (none_holds c l a e j b)

          e' : search_of l' c a ≡ None
          e' = search_none c l' a (λ j b. each j b (same? j i.0))
