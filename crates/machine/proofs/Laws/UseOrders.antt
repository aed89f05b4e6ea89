-- Where a line goes in a use order, place by place: each turn of the loops carries it over one place. Assumes nothing.
use Prim.Native.Nat.{ℕ, zero, suc, ◌+◌, ◌-◌, ◌<◌, ◌≤◌}
use native.Mathlib.Omega.{arith}
use mathlib.Core.Logic.{◌⊎◌, inl, inr, ◌≢◌}
use mathlib.Core.Path.{◌≡◌, refl, ap, sym, subst, ◌∙◌}
use mathlib.Core.Bool.{false}
use mathlib.Core.List.{List}
use lib.ListN.{length}
use borrow.Author.Tests.{eq-eqb, ne_eqb}
use Rattle.words.specs.declared.LineNo.{LineNo}
use Rattle.words.specs.Operations.{is_load}
use Rattle.words.specs.Folds.{up_to, down_to}
use Rattle.words.proofs.Folds.{up_to_keeps}
use Rattle.queues.specs.Messages.{DownMessage}
use Rattle.lanes.specs.declared.Operation.{Operation}
use Rattle.lanes.specs.UseOrder.{Insertion, Newest, LoadsOldest, place_at, carry_of, used_of, oldest_of}
use Rattle.machine.specs.Machine.Corruption.{bad_order}
use Rattle.machine.specs.Machine.Begin.{complete_with, hit}
use Rattle.machine.specs.Machine.Deliver.{fill_at}
use Rattle.machine.specs.Claims.UseOrders.{BecomesOldest, BecomesNewest, MadeNewest, UseOrders, line_named}
use Rattle.machine.proofs.Laws.Orders.{swapped, first, second, other, swapped_place, swapped_length, carry_length}
use Rattle.machine.proofs.Bounds.Sound.{order_sound}
use Rattle.machine.proofs.Laws.Sets.{same?}
use Rattle.std.specs.Prelude.{Some}

-- of the places up to n, j alone names line i
pub record NamedOnce (n j : ℕ) (i : LineNo) (o : List LineNo) : Type 0 where
  pub here : (place_at o j).0 ≡ i.0
  pub apart : (k : ℕ) → k ≤ n → k ≢ j → (place_at o k).0 ≢ i.0

-- a turn that looks at place j: it names line i, or it does not
carries : (i : LineNo) (j k : ℕ) (o : List LineNo) → (place_at o j).0 ≡ i.0 → carry_of i j k o ≡ swapped k o
carries i j k o e = rw (eq-eqb _ _ e)

passes : (i : LineNo) (j k : ℕ) (o : List LineNo) → (place_at o j).0 ≢ i.0 → carry_of i j k o ≡ o
passes i j k o n = rw (ne_eqb _ _ n)

-- where two neighbours have changed over: the other places, and these two
module _ (o : List LineNo) (n : ℕ) (l : n + 1 < length o) where
  stays : (k : ℕ) → k ≢ n → k ≢ n + 1 → place_at (swapped n o) k ≡ place_at o k
  stays k p q = swapped_place o n k l ∙ ap (place_at o) (other n k p q)

  at_first : place_at (swapped n o) n ≡ place_at o (n + 1)
  at_first = swapped_place o n n l ∙ ap (place_at o) (first n)

  at_second : place_at (swapped n o) (n + 1) ≡ place_at o n
  at_second = swapped_place o n (n + 1) l ∙ ap (place_at o) (second n)

  -- the line at place n + 1 is carried to n, and from there on
  carried_once : (i : LineNo) → NamedOnce (n + 1) (n + 1) i o → NamedOnce n n i (swapped n o)
  carried_once i a =
      record {
        here = ap (λ (x : LineNo). x.0) at_first ∙ a.here;
        apart = λ k p q e. a.apart k (omega arith) (λ d. omega arith) (ap (λ (x : LineNo). x.0) (sym (stays k q (λ d. omega arith))) ∙ e);
      }

  carried_oldest : (r : List LineNo) → BecomesOldest n (swapped n o) r → BecomesOldest (n + 1) o r
  carried_oldest r b = record { oldest = b.oldest ∙ at_first; older = older; others = λ k p. b.others k (omega arith) ∙ stays k (λ d. omega arith) (λ d. omega arith) }
    where
      older : (k : ℕ) → k < n + 1 → place_at r (k + 1) ≡ place_at o k
      older k p = go (same? k n)
        where
          go : (k ≡ n) ⊎ (k ≢ n) → place_at r (k + 1) ≡ place_at o k
          go (inl e) = rw e (b.others (n + 1) (omega arith) ∙ at_second)
          go (inr d) = b.older k (omega (arith, d)) ∙ stays k d (λ e. omega arith)

-- the loop that goes down
down : (n j : ℕ) (i : LineNo) (o : List LineNo) → j ≤ n → n < length o → NamedOnce n j i o → BecomesOldest j o (down_to (λ k. carry_of i (k + 1) k) n o)
unfolding down_to
down zero j i o h l a =
    let e : 0 ≡ j = omega arith in
    record { oldest = ap (place_at o) e; older = λ k p. absurd (omega arith); others = λ k p. refl }
down (suc n) j i o h l a = go (same? j (n + 1)) (λ b. down n n i (swapped n o) b) (λ b. down n j i o b)
  where
    r : List LineNo
    r = down_to (λ k. carry_of i (k + 1) k) n (carry_of i (n + 1) n o)

    go : (j ≡ n + 1) ⊎ (j ≢ n + 1) → (n ≤ n → n < length (swapped n o) → NamedOnce n n i (swapped n o) → BecomesOldest n (swapped n o) (down_to (λ k. carry_of i (k + 1) k) n (swapped n o))) →
        (j ≤ n → n < length o → NamedOnce n j i o → BecomesOldest j o (down_to (λ k. carry_of i (k + 1) k) n o)) → BecomesOldest j o r
    go (inl e) moved stayed =
        let long : n + 1 < length o = omega arith in
        let b : NamedOnce (n + 1) (n + 1) i o = record { here = ap (λ (k : ℕ). (place_at o k).0) (sym e) ∙ a.here; apart = λ k p q. a.apart k (omega arith) (λ d. q (d ∙ e)) } in
        let m = moved (omega arith) (rw (swapped_length n o) (omega arith)) (carried_once o n long i b) in
        rw (e, carries i (n + 1) n o b.here) (carried_oldest o n long _ m)
    go (inr d) moved stayed =
        rw (passes i (n + 1) n o (a.apart (n + 1) (omega arith) (λ q. d (sym q))))
        (stayed (omega (arith, d)) (omega arith) (record { here = a.here; apart = λ k p. a.apart k (omega arith) }))

-- the loop that goes up: it has not come to the line
up_none : (n : ℕ) (i : LineNo) (o : List LineNo) → ((k : ℕ) → k < n → (place_at o k).0 ≢ i.0) → up_to (λ k. carry_of i k k) n o ≡ o
unfolding up_to
up_none zero i o a = refl
up_none (suc n) i o a =
    let e = up_none n i o (λ k p. a k (omega arith)) in
    ap (carry_of i n n) e ∙ passes i n n o (a n (omega arith))

up_length : (n : ℕ) (i : LineNo) (o : List LineNo) → length (up_to (λ k. carry_of i k k) n o) ≡ length o
up_length n i o = up_to_keeps (λ (r : List LineNo). length r ≡ length o) (λ k. carry_of i k k) n o (λ k r _ e. carry_length k k i r ∙ e) refl

-- .. or carries it over one place more
carried_newest : (n j : ℕ) (o r : List LineNo) → j ≤ n → n + 1 < length r → BecomesNewest (n + 1) j o r → BecomesNewest (n + 1 + 1) j o (swapped n r)
carried_newest n j o r h l b =
    let e : n + 1 + 1 - 1 ≡ n + 1 = omega arith in
    let d : n ≡ n + 1 - 1 = omega arith in
    record {
      newest = ap (place_at (swapped n r)) e ∙ at_second r n l ∙ ap (place_at r) d ∙ b.newest;
      newer = newer;
      older = λ k p. stays r n l k (λ d. omega arith) (λ d. omega arith) ∙ b.older k p;
      past = λ k p. stays r n l k (λ d. omega arith) (λ d. omega arith) ∙ b.past k (omega arith);
    }
  where
    newer : (k : ℕ) → j ≤ k → k + 1 < n + 1 + 1 → place_at (swapped n r) k ≡ place_at o (k + 1)
    newer k p q = go (same? k n)
      where
        go : (k ≡ n) ⊎ (k ≢ n) → place_at (swapped n r) k ≡ place_at o (k + 1)
        go (inl e) = rw e (at_first r n l ∙ b.past (n + 1) (omega arith))
        go (inr d) = stays r n l k d (λ e. omega arith) ∙ b.newer k p (omega (arith, d))

up : (n j : ℕ) (i : LineNo) (o : List LineNo) → j ≤ n → n < length o → NamedOnce n j i o → BecomesNewest (n + 1) j o (up_to (λ k. carry_of i k k) n o)
unfolding up_to
up zero j i o h l a =
    let e : 0 ≡ j = omega arith in
    record { newest = ap (place_at o) e; newer = λ k p q. absurd (omega arith); older = λ k p. refl; past = λ k p. refl }
up (suc n) j i o h l a = go (same? j (n + 1)) (λ b. up n j i o b)
  where
    p : List LineNo
    p = up_to (λ k. carry_of i k k) n o

    go : (j ≡ n + 1) ⊎ (j ≢ n + 1) → (j ≤ n → n < length o → NamedOnce n j i o → BecomesNewest (n + 1) j o p) → BecomesNewest (suc n + 1) j o (carry_of i n n p)
    go (inl e) moved =
        let none = up_none n i o (λ k q. a.apart k (omega arith) (λ d. omega arith)) in
        let same : carry_of i n n p ≡ o = ap (carry_of i n n) none ∙ passes i n n o (a.apart n (omega arith) (λ d. omega arith)) in
        let last : suc n + 1 - 1 ≡ j = omega arith in
        rw same
        (record { newest = ap (place_at o) last; newer = λ k x y. absurd (omega arith); older = λ k x. refl; past = λ k x. refl })
    go (inr d) moved =
        let b = moved (omega (arith, d)) (omega arith) (record { here = a.here; apart = λ k q. a.apart k (omega arith) }) in
        let e : n ≡ n + 1 - 1 = omega arith in
        let here : (place_at p n).0 ≡ i.0 = ap (λ (x : LineNo). x.0) (ap (place_at p) e ∙ b.newest) ∙ a.here in
        let long : n + 1 < length p = rw (up_length n i o) (omega arith) in
        let z : n + 1 ≡ suc n = omega arith in
        rw (carries i n n p here) (subst (λ (m : ℕ). BecomesNewest (m + 1) j o (swapped n p)) z (carried_newest n j o p (omega (arith, d)) long b))

-- of a use order that 14 passes, one place alone names each line
order_once : (c j : ℕ) (o : List LineNo) → j < c → bad_order c o ≡ false → NamedOnce (c - 1) j (place_at o j) o
order_once c j o h e =
    let g = order_sound c o e in
    record { here = refl; apart = λ k p d q. d (g.once k j (omega arith) h q) }

fills_oldest : (c j : ℕ) (o : List LineNo) → j < c → c ≤ length o → bad_order c o ≡ false → BecomesOldest j o (oldest_of c (place_at o j) o)
fills_oldest c j o h l e = down (c - 1) j (place_at o j) o (omega arith) (omega arith) (order_once c j o h e)

uses_newest : (c j : ℕ) (o : List LineNo) → j < c → c ≤ length o → bad_order c o ≡ false → BecomesNewest c j o (used_of c (place_at o j) o)
uses_newest c j o h l e =
    let d : c - 1 + 1 ≡ c = omega arith in
    subst (λ (n : ℕ). BecomesNewest n j o (used_of c (place_at o j) o)) d (up (c - 1) j (place_at o j) o (omega arith) (omega arith) (order_once c j o h e))

-- the lane's parts
pub use_orders : UseOrders
unfolding hit complete_with
use_orders c j l h n e =
    let u = uses_newest c j l.order h n e in
    record {
      by_hit = λ op w a. rw a u;
      by_bare_grant = λ o. u;
      filled_for_load = λ x o a. rw a (fills_oldest c j l.order h n e);
      as_before_w3 = λ x o. u;
      filled_for_other = other_fill u;
    }
  where
    other_fill : BecomesNewest c j l.order (used_of c (place_at l.order j) l.order) → (ins : Insertion) (x : DownMessage) (o : Operation) → is_load o.op ≡ false →
        MadeNewest c j l (fill_at ins (Some (line_named l j)) c x o l)
    other_fill u Newest x o a = u
    other_fill u LoadsOldest x o a = rw a u
