-- A queue as the list of its messages: what joins it stands last, and what leaves it stood first. Assumes nothing.
use Prim.Native.Nat.{ℕ, zero, suc, ◌+◌, ◌-◌, ◌<◌, ◌≤◌}
use mathlib.Core.Logic.{◌≢◌}
use mathlib.Core.Path.{◌≡◌, refl, sym, ap}
use mathlib.Core.Bool.{Bool, true, false, cond}
use mathlib.Core.List.{List, [], ◌∷◌, ◌++◌}
use lib.ListN.{length, get_or, set, take}
use borrow.Author.Tests.{lt-leb, ne_eqb}
use native.Mathlib.Omega.{arith}
use native.Mathlib.Numerals.{add-one}
use Rattle.queues.specs.Messages.{ReturnMessage}
use Rattle.queues.specs.Queues.{ReturnQueue}
use Rattle.queues.specs.Messages.{DownMessage}
use Rattle.queues.specs.Queues.{DownQueue}
use Rattle.queues.specs.Queues.{capacity, messages, joined, shifted, no_return, no_down, head_return, head_down, after_push, after_take}
use Rattle.queues.proofs.Shifts.{take_shifted}
use Rattle.machine.proofs.Protocol.BlockState.{keep_if}

module _ {A : Type 0} where
  -- the first places and one more, which was set
  take_set : (len : ℕ) (xs : List A) (x : A) → len < length xs → take (suc len) (set xs len x) ≡ take len xs ++ (x ∷ [])
  take_set len [] x h = absurd (omega arith)
  take_set zero (y ∷ ys) x h = refl
  take_set (suc len) (y ∷ ys) x h = ap {B = List A} (λ r. y ∷ r) (take_set len ys x (omega arith))

  -- a message joins a queue
  pub push_messages : (len : ℕ) (xs : List A) (x : A) → length xs ≡ capacity → len < capacity → messages (len + 1) (joined len xs x) ≡ messages len xs ++ (x ∷ [])
  push_messages len xs x e h = rw add-one (take_set len xs x (omega arith))

  -- the head leaves a queue
  pub take_messages : (none : A) (len : ℕ) (xs : List A) → length xs ≡ capacity → len ≢ 0 → len ≤ capacity → messages len xs ≡ get_or xs 0 none ∷ messages (len - 1) (shifted xs)
  take_messages none zero xs e n h = absurd (n refl)
  take_messages none (suc len) [] e n h = absurd (omega arith)
  take_messages none (suc len) (x ∷ xs) e n h = let q : suc len - 1 ≡ len = omega arith in rw q (ap (λ (r : List A). x ∷ r) (sym (take_shifted len (x ∷ xs) (omega arith))))

  -- the messages kept of a list that one joined
  pub keep_join : (p : A → Bool) (xs : List A) (x : A) → keep_if p (xs ++ (x ∷ [])) ≡ cond (p x) (keep_if p xs ++ (x ∷ [])) (keep_if p xs)
  keep_join p [] x = go (p x)
    where
      go : (b : Bool) → cond b (x ∷ []) [] ≡ cond b ([] ++ (x ∷ [])) []
      go true = refl
      go false = refl
  keep_join p (y ∷ ys) x = go (p y) (p x) (keep_join p ys x)
    where
      go : (a b : Bool) → keep_if p (ys ++ (x ∷ [])) ≡ cond b (keep_if p ys ++ (x ∷ [])) (keep_if p ys) →
          cond a (y ∷ keep_if p (ys ++ (x ∷ []))) (keep_if p (ys ++ (x ∷ []))) ≡ cond b (cond a (y ∷ keep_if p ys) (keep_if p ys) ++ (x ∷ [])) (cond a (y ∷ keep_if p ys) (keep_if p ys))
      go true true h = rw h
      go true false h = rw h
      go false true h = rw h
      go false false h = rw h

  -- the messages kept of a list that has a head, by whether the head is kept
  pub keep_head : (p : A → Bool) (x : A) (xs : List A) → p x ≡ true → keep_if p (x ∷ xs) ≡ x ∷ keep_if p xs
  keep_head p x xs e = rw e

  pub keep_tail : (p : A → Bool) (x : A) (xs : List A) → p x ≡ false → keep_if p (x ∷ xs) ≡ keep_if p xs
  keep_tail p x xs e = rw e

-- the messages of a return queue, and of a down queue, head first
abbrev pub queued_returns : ReturnQueue → List ReturnMessage
queued_returns q = messages q.len q.at

abbrev pub queued_downs : DownQueue → List DownMessage
queued_downs q = messages q.len q.at

-- the two queues when a message joins them or the head leaves them
pub push_returns : (q : ReturnQueue) (x : ReturnMessage) → length q.at ≡ capacity → q.len < capacity → queued_returns (after_push capacity q x) ≡ queued_returns q ++ (x ∷ [])
push_returns q x e h = rw (lt-leb capacity q.len h) (push_messages q.len q.at x e h)

pub push_downs : (q : DownQueue) (x : DownMessage) → length q.at ≡ capacity → q.len < capacity → queued_downs (after_push capacity q x) ≡ queued_downs q ++ (x ∷ [])
push_downs q x e h = rw (lt-leb capacity q.len h) (push_messages q.len q.at x e h)

pub take_returns : (q : ReturnQueue) → length q.at ≡ capacity → q.len ≢ 0 → q.len ≤ capacity → queued_returns q ≡ head_return q ∷ queued_returns (after_take q)
take_returns q e n h = rw (ne_eqb q.len 0 n) (take_messages no_return q.len q.at e n h)

pub take_downs : (q : DownQueue) → length q.at ≡ capacity → q.len ≢ 0 → q.len ≤ capacity → queued_downs q ≡ head_down q ∷ queued_downs (after_take q)
take_downs q e n h = rw (ne_eqb q.len 0 n) (take_messages no_down q.len q.at e n h)
