-- A message joins the same queues, or leaves them: they are the same after it. Assumes nothing.
use Prim.Native.Nat.{ℕ, zero, suc, ◌+◌, ◌-◌, ◌<◌, ◌≤◌}
use native.Mathlib.Omega.{arith}
use native.Mathlib.Numerals.{add-one}
use mathlib.Core.Path.{◌≡◌, refl, sym, ap, ◌∙◌}
use mathlib.Core.List.{List, [], ◌∷◌, ◌++◌}
use lib.ListN.{length, get_or, drop, length-set}
use lib.Seq.{take-suc-set, get_or-take}
use Rattle.queues.specs.Queues.{messages, joined, shifted}
use Rattle.queues.proofs.Shifts.{length_shifted, take_shifted}
use Rattle.machine_w5.specs.Same.{SameQueue}

module _ {A : Type 0} where
  -- the messages after one joined
  push_messages : (len : ℕ) (at : List A) (x : A) → len < length at → messages (len + 1) (joined len at x) ≡ messages len at ++ (x ∷ [])
  push_messages len at x h = rw add-one (take-suc-set at len x h)

  pub push_same : (f : ℕ) (fs : List A) (n : ℕ) (ns : List A) (x : A) → SameQueue f fs n ns → f < 2 → SameQueue (f + 1) (joined f fs x) (n + 1) (joined n ns x)
  push_same f fs n ns x e h = record {
    lens = ap (λ (k : ℕ). k + 1) e.lens;
    short = omega arith;
    contents = push_messages f fs x (omega arith) ∙ ap (λ (r : List A). r ++ (x ∷ [])) e.contents ∙ sym (push_messages n ns x (omega arith));
    former_places = length-set fs f x ∙ e.former_places;
    places = length-set ns n x ∙ e.places;
  }

  -- the messages after the head left
  take_messages : (len : ℕ) (at : List A) → (len ≡ 0 → ⊥) → len ≤ length at → messages (len - 1) (shifted at) ≡ drop 1 (messages len at)
  take_messages zero at n h = absurd (n refl)
  take_messages (suc len) at n h = let e : suc len - 1 ≡ len = omega arith in rw e (take_shifted len at h)

  pub take_same : (f : ℕ) (fs : List A) (n : ℕ) (ns : List A) → SameQueue f fs n ns → (f ≡ 0 → ⊥) → SameQueue (f - 1) (shifted fs) (n - 1) (shifted ns)
  take_same f fs n ns e h = record {
    lens = ap (λ (k : ℕ). k - 1) e.lens;
    short = omega arith;
    contents = take_messages f fs h (omega arith) ∙ ap (λ (r : List A). drop 1 r) e.contents ∙ sym (take_messages n ns (λ z. h (e.lens ∙ z)) (omega arith));
    former_places = length_shifted fs ∙ e.former_places;
    places = length_shifted ns ∙ e.places;
  }

  -- the message at a place
  pub at_same : (f : ℕ) (fs : List A) (n : ℕ) (ns : List A) (d : A) (i : ℕ) → SameQueue f fs n ns → i < f → get_or fs i d ≡ get_or ns i d
  at_same f fs n ns d i e h = sym (get_or-take f fs i d h) ∙ ap (λ (r : List A). get_or r i d) e.contents ∙ get_or-take n ns i d (omega arith)
