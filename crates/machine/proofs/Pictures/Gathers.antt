-- Laws of gathering: what stands in a gathered list, and what is made of it. Assumes nothing.
use Prim.Native.Nat.{ℕ, zero, suc, ◌<◌}
use native.Mathlib.Omega.{arith}
use mathlib.Core.Logic.{⊎_elim}
use mathlib.Core.Path.{◌≡◌, refl, sym, ◌∙◌}
use mathlib.Core.List.Memᴰ
use mathlib.Core.List.{List, [], ◌∷◌, ◌++◌, append_assoc, flat_map, Memᴰ}
use Rattle.words.specs.Folds.{gather_to}

-- one part of a gathered list has it
pub record Part {A : Type 0} (f : ℕ → List A) (n : ℕ) (x : A) : Type 0 where
  pub index : ℕ
  pub below : index < n
  pub found : Memᴰ x (f index)

pub gather_part : {A : Type 0} (f : ℕ → List A) (n : ℕ) {x : A} → Memᴰ x (gather_to f n) → Part f n x
unfolding gather_to
gather_part f zero m = absurd (Memᴰ.not-nil m)
gather_part f (suc n) m = ⊎_elim (λ h. let p = gather_part f n h in let b = p.below in record { index = p.index; below = omega arith; found = p.found })
    (λ h. record { index = n; below = omega arith; found = h }) (Memᴰ.append_cases (gather_to f n) m)

-- equal parts gather to the same
pub gather_same : {A : Type 0} (f g : ℕ → List A) (n : ℕ) → ((j : ℕ) → f j ≡ g j) → gather_to f n ≡ gather_to g n
unfolding gather_to
gather_same f g zero e = refl
gather_same f g (suc n) e = rw (gather_same f g n e, e n)

flat_append : {A B : Type 0} (f : A → List B) (xs ys : List A) → flat_map f (xs ++ ys) ≡ flat_map f xs ++ flat_map f ys
unfolding flat_map
flat_append f [] ys = refl
flat_append f (x ∷ xs) ys = rw (flat_append f xs ys) (sym (append_assoc (f x) (flat_map f xs) (flat_map f ys)))

-- what each element makes, part by part
pub gather_flat : {A B : Type 0} (f : A → List B) (g : ℕ → List A) (n : ℕ) → flat_map f (gather_to g n) ≡ gather_to (λ j. flat_map f (g j)) n
unfolding gather_to flat_map
gather_flat f g zero = refl
gather_flat f g (suc n) = flat_append f (gather_to g n) (g n) ∙ rw (gather_flat f g n)
