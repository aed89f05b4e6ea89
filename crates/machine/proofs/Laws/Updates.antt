-- Laws of `upd`: what is read after a function got another value in one place. Assumes nothing.
use Prim.Native.Nat.{ℕ}
use mathlib.Core.Logic.{◌⊎◌, inl, inr, ◌≢◌}
use mathlib.Core.Path.{◌≡◌, refl, fun_ext}
use borrow.Author.Tests.{eq-eqb, ne_eqb}
use Rattle.machine.proofs.Laws.Sets.{same?}
use Rattle.machine.proofs.List.Owes.{upd}

-- in that place
pub upd_same : {A : Type 0} (f : ℕ → A) (k : ℕ) (x : A) → upd f k x k ≡ x
upd_same f k x = rw (eq-eqb k k refl)

-- elsewhere
pub upd_other : {A : Type 0} (f : ℕ → A) (k : ℕ) (x : A) (j : ℕ) → j ≢ k → upd f k x j ≡ f j
upd_other f k x j n = rw (ne_eqb j k n)

-- what holds of the new value, and elsewhere of the old ones, holds everywhere
pub upd_cases : {A : Type 0} (P : ℕ → A → Type 0) (f : ℕ → A) (k : ℕ) (x : A) → P k x → ((j : ℕ) → j ≢ k → P j (f j)) → (j : ℕ) → P j (upd f k x j)
upd_cases P f k x new old j = go (same? j k)
  where
    go : (j ≡ k) ⊎ (j ≢ k) → P j (upd f k x j)
    go (inl e) = rw (e, eq-eqb k k refl) new
    go (inr n) = rw (ne_eqb j k n) (old j n)

-- what is there already, put there
pub upd_self : {A : Type 0} (f : ℕ → A) (k : ℕ) → upd f k (f k) ≡ f
upd_self f k = fun_ext (upd_cases (λ j x. x ≡ f j) f k (f k) refl (λ j n. refl))
