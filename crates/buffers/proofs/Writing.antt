-- Laws of writes into a lent buffer. Assumes nothing.
use Prim.Native.Nat.{ℕ, ◌+◌, ◌-◌, ◌≤◌}
use native.Mathlib.Omega.{arith}
use mathlib.Core.Path.{◌≡◌, sym, ◌∙◌}
use mathlib.Core.List.{List, [], ◌++◌, append_assoc}
use lib.ListN.{length, take, drop, length-append, length-take, length-drop, take-append-drop}
use lib.Seq.{take_at, drop-append-add, drop-drop}
use Rattle.buffers.specs.Written.{written}

-- nothing is written
pub written_none : (xs : List ℕ) (at : ℕ) → xs ≡ written xs at []
unfolding written
written_none xs at = let e : at + 0 ≡ at = omega arith in sym (rw e (take-append-drop at xs))

-- a write from the start on
pub written_front : (xs ys : List ℕ) → written xs 0 ys ≡ ys ++ drop (length ys) xs
unfolding written
written_front xs ys = let z : 0 + length ys ≡ length ys = omega arith in rw z

-- bytes copied into a part of the buffer
pub written_part : (xs : List ℕ) (at : ℕ) (ys : List ℕ) {part : List ℕ} → part ≡ ys →
    take at xs ++ (part ++ drop (at + length ys - at) (drop at xs)) ≡ written xs at ys
unfolding written
written_part xs at ys p = let e : at + length ys - at ≡ length ys = omega arith in rw (p, e, drop-drop (length ys) at xs)

-- the buffer keeps its length
pub written_length : (xs : List ℕ) (at : ℕ) (ys : List ℕ) → at + length ys ≤ length xs → length (written xs at ys) ≡ length xs
unfolding written
written_length xs at ys h = simp (length-append, length-take, length-drop) (omega arith)

drop_past : (p q : List ℕ) (n k : ℕ) → length p ≡ n → drop (n + k) (p ++ q) ≡ drop k q
drop_past p q n k e = rw (← e, drop-append-add p q k)

-- one write and then another, at the place after it
pub written_then : (xs : List ℕ) (at : ℕ) (ys zs : List ℕ) → at + length ys + length zs ≤ length xs →
    written (written xs at ys) (at + length ys) zs ≡ written xs at (ys ++ zs)
unfolding written
written_then xs at ys zs h =
    let front : length (take at xs ++ ys) ≡ at + length ys = simp (length-append, length-take) (omega arith) in
    let back : List ℕ = drop (at + length ys) xs in
    let e : at + length ys + length zs ≡ at + length (ys ++ zs) = simp length-append (omega arith) in
    rw (← append_assoc (take at xs) ys back, take_at (take at xs ++ ys) back (at + length ys) front, drop_past (take at xs ++ ys) back (at + length ys) (length zs) front, drop-drop (length zs) (at + length ys) xs, e) (simp append_assoc)

-- what a function that writes ys from place at on gives and leaves
abbrev pub Wrote : List ℕ → ℕ → List ℕ → ℕ → List ℕ → Type 0
Wrote xs at ys r after = (r ≡ at + length ys) × (after ≡ written xs at ys)

-- .. and then zs
pub wrote_then : (xs : List ℕ) (at : ℕ) (ys zs : List ℕ) {r r' : ℕ} {after after' : List ℕ} →
    Wrote xs at ys r after → Wrote after r zs r' after' → at + length ys + length zs ≤ length xs → Wrote xs at (ys ++ zs) r' after'
wrote_then xs at ys zs a b h =
    let e : at + length (ys ++ zs) ≡ at + length ys + length zs = simp length-append (omega arith) in
    (rw (e, ← a.0) b.0, b.1 ∙ rw (a.0, a.1, written_then xs at ys zs h))
