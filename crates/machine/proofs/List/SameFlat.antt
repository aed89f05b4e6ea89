-- Flat memories of different length agree on the words below both; so they give the same operations the same values. Assumes nothing.
use Prim.Native.Nat.{ℕ, ◌*◌, ◌<◌}
use mathlib.Core.Logic.{◌⊎◌, inl, inr, ◌≢◌}
use mathlib.Core.Path.{◌≡◌, refl, sym, ap, subst, ◌∙◌}
use mathlib.Core.List.{List, [], ◌∷◌, map, Memᴰ}
use lib.ListN.{length, get_or, set, drop, length-set, length-replicate, get_or-replicate}
use lib.Seq.{get_or-set_same, get_or-set_other}
use Rattle.words.specs.declared.WordNo.{WordNo}
use Rattle.words.specs.Operations.{apply_of}
use Rattle.machine.specs.Claims.Attribution.{Begun}
use Rattle.machine.specs.Claims.Flat.{flat_of, flat_value, flat_after, flat_values}
use Rattle.machine.specs.Claims.SameValues.{Asked, asked_by}
use Rattle.machine.proofs.Laws.Sets.{same?}
use Rattle.machine.proofs.Bounds.KeepsLane.{clash}

-- the words below both are the same
abbrev Agree : List ℕ → List ℕ → Type 0
Agree f g = (w : ℕ) → w < length f → w < length g → get_or f w 0 ≡ get_or g w 0

-- .. and still are after a word of each is set to the same
agree_after : (f g : List ℕ) (i x : ℕ) → Agree f g → Agree (set f i x) (set g i x)
agree_after f g i x a w h l = go (same? w i)
  where
    p : w < length f
    p = rw (length-set f i x) at h

    q : w < length g
    q = rw (length-set g i x) at l

    go : (w ≡ i) ⊎ (w ≢ i) → get_or (set f i x) w 0 ≡ get_or (set g i x) w 0
    go (inl e) = rw e (get_or-set_same f i x 0 (rw e at p) ∙ sym (get_or-set_same g i x 0 (rw e at q)))
    go (inr n) = get_or-set_other f i w x 0 n ∙ a w p q ∙ sym (get_or-set_other g i w x 0 n)

-- the words of a list of operations are words of a memory
abbrev pub Inside : ℕ → List Begun → Type 0
Inside n bs = (b : Begun) → Memᴰ b bs → b.word.0 < n

-- two operations that ask for the same
module _ (f g : List ℕ) (b c : Begun) (a : Agree f g) (p : b.word.0 < length f) (q : c.word.0 < length g) (o : b.op ≡ c.op) (w : b.word ≡ c.word) where
  read_same : get_or f b.word.0 0 ≡ get_or g c.word.0 0
  read_same = a b.word.0 p (rw w q) ∙ ap (λ (x : WordNo). get_or g x.0 0) w

  value_same : flat_value f b ≡ flat_value g c
  value_same = λ i. (apply_of (o i) (read_same i)).value

  after_agree : Agree (flat_after f b) (flat_after g c)
  after_agree =
      let e : set g b.word.0 (apply_of b.op (get_or f b.word.0 0)).word ≡ flat_after g c = λ i. set g (w i).0 (apply_of (o i) (read_same i)).word in
      subst (Agree (flat_after f b)) e (agree_after f g b.word.0 (apply_of b.op (get_or f b.word.0 0)).word a)

-- the same operations in the same order
values_agree : (f g : List ℕ) (bs cs : List Begun) → Agree f g → Inside (length f) bs → Inside (length g) cs → map asked_by bs ≡ map asked_by cs →
    flat_values f bs ≡ flat_values g cs
unfolding flat_values
values_agree f g [] [] a p q e = refl
values_agree f g [] (c ∷ cs) a p q e = clash (cc e)
values_agree f g (b ∷ bs) [] a p q e = clash (cc e)
values_agree f g (b ∷ bs) (c ∷ cs) a p q e =
    let o : b.op ≡ c.op = ap (λ (l : List Asked). (get_or l 0 (asked_by b)).op) e in
    let w : b.word ≡ c.word = ap (λ (l : List Asked). (get_or l 0 (asked_by b)).word) e in
    let here : b.word.0 < length f = p b (Memᴰ.head refl) in
    let there : c.word.0 < length g = q c (Memᴰ.head refl) in
    let v = value_same f g b c a here there o w in
    let rest = values_agree (flat_after f b) (flat_after g c) bs cs (after_agree f g b c a here there o w)
    (λ x m. rw (length-set f b.word.0 (apply_of b.op (get_or f b.word.0 0)).word) (p x (Memᴰ.tail m)))
    (λ x m. rw (length-set g c.word.0 (apply_of c.op (get_or g c.word.0 0)).word) (q x (Memᴰ.tail m)))
    (ap (drop 1) e) in
    λ i. v i ∷ rest i

-- from openings: flat memory is all 0
pub flat_same : (m n : ℕ) (bs cs : List Begun) → Inside (4 * m) bs → Inside (4 * n) cs → map asked_by bs ≡ map asked_by cs →
    flat_values (flat_of m) bs ≡ flat_values (flat_of n) cs
flat_same m n bs cs p q e =
    values_agree (flat_of m) (flat_of n) bs cs
    (λ w h l. get_or-replicate (4 * m) w 0 0 (rw (length-replicate {A = ℕ} (4 * m) 0) at h) ∙ sym (get_or-replicate (4 * n) w 0 0 (rw (length-replicate {A = ℕ} (4 * n) 0) at l)))
    (λ b i. rw (length-replicate {A = ℕ} (4 * m) 0) (p b i)) (λ b i. rw (length-replicate {A = ℕ} (4 * n) 0) (q b i)) e
