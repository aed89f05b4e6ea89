-- The picture's bytes are the records of the valid lines, sorted, each with exactly one. Assumes nothing.
use Prim.Native.Nat.{ℕ, zero, suc, ◌+◌, ◌<◌}
use native.Mathlib.Omega.{arith}
use mathlib.Core.Logic.{◌⊎◌, inl, inr, ⊎_elim, ◌≢◌}
use mathlib.Core.Bool.{Bool, true, false, ◌&&◌, cond}
use mathlib.Core.Path.{◌≡◌, refl, sym, ap, ◌∙◌}
use mathlib.Core.List.Memᴰ
use mathlib.Core.List.{List, [], ◌∷◌, ◌++◌, append-nil, flat_map, Memᴰ}
use lib.Dec.{eqb}
use borrow.Author.Tests.{eq-eqb, ne_eqb}
use Rattle.words.specs.Lines.{holds_of}
use Rattle.words.specs.Folds.{sum_to, gather_to}
use Rattle.words.proofs.Folds.{by_cond}
use Rattle.store.specs.declared.Store.{Store}
use Rattle.machine.specs.Machine.Corruption.{corrupt_of}
use Rattle.machine.specs.Claims.Flags.{line_in}
use Rattle.machine.specs.Machine.Picture.{record_bytes, line_bytes, picture_bytes}
use Rattle.machine.specs.Claims.PictureOrder.{Copy, Before, Sorted, times_in, ValidCopy, records_of, InOrder}
use Rattle.machine.proofs.Laws.Lines.{holds_valid, valid_holds, other_holds}
use Rattle.machine.proofs.Laws.Sets.{same?}
use Rattle.machine.proofs.Laws.Sums.{zero_sum, sum_only}
use Rattle.machine.proofs.Bounds.Sound.{sound}
use Rattle.machine.proofs.Pictures.Gathers.{gather_part, gather_same, gather_flat}

-- the copies whose records the picture has: line i of lane k where it has block a; those of a lane, of a block, all
abbrev copy_at : ℕ → ℕ → ℕ → Copy
copy_at a k i = record { block = a; lane = k; line = i }

abbrev line_copies : Store → ℕ → ℕ → ℕ → List Copy
line_copies s a k i = cond (holds_of (line_in s k i) (record { 0 = a })) (copy_at a k i ∷ []) []

abbrev lane_copies : Store → ℕ → ℕ → List Copy
lane_copies s a k = gather_to (line_copies s a k) s.shape.c

abbrev block_copies : Store → ℕ → List Copy
block_copies s a = gather_to (lane_copies s a) s.shape.n

abbrev copies_of : Store → List Copy
copies_of s = gather_to (block_copies s) s.shape.m

-- their records are the picture's bytes
line_records : (s : Store) (a k i : ℕ) → records_of s (line_copies s a k i) ≡ cond (holds_of (line_in s k i) (record { 0 = a })) (record_bytes k (line_in s k i)) []
unfolding flat_map
line_records s a k i = go (holds_of (line_in s k i) (record { 0 = a }))
  where
    go : (b : Bool) → records_of s (cond b (copy_at a k i ∷ []) []) ≡ cond b (record_bytes k (line_in s k i)) []
    go true = append-nil (record_bytes k (line_in s k i))
    go false = refl

lane_records : (s : Store) (a k : ℕ) → records_of s (lane_copies s a k) ≡ gather_to (line_bytes s a k) s.shape.c
lane_records s a k = gather_flat _ (line_copies s a k) s.shape.c ∙ gather_same _ _ s.shape.c (line_records s a k)

block_records : (s : Store) (a : ℕ) → records_of s (block_copies s a) ≡ gather_to (λ k. gather_to (line_bytes s a k) s.shape.c) s.shape.n
block_records s a = gather_flat _ (lane_copies s a) s.shape.n ∙ gather_same _ _ s.shape.n (lane_records s a)

picture_records : (s : Store) → picture_bytes s ≡ records_of s (copies_of s)
unfolding picture_bytes
picture_records s = sym (gather_flat _ (block_copies s) s.shape.m ∙ gather_same _ _ s.shape.m (block_records s))

-- what is known of a copy that stands among those of a line, of a lane, of a block
line_copy : (s : Store) (a k i : ℕ) {x : Copy} → Memᴰ x (line_copies s a k i) → (x ≡ copy_at a k i) × (holds_of (line_in s k i) (record { 0 = a }) ≡ true)
line_copy s a k i {x} m = go (holds_of (line_in s k i) (record { 0 = a })) refl m
  where
    go : (b : Bool) → holds_of (line_in s k i) (record { 0 = a }) ≡ b → Memᴰ x (cond b (copy_at a k i ∷ []) []) → (x ≡ copy_at a k i) × (holds_of (line_in s k i) (record { 0 = a }) ≡ true)
    go true e h = (Memᴰ.eq_of_singleton h, e)
    go false e h = absurd (Memᴰ.not-nil h)

lane_copy : (s : Store) (a k : ℕ) {x : Copy} → Memᴰ x (lane_copies s a k) → (x.block ≡ a) × (x.lane ≡ k)
lane_copy s a k m =
    let p = gather_part (line_copies s a k) s.shape.c m in
    let e = (line_copy s a k p.index p.found).0 in
    (ap (λ (x : Copy). x.block) e, ap (λ (x : Copy). x.lane) e)

block_copy : (s : Store) (a : ℕ) {x : Copy} → Memᴰ x (block_copies s a) → x.block ≡ a
block_copy s a m = let p = gather_part (lane_copies s a) s.shape.n m in (lane_copy s a p.index p.found).0

-- all are valid lines
copy_valid : (s : Store) (x : Copy) → Memᴰ x (copies_of s) → ValidCopy s x
copy_valid s x m =
    let p = gather_part (block_copies s) s.shape.m m in
    let q = gather_part (lane_copies s p.index) s.shape.n p.found in
    let r = gather_part (line_copies s p.index q.index) s.shape.c q.found in
    let e = line_copy s p.index q.index r.index r.found in
    let h = holds_valid (line_in s q.index r.index) (record { 0 = p.index }) e.1 in
    rw e.0 (record { lane = q.below; line = r.below; valid = h.0; block = h.1 })

-- one sorted list behind another whose copies all come before
append_sorted : (xs ys : List Copy) → Sorted xs → Sorted ys → ((x y : Copy) → Memᴰ x xs → Memᴰ y ys → Before x y) → Sorted (xs ++ ys)
append_sorted [] ys a b h = b
append_sorted (x ∷ xs) ys a b h =
    (λ y m. ⊎_elim (a.0 y) (h x y (Memᴰ.head refl)) (Memᴰ.append_cases xs m), append_sorted xs ys a.1 b (λ u v p q. h u v (Memᴰ.tail p) q))

-- .. and so with all parts of a gathered list
gather_sorted : (f : ℕ → List Copy) (n : ℕ) → ((j : ℕ) → Sorted (f j)) →
    ((i j : ℕ) (x y : Copy) → i < j → Memᴰ x (f i) → Memᴰ y (f j) → Before x y) → Sorted (gather_to f n)
unfolding gather_to
gather_sorted f zero g h = tt
gather_sorted f (suc n) g h =
    append_sorted (gather_to f n) (f n) (gather_sorted f n g h) (g n)
    (λ x y m l. let p = gather_part f n m in h p.index n x y p.below p.found l)

line_sorted : (s : Store) (a k i : ℕ) → Sorted (line_copies s a k i)
line_sorted s a k i = by_cond Sorted (holds_of (line_in s k i) (record { 0 = a })) _ _ (λ y m. absurd (Memᴰ.not-nil m), tt) tt

lane_sorted : (s : Store) (a k : ℕ) → Sorted (lane_copies s a k)
lane_sorted s a k = gather_sorted (line_copies s a k) s.shape.c (line_sorted s a k)
    (λ i j x y l m p. rw ((line_copy s a k i m).0, (line_copy s a k j p).0) (inr (refl, inr (refl, l))))

block_sorted : (s : Store) (a : ℕ) → Sorted (block_copies s a)
block_sorted s a = gather_sorted (lane_copies s a) s.shape.n (lane_sorted s a)
    (λ i j x y l m p. let d = lane_copy s a i m in let e = lane_copy s a j p in inr (omega arith, inl (omega arith)))

copies_sorted : (s : Store) → Sorted (copies_of s)
copies_sorted s = gather_sorted (block_copies s) s.shape.m (block_sorted s)
    (λ i j x y l m p. let d = block_copy s i m in let e = block_copy s j p in inl (omega arith))

-- how often a line stands in a gathered list
times_append : (k i : ℕ) (xs ys : List Copy) → times_in k i (xs ++ ys) ≡ times_in k i xs + times_in k i ys
unfolding times_in
times_append k i [] ys = omega arith
times_append k i (x ∷ xs) ys = let e = times_append k i xs ys in omega arith

times_gather : (k i : ℕ) (f : ℕ → List Copy) (n : ℕ) → times_in k i (gather_to f n) ≡ sum_to (λ j. times_in k i (f j)) n
unfolding gather_to sum_to times_in
times_gather k i f zero = refl
times_gather k i f (suc n) = let e = times_gather k i f n in let d = times_append k i (gather_to f n) (f n) in omega arith

-- one part alone has the line
times_one : (k i : ℕ) (f : ℕ → List Copy) (n j : ℕ) → j < n → ((l : ℕ) → l ≢ j → times_in k i (f l) ≡ 0) → times_in k i (gather_to f n) ≡ times_in k i (f j)
times_one k i f n j h e = times_gather k i f n ∙ sum_only (λ l. times_in k i (f l)) n j h e

-- no part has it
times_none : (k i : ℕ) (f : ℕ → List Copy) (n : ℕ) → ((l : ℕ) → times_in k i (f l) ≡ 0) → times_in k i (gather_to f n) ≡ 0
times_none k i f n e = times_gather k i f n ∙ zero_sum (λ l. times_in k i (f l)) n (λ l _. e l)

-- a line's copy is of that line, and of its block, alone
line_apart : (s : Store) (k i a l j : ℕ) → (eqb l k && eqb j i) ≡ false → times_in k i (line_copies s a l j) ≡ 0
unfolding times_in
line_apart s k i a l j e = by_cond (λ xs. times_in k i xs ≡ 0) (holds_of (line_in s l j) (record { 0 = a })) _ _ (rw e) refl

line_elsewhere : (s : Store) (k i a l j : ℕ) → holds_of (line_in s l j) (record { 0 = a }) ≡ false → times_in k i (line_copies s a l j) ≡ 0
unfolding times_in
line_elsewhere s k i a l j e = rw e

line_once : (s : Store) (k i a : ℕ) → holds_of (line_in s k i) (record { 0 = a }) ≡ true → times_in k i (line_copies s a k i) ≡ 1
unfolding times_in
line_once s k i a e = rw (e, eq-eqb k k refl, eq-eqb i i refl)

-- a valid line stands once among the copies
valid_once : (s : Store) (k i : ℕ) → k < s.shape.n → i < s.shape.c → (line_in s k i).valid ≡ true → (line_in s k i).block.0 < s.shape.m →
    times_in k i (copies_of s) ≡ 1
valid_once s k i h l v b =
    let a = (line_in s k i).block.0 in
    times_one k i (block_copies s) s.shape.m a b block_none ∙
    (times_one k i (lane_copies s a) s.shape.n k h (lane_none a) ∙
    (times_one k i (line_copies s a k) s.shape.c i l (line_none a) ∙ line_once s k i a (valid_holds (line_in s k i) (record { 0 = a }) v refl)))
  where
    line_none : (a j : ℕ) → j ≢ i → times_in k i (line_copies s a k j) ≡ 0
    line_none a j n = line_apart s k i a k j (rw (eq-eqb k k refl, ne_eqb j i n))

    lane_none : (a j : ℕ) → j ≢ k → times_in k i (lane_copies s a j) ≡ 0
    lane_none a j n = times_none k i (line_copies s a j) s.shape.c (λ p. line_apart s k i a j p (rw (ne_eqb j k n)))

    own_none : (a : ℕ) → a ≢ (line_in s k i).block.0 → (p : ℕ) → (p ≡ i) ⊎ (p ≢ i) → times_in k i (line_copies s a k p) ≡ 0
    own_none a n p (inl e) = line_elsewhere s k i a k p (rw e (other_holds (line_in s k i) (record { 0 = a }) (λ q. n (sym q))))
    own_none a n p (inr e) = line_none a p e

    in_lane : (a : ℕ) → a ≢ (line_in s k i).block.0 → (j : ℕ) → (j ≡ k) ⊎ (j ≢ k) → times_in k i (lane_copies s a j) ≡ 0
    in_lane a n j (inl e) = rw e (times_none k i (line_copies s a k) s.shape.c (λ p. own_none a n p (same? p i)))
    in_lane a n j (inr e) = lane_none a j e

    block_none : (a : ℕ) → a ≢ (line_in s k i).block.0 → times_in k i (block_copies s a) ≡ 0
    block_none a n = times_none k i (lane_copies s a) s.shape.n (λ j. in_lane a n j (same? j k))

-- the picture's bytes of a store that is not corrupt
pub bytes_in_order : (s : Store) → corrupt_of s ≡ false → InOrder s (picture_bytes s)
bytes_in_order s e =
    record {
      copies = copies_of s;
      records = picture_records s;
      sorted = copies_sorted s;
      only = copy_valid s;
      each = λ k i h l v. valid_once s k i h l v (((sound s e).lane k h).lines i l v);
    }
