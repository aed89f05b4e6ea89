-- Laws of the picture's records: their length, and how they are written one after the other. Assumes nothing.
use Prim.Native.Nat.{ℕ, zero, suc, ◌+◌, ◌-◌, ◌*◌, ◌<◌, ◌≤◌}
use native.Mathlib.Nat.{eq-or-lt_of_le}
use native.Mathlib.Numerals.{add-one}
use native.Mathlib.Omega.{arith}
use mathlib.Core.Logic.{◌⊎◌, inl, inr}
use mathlib.Core.Bool.{Bool, true, false, cond}
use mathlib.Core.Path.{◌≡◌, refl, sym, ap, ◌∙◌}
use mathlib.Core.List.{List, [], ◌∷◌, ◌++◌, append-nil}
use lib.ListN.{length, take, drop, get_or, length-append, length-take, length-drop, drop_of_length-le}
use lib.Seq.{take_all, drop-drop}
use Rattle.std.specs.Prelude.{count_by}
use Rattle.std.proofs.lemmas.List.{get_or-take}
use Rattle.std.proofs.lemmas.List.Sums.{sum_by_more}
use Rattle.words.specs.declared.Line.{Line}
use Rattle.words.specs.Lines.{no_line, holds_of}
use Rattle.words.specs.Folds.{count_to, sum_to, gather_to}
use Rattle.words.proofs.Folds.{count_most}
use Rattle.store.specs.declared.Store.{Store}
use Rattle.store.specs.Stores.{lane_at}
use Rattle.machine.specs.Machine.Picture.{word_bytes, record_bytes, picture_bytes}
use Rattle.machine.proofs.Laws.Tests.{on}
use Rattle.machine.proofs.Laws.Lines.{valid_holds, invalid_holds, other_holds}
use Rattle.machine.proofs.Laws.Sums.{sum_same, zero_sum, sum_grown, sum_swap, sum_times, sum_only}
use Rattle.machine.proofs.Bounds.Sound.{Sound}
use Rattle.buffers.specs.Written.{written}
use Rattle.buffers.proofs.Writing.{written_length, Wrote, wrote_then}
use Rattle.store_picture.specs.Records.{line_record, records_at, block_records, valid_at, valid_of}

-- gathering: none, one more, and a part is no longer than the whole
pub gather_none : (f : ℕ → List ℕ) → gather_to f 0 ≡ []
unfolding gather_to
gather_none f = refl

pub gather_more : (f : ℕ → List ℕ) (k : ℕ) → gather_to f (k + 1) ≡ gather_to f k ++ f k
unfolding gather_to
gather_more f k = rw add-one

pub gather_least : (f : ℕ → List ℕ) (k n : ℕ) → k ≤ n → length (gather_to f k) ≤ length (gather_to f n)
unfolding gather_to
gather_least f k zero h = let e : k ≡ 0 = omega arith in rw e (omega arith)
gather_least f k (suc n) h = go (eq-or-lt_of_le h) (λ l. gather_least f k n l)
  where
    go : (k ≡ suc n) ⊎ (k < suc n) → (k ≤ n → length (gather_to f k) ≤ length (gather_to f n)) → length (gather_to f k) ≤ length (gather_to f n ++ f n)
    go (inl q) r = rw q (omega arith)
    go (inr q) r = let l = r (omega arith) in simp length-append (omega arith)

gather_next : (f : ℕ → List ℕ) (k n : ℕ) → k < n → length (gather_to f k) + length (f k) ≤ length (gather_to f n)
gather_next f k n h = let l : length (gather_to f k ++ f k) ≤ length (gather_to f n) = rw (← gather_more f k) (gather_least f (k + 1) n (omega arith)) in
    omega (arith, length-append (gather_to f k) (f k))

-- a loop's turn that writes: one more part behind those before it
pub wrote_more : (f : ℕ → List ℕ) (k n : ℕ) (xs : List ℕ) (at : ℕ) {r r' : ℕ} {after after' : List ℕ} →
    Wrote xs at (gather_to f k) r after → Wrote after r (f k) r' after' → k < n → at + length (gather_to f n) ≤ length xs → Wrote xs at (gather_to f (k + 1)) r' after'
wrote_more f k n xs at a b l h = rw (gather_more f k) (wrote_then xs at (gather_to f k) (f k) a b (omega (arith, gather_next f k n l)))

-- .. and the buffer keeps its length
pub wrote_kept : (f : ℕ → List ℕ) (k n : ℕ) (xs : List ℕ) (at : ℕ) {r : ℕ} {after : List ℕ} →
    Wrote xs at (gather_to f k) r after → k ≤ n → at + length (gather_to f n) ≤ length xs → length after ≡ length xs
wrote_kept f k n xs at w l h = rw w.1 (written_length xs at (gather_to f k) (omega (arith, gather_least f k n l)))

-- .. so that there is room for the next part
pub wrote_fits : (f : ℕ → List ℕ) (k n : ℕ) (xs : List ℕ) (at : ℕ) {r : ℕ} {after : List ℕ} →
    Wrote xs at (gather_to f k) r after → k < n → at + length (gather_to f n) ≤ length xs → r + length (f k) ≤ length after
wrote_fits f k n xs at w l h =
    let e = wrote_kept f k n xs at w (omega arith) h in
    let g = gather_next f k n l in
    let p = w.0 in
    omega arith

-- a write from the start of a part is a write at the part's offset in the whole
pub part_written : (xs : List ℕ) (at : ℕ) (ys : List ℕ) {part : List ℕ} → at ≤ length xs → part ≡ written (take (length xs - at) (drop at xs)) 0 ys →
    take at xs ++ (part ++ drop (length xs - at) (drop at xs)) ≡ written xs at ys
unfolding written
part_written xs at ys h p =
    let n : length (drop at xs) ≤ length xs - at = simp length-drop (omega arith) in
    let e : 0 + length ys ≡ length ys = omega arith in
    rw (p, take_all (length xs - at) (drop at xs) n, drop_of_length-le (drop at xs) n, append-nil, e, drop-drop (length ys) at xs)

-- an element of the first n of a list
pub taken_at : {A : Type 0} (n : ℕ) (xs : List A) (i : ℕ) (d : A) → i < length (take n xs) → (i < n) × (get_or (take n xs) i d ≡ get_or xs i d)
taken_at n xs i d h = let l : i < n = omega (arith, length-take n xs) in (l, get_or-take n xs i d l)

-- how many of the first n of a list pass
pub count_taken : {A : Type 0} (p : A → Bool) (xs : List A) (d : A) (n : ℕ) → n ≤ length xs → count_by p (take n xs) ≡ count_to (λ i. p (get_or xs i d)) n
unfolding count_to
count_taken p xs d zero h = refl
count_taken {A} p xs d (suc n) h =
    let e = rw add-one at (sum_by_more {X = A} (λ x. cond (p x) 1 0) xs n d (omega arith)) in
    e ∙ ap (λ m. m + cond (p (get_or xs n d)) 1 0) (count_taken p xs d n (omega arith))

pub sum_none : (f : ℕ → ℕ) → sum_to f 0 ≡ 0
unfolding sum_to
sum_none f = refl

pub sum_more : (f : ℕ → ℕ) (k : ℕ) → sum_to f (k + 1) ≡ sum_to f k + f k
unfolding sum_to
sum_more f k = rw add-one

-- eight lines at most in a lane
pub valid_most : (s : Store) (n : ℕ) → s.shape.c ≤ 8 → sum_to (valid_at s) n ≤ 8 * n
unfolding sum_to
valid_most s zero h = omega arith
valid_most s (suc n) h =
    let r = valid_most s n h in
    omega (arith, count_most (λ i. (get_or (lane_at s n).lines i no_line).valid) s.shape.c)

-- the bytes of a line's word i
abbrev pub word_at : Line → ℕ → List ℕ
word_at x i = word_bytes (get_or x.words i 0)

pub words_length : (x : Line) → length (gather_to (word_at x) 4) ≡ 16
unfolding gather_to
words_length x = refl

-- .. of its four words, behind kind, lane and block
pub record_words : (k : ℕ) (x : Line) → (16 ∷ k ∷ x.block.0 ∷ []) ++ gather_to (word_at x) 4 ≡ record_bytes k x
unfolding record_bytes gather_to
record_words k x = refl

-- a record has 19 bytes
pub record_length : (k : ℕ) (x : Line) → length (record_bytes k x) ≡ 19
unfolding record_bytes
record_length k x = refl

-- the record of a line that has the block, and of another
pub line_holds : (a k : ℕ) (x : Line) → holds_of x (record { 0 = a }) ≡ true → line_record a k x ≡ record_bytes k x
unfolding line_record
line_holds a k x e = rw e

pub line_other : (a k : ℕ) (x : Line) → holds_of x (record { 0 = a }) ≡ false → line_record a k x ≡ []
unfolding line_record
line_other a k x e = rw e

pub holds_length : (a k : ℕ) (x : Line) → holds_of x (record { 0 = a }) ≡ true → length (line_record a k x) ≡ 19
holds_length a k x e = rw (line_holds a k x e) (record_length k x)

-- the picture is the records of the blocks
pub picture_blocks : (s : Store) → picture_bytes s ≡ gather_to (block_records s) s.shape.m
unfolding picture_bytes line_record
picture_blocks s = refl

-- the length of a gathered list
gather_length : (f : ℕ → List ℕ) (n : ℕ) → length (gather_to f n) ≡ sum_to (λ j. length (f j)) n
unfolding gather_to sum_to
gather_length f zero = refl
gather_length f (suc n) = let h = gather_length f n in simp length-append (omega arith)

-- over all m blocks a line has 19 bytes if it is valid
line_length : (k m : ℕ) (x : Line) → (x.valid ≡ true → x.block.0 < m) → sum_to (λ a. length (line_record a k x)) m ≡ cond x.valid 19 0
line_length k m x h = on x.valid
    (λ v. let e : cond x.valid 19 0 ≡ 19 = rw v in
    sum_only (λ a. length (line_record a k x)) m x.block.0 (h v) (λ a n. ap length (line_other a k x (other_holds x (record { 0 = a }) (λ q. n (sym q))))) ∙
    (holds_length x.block.0 k x (valid_holds x x.block v refl) ∙ sym e))
    (λ v. let e : cond x.valid 19 0 ≡ 0 = rw v in
    zero_sum (λ a. length (line_record a k x)) m (λ a _. ap length (line_other a k x (invalid_holds x (record { 0 = a }) v))) ∙ sym e)

-- the bytes that line i of lane k has among block a's
abbrev size_at : Store → ℕ → ℕ → ℕ → ℕ
size_at s a k i = length (line_record a k (get_or (lane_at s k).lines i no_line))

-- .. so a lane has 19 for each valid line
lane_length : (s : Store) → Sound s → (k : ℕ) → k < s.shape.n → sum_to (λ a. sum_to (size_at s a k) s.shape.c) s.shape.m ≡ 19 * valid_at s k
lane_length s g k h =
    let sizes : ℕ → ℕ = λ i. cond (get_or (lane_at s k).lines i no_line).valid 19 0 in
    let swapped = sum_swap (λ a. size_at s a k) s.shape.m s.shape.c in
    let each = sum_same sizes (λ i. sum_to (λ a. size_at s a k i) s.shape.m) s.shape.c
    (λ i l. line_length k s.shape.m (get_or (lane_at s k).lines i no_line) ((g.lane k h).lines i l)) in
    let all = sum_grown (λ _. 0) sizes (λ i. (get_or (lane_at s k).lines i no_line).valid) 19 s.shape.c (λ j _. omega arith) in
    let none = zero_sum (λ _. 0) s.shape.c (λ _ _. refl) in
    omega arith

block_length : (s : Store) (a : ℕ) → length (block_records s a) ≡ sum_to (λ k. sum_to (size_at s a k) s.shape.c) s.shape.n
block_length s a = gather_length (records_at s a) s.shape.n ∙ sum_same _ _ s.shape.n (λ k _. gather_length _ s.shape.c)

-- .. and the picture
pub picture_length : (s : Store) → Sound s → length (picture_bytes s) ≡ 19 * valid_of s
picture_length s g =
    ap length (picture_blocks s) ∙ (gather_length (block_records s) s.shape.m ∙
    (sum_same _ _ s.shape.m (λ a _. block_length s a) ∙
    (sum_swap (λ a k. sum_to (size_at s a k) s.shape.c) s.shape.m s.shape.n ∙
    (sum_same (λ k. 19 * valid_at s k) _ s.shape.n (lane_length s g) ∙ sum_times 19 (valid_at s) s.shape.n))))
