-- A set of lanes and its byte say the same, lane by lane. Assumes nothing.
use Prim.Native.Nat.{ℕ, zero, suc, ◌+◌, ◌-◌, ◌*◌, ◌/◌, ◌%◌, ◌^◌, ◌<◌, ◌≤◌}
use native.Mathlib.Nat.{one-mul, add_comm, add-zero, add-mul-div_right, mul-add-mod_self_right, pow-suc, zero-lt-suc, eq-or-lt_of_le}
use native.Mathlib.Omega.{arith}
use mathlib.Core.Logic.{◌⊎◌, inl, inr}
use mathlib.Core.Path.{◌≡◌, refl, sym, ap, ◌∙◌}
use mathlib.Core.Bool.{Bool, true, false, not, cond}
use mathlib.Core.List.{List}
use lib.Dec.{eqb}
use lib.Count.{ones_in, ones}
use borrow.Author.Tests.{eqb-true}
use lib.ListN.{length, set}
use lib.Pow.{pow-add, pow_pos, high, shl_exact}
use lib.Seq.{ext_get_or}
use Rattle.words.specs.declared.LaneNo.{LaneNo}
use Rattle.words.specs.Folds.{any_to, count_to, sum_to}
use Rattle.words.proofs.Folds.{any_false}
use Rattle.store.specs.LaneSets.{nobody, only, goes_to, count_of}
use Rattle.machine.proofs.Laws.Tests.{not_true}
use Rattle.machine.specs.Machine.LaneBytes.{bit_of, bits_in, byte_of, lanes_of}

-- lane j's flag in a byte's set is bit j
pub lanes_bit : (x j : ℕ) → j < 8 → goes_to (lanes_of x) j ≡ bit_of x j
lanes_bit x zero h = refl
lanes_bit x (suc zero) h = refl
lanes_bit x (suc (suc zero)) h = refl
lanes_bit x (suc (suc (suc zero))) h = refl
lanes_bit x (suc (suc (suc (suc zero)))) h = refl
lanes_bit x (suc (suc (suc (suc (suc zero))))) h = refl
lanes_bit x (suc (suc (suc (suc (suc (suc zero)))))) h = refl
lanes_bit x (suc (suc (suc (suc (suc (suc (suc zero))))))) h = refl
lanes_bit x (suc (suc (suc (suc (suc (suc (suc (suc j)))))))) h = absurd (omega arith)

-- the flags below n as a number, bit by bit
abbrev valued : (ℕ → Bool) → ℕ → ℕ
valued p n = sum_to (λ j. cond (p j) (2 ^ j) 0) n

value_lt : (p : ℕ → Bool) (n : ℕ) → valued p n < 2 ^ n
unfolding sum_to
value_lt p zero = zero-lt-suc zero
value_lt p (suc n) = go (p n) (value_lt p n) (pow-suc 2 n)
  where
    go : (b : Bool) → valued p n < 2 ^ n → 2 ^ suc n ≡ 2 ^ n * 2 → valued p n + cond b (2 ^ n) 0 < 2 ^ suc n
    go true h e = omega arith
    go false h e = omega arith

-- the highest bit
bit_top : (b : Bool) (n x : ℕ) → x < 2 ^ n → bit_of (x + cond b (2 ^ n) 0) n ≡ b
bit_top true n x h = let e : x + 2 ^ n ≡ 1 * 2 ^ n + x = omega arith in rw (e, high 1 n h) refl
bit_top false n x h = let e : x + 0 ≡ 0 * 2 ^ n + x = omega arith in rw (e, high 0 n h) refl

-- a bit below it
bit_below : (b : Bool) (n j x : ℕ) → j < n → bit_of (x + cond b (2 ^ n) 0) j ≡ bit_of x j
bit_below false n j x h = ap (λ (y : ℕ). bit_of y j) (add-zero x)
bit_below true n j x h =
    let d = n - suc j in
    let e : suc d + j ≡ n = omega arith in
    let power : 2 ^ n ≡ 2 ^ d * 2 * 2 ^ j = ap (λ (i : ℕ). 2 ^ i) (sym e) ∙ (pow-add 2 (suc d) j ∙ ap (λ (y : ℕ). y * 2 ^ j) (pow-suc 2 d)) in
    let half : (x + 2 ^ n) / 2 ^ j ≡ 2 ^ d * 2 + x / 2 ^ j =
    ap (λ (y : ℕ). (x + y) / 2 ^ j) power ∙ (add-mul-div_right x (2 ^ d * 2) (pow_pos j) ∙ add_comm (x / 2 ^ j) (2 ^ d * 2)) in
    ap (λ (y : ℕ). eqb y 1) (ap (λ (y : ℕ). y % 2) half ∙ mul-add-mod_self_right (2 ^ d) 2 (x / 2 ^ j))

bit_value : (p : ℕ → Bool) (n j : ℕ) → j < n → bit_of (valued p n) j ≡ p j
unfolding sum_to
bit_value p zero j h = absurd (omega arith)
bit_value p (suc n) j h = let h' : j ≤ n = omega arith in go (eq-or-lt_of_le h') (bit_value p n j)
  where
    go : (j ≡ n) ⊎ (j < n) → (j < n → bit_of (valued p n) j ≡ p j) → bit_of (valued p n + cond (p n) (2 ^ n) 0) j ≡ p j
    go (inl e) r = rw e (bit_top (p n) n (valued p n) (value_lt p n))
    go (inr l) r = bit_below (p n) n j (valued p n) l ∙ r l

-- counts by tests that agree
count_same : (p q : ℕ → Bool) (n : ℕ) → ((j : ℕ) → j < n → p j ≡ q j) → count_to p n ≡ count_to q n
unfolding count_to
count_same p q zero h = refl
count_same p q (suc n) h = rw (count_same p q n (λ j l. h j (omega arith)), h n (omega arith))

module _ (to : List Bool) where
  pub byte_fits : byte_of to < 256
  unfolding byte_of
  byte_fits = value_lt (goes_to to) 8

  -- bit j is lane j's flag
  pub byte_bit : (j : ℕ) → j < 8 → bit_of (byte_of to) j ≡ goes_to to j
  unfolding byte_of
  byte_bit j h = bit_value (goes_to to) 8 j h

  -- there are as many set bits as lanes
  pub byte_count : bits_in (byte_of to) ≡ count_of to
  unfolding bits_in count_of
  byte_count = count_same (bit_of (byte_of to)) (goes_to to) 8 byte_bit

  -- the byte's set is the set
  pub byte_lanes : length to ≡ 8 → lanes_of (byte_of to) ≡ to
  byte_lanes e = ext_get_or false (lanes_of (byte_of to)) to (sym e) (λ j h. lanes_bit (byte_of to) j h ∙ byte_bit j h)

-- the byte of one lane is its bit alone
one_lane : (j : ℕ) → j < 8 → byte_of (set nobody j true) ≡ 2 ^ j
unfolding byte_of sum_to
one_lane zero h = refl
one_lane (suc zero) h = refl
one_lane (suc (suc zero)) h = refl
one_lane (suc (suc (suc zero))) h = refl
one_lane (suc (suc (suc (suc zero)))) h = refl
one_lane (suc (suc (suc (suc (suc zero))))) h = refl
one_lane (suc (suc (suc (suc (suc (suc zero)))))) h = refl
one_lane (suc (suc (suc (suc (suc (suc (suc zero))))))) h = refl
one_lane (suc (suc (suc (suc (suc (suc (suc (suc j)))))))) h = absurd (omega arith)

pub only_byte : (k : LaneNo) → k.0 < 8 → 1 * 2 ^ k.0 % 2 ^ 8 ≡ byte_of (only k)
only_byte k h = let f : 1 + k.0 ≤ 8 = omega arith in let o : 1 < 2 ^ 1 = omega arith in shl_exact 1 k.0 8 o f ∙ (one-mul (2 ^ k.0) ∙ sym (one_lane k.0 h))

-- ---- a test that each of the 256 bytes passes, computed
pub each : (test : ℕ → Bool) → any_to (λ x. not (test x)) 256 ≡ false → (x : ℕ) → x < 256 → test x ≡ true
each test e x h = not_true (test x) (any_false (λ y. not (test y)) 256 x e h)

-- the set digits are the set bits
pub ones_bits : (x : ℕ) → x < 256 → ones x ≡ bits_in x
unfolding any_to ones ones_in bits_in count_to
ones_bits x h = eqb-true (ones x) (bits_in x) (each (λ y. eqb (ones y) (bits_in y)) refl x h)
