-- 01, "Flat memory and flags": what a quiet store shows, and the four properties (000, section III). Assumes nothing.
use Rattle.std.specs.Prelude.{ℕ, ◌<◌, ◌≡◌, ◌≢◌, Bool, true, false, cond, ◌&&◌, List, get_or}
use Rattle.words.specs.declared.Line.{Line}
use Rattle.words.specs.Lines.{no_line, holds_of}
use Rattle.words.specs.Folds.{up_to, any_to}
use Rattle.store.specs.declared.Store.{Store}
use Rattle.store.specs.Stores.{lane_at, block_at}
use Rattle.store.specs.LaneSets.{goes_to}

-- line i of lane k
abbrev pub line_in : Store → ℕ → ℕ → Line
line_in s k i = get_or (lane_at s k).lines i no_line

-- PRESENT for block a and lane k
abbrev pub present_in : Store → ℕ → ℕ → Bool
present_in s a k = goes_to (block_at s a).present k

-- lane k has a valid copy of block a
abbrev pub has_copy : Store → ℕ → ℕ → Bool
has_copy s k a = any_to (λ i. holds_of (line_in s k i) (record { 0 = a })) s.shape.c

-- line i of lane k is a valid PRIVATE line that has block a
abbrev pub owns : Store → ℕ → ℕ → ℕ → Bool
owns s k i a = holds_of (line_in s k i) (record { 0 = a }) && (line_in s k i).private

-- A quiet store shows, for each block, the words of the valid PRIVATE line that has it, else main memory's
unfoldable pub shown_of : Store → ℕ → List ℕ
shown_of s a =
    up_to (λ k ws. up_to (λ i xs. cond (owns s k i a) (line_in s k i).words xs) s.shape.c ws) s.shape.n (block_at s a).words

pub record Flags (s : Store) : Type 0 where
  -- 1. PRESENT for block a and lane k: k has a valid copy of a
  pub present : (a k : ℕ) → a < s.shape.m → k < s.shape.n → present_in s a k ≡ true → has_copy s k a ≡ true
  -- 2. MODIFIED for a: some lane has a valid PRIVATE copy
  pub modified : (a : ℕ) → a < s.shape.m → (block_at s a).modified ≡ true → any_to (λ k. any_to (λ i. owns s k i a) s.shape.c) s.shape.n ≡ true
  -- 3. PRIVATE in k on a valid line: no other lane has the block, and only k's PRESENT is set
  pub private : (a k i : ℕ) → k < s.shape.n → i < s.shape.c → owns s k i a ≡ true →
      (present_in s a k ≡ true) × ((j : ℕ) → j < s.shape.n → j ≢ k → (has_copy s j a ≡ false) × (present_in s a j ≡ false))
  -- 4. PRIVATE reset on a valid line: its words are main memory's
  pub shared : (k i : ℕ) → k < s.shape.n → i < s.shape.c → (line_in s k i).valid ≡ true → (line_in s k i).private ≡ false →
      (line_in s k i).words ≡ (block_at s (line_in s k i).block.0).words
