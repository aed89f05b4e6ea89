-- Flat memory by blocks: an operation on a word changes the words of its block as an operation on a line does, and no other block's.
-- Assumes nothing.
use Prim.Native.Nat.{ℕ, ◌+◌, ◌-◌, ◌*◌, ◌/◌, ◌%◌, ◌<◌, ◌≤◌}
use mathlib.Core.Logic.{◌⊎◌, inl, inr, ◌≢◌}
use mathlib.Core.Path.{◌≡◌, sym, ap, ◌∙◌}
use mathlib.Core.List.{List}
use lib.ListN.{get_or, set, take, drop}
use lib.Seq.{take-set-lt, take-set-le, drop-set-lt, drop-set-add, get_or-take, get_or-drop}
use native.Mathlib.Omega.{arith}
use Rattle.words.specs.declared.WordNo.{WordNo}
use Rattle.words.specs.declared.Op.{Op}
use Rattle.words.specs.Units.{block_of}
use Rattle.words.specs.Operations.{apply_of}
use Rattle.words.proofs.Folds.{below?}
use Rattle.machine.specs.Claims.Flat.{flat_value, flat_after, flat_block}
use Rattle.machine.proofs.List.Owes.{fed}
use Rattle.machine.proofs.Protocol.BlockState.{words_done, value_done}

-- a word is its block's first and its place
whole : (w : ℕ) → 4 * (w / 4) + w % 4 ≡ w
whole w = omega arith

flat_read : (f : List ℕ) (w : ℕ) → get_or (flat_block f (w / 4)) (w % 4) 0 ≡ get_or f w 0
flat_read f w =
    get_or-take 4 (drop (4 * (w / 4)) f) (w % 4) 0 (omega arith) ∙ get_or-drop (4 * (w / 4)) f (w % 4) 0 ∙ ap (λ (i : ℕ). get_or f i 0) (whole w)

flat_write : (f : List ℕ) (w x : ℕ) → flat_block (set f w x) (w / 4) ≡ set (flat_block f (w / 4)) (w % 4) x
flat_write f w x =
    ap (λ (i : ℕ). take 4 (drop (4 * (w / 4)) (set f i x))) (sym (whole w)) ∙
    ap (take 4) (drop-set-add (4 * (w / 4)) f (w % 4) x) ∙
    take-set-lt 4 (drop (4 * (w / 4)) f) (w % 4) x (omega arith)

write_other : (f : List ℕ) (w x a : ℕ) → a ≢ w / 4 → flat_block (set f w x) a ≡ flat_block f a
write_other f w x a n = go (below? w (4 * a))
  where
    go : (w < 4 * a) ⊎ (4 * a ≤ w) → flat_block (set f w x) a ≡ flat_block f a
    go (inl h) = ap (take 4) (drop-set-lt (4 * a) f w x h)
    go (inr h) = apart (below? w (4 * a + 4))
      where
        apart : (w < 4 * a + 4) ⊎ (4 * a + 4 ≤ w) → flat_block (set f w x) a ≡ flat_block f a
        apart (inl l) = absurd (n (omega arith))
        apart (inr l) =
            let i = w - 4 * a in
            let e : 4 * a + i ≡ w = omega arith in
            ap (λ (j : ℕ). take 4 (drop (4 * a) (set f j x))) (sym e) ∙
            ap (take 4) (drop-set-add (4 * a) f i x) ∙
            take-set-le 4 (drop (4 * a) f) i x (omega arith)

-- the value that flat memory gives is the one that the block's words give
pub flat_value_lem : (f : List ℕ) (op : Op) (w : WordNo) → value_done op w (flat_block f (block_of w).0) ≡ flat_value f (fed op w)
flat_value_lem f op w = ap (λ (x : ℕ). (apply_of op x).value) (flat_read f w.0)

-- the block's words after it
pub flat_done : (f : List ℕ) (op : Op) (w : WordNo) → flat_block (flat_after f (fed op w)) (block_of w).0 ≡ words_done op w (flat_block f (block_of w).0)
flat_done f op w =
    flat_write f w.0 (apply_of op (get_or f w.0 0)).word ∙
    ap (λ (x : ℕ). set (flat_block f (w.0 / 4)) (w.0 % 4) (apply_of op x).word) (sym (flat_read f w.0))

-- other blocks are as they were
pub flat_other : (f : List ℕ) (op : Op) (w : WordNo) (a : ℕ) → a ≢ (block_of w).0 → flat_block (flat_after f (fed op w)) a ≡ flat_block f a
flat_other f op w a n = write_other f w.0 (apply_of op (get_or f w.0 0)).word a n
