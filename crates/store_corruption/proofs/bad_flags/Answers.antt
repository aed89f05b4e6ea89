-- `store_corruption::bad_flags` meets its contract. Assumes nothing.
use Rattle.std.proofs.Common.{◌≡◌, ℕ, length, ◌&&◌, Bool, false, List, rules, tests, arith, ap, sym, ◌∙◌, zero-add}
use lib.Dec.{leb}
use lib.ListN.{get_or}
use Rattle.std.specs.List.{list_any, enumerate_from}
use Rattle.std.proofs.lemmas.Iterator.{YieldsList-from_slice}
use Rattle.std.proofs.lemmas.Iterator.Consumers.{YieldsList-from_enumerate}
use Rattle.std.proofs.lemmas.Iterator.Search.{any_from_yields_List}
use Rattle.std.proofs.lemmas.List.FromFn.{get_or-enumerate_from, length-enumerate_from}
use Rattle.words.specs.Folds.{any_to}
use Rattle.words.proofs.Arrays.{any_places, any_same}
use Rattle.machine.specs.Machine.Corruption.{bad_flags}
use Rattle.store_corruption.proofs.bad_flags.Goals as goal

flag : ℕ → ℕ × Bool → Bool
flag n p = leb n p.0 && p.1

-- what is asked of each place with its number, or of the numbered list
numbered : (n : ℕ) (xs : List Bool) (j : ℕ) → length xs ≡ j → any_to (λ k. leb n k && get_or xs k false) j ≡ list_any (flag n) (enumerate_from 0 xs)
unfolding flag
numbered n xs j e =
    any_same (λ k. leb n k && get_or xs k false) (λ k. flag n (get_or (enumerate_from 0 xs) k (0, false))) j
    (λ k l. ap (flag n) (sym (get_or-enumerate_from 0 xs k (0, false) (omega arith) ∙ ap (λ i. (i, get_or xs k false)) (zero-add k)))) ∙
    any_places (flag n) (enumerate_from 0 xs) (0, false) j (length-enumerate_from 0 xs ∙ e)

pub returns : goal.returns
unfolding bad_flags flag
returns c =
    any_from_yields_List (flag c.args.n) _ _ _ c.any.ensures.ran (YieldsList-from_enumerate (YieldsList-from_slice c.args.b.now.present cc) cc) (λ x b q k. search (rules, tests)) ∙
    sym (numbered c.args.n c.args.b.now.present 8 (search rules))
