-- 02, W1: a place on each completion. What a call makes of places, on every store that 14 passes and whose arrays have their declared lengths; so no
-- place ever wraps. This file only states it; proofs/Theorems.antt has the theorem, and demand 3 says it of a whole list. Assumes nothing.
use Rattle.std.specs.Prelude.{ℕ, zero, suc, ◌+◌, ◌≤◌, ◌≡◌, List, [], ◌∷◌, map, length}
use Rattle.lanes.specs.UseOrder.{Insertion}
use Rattle.answers.specs.declared.Completion.{Completion}
use Rattle.store.specs.declared.Store.{Store}
use Rattle.machine.specs.Machine.Begun.{begun_in, last_place}
use Rattle.machine.specs.Machine.Calls.{Call, Reply, call_of, completions_of, is_refused}
use Rattle.machine.specs.Claims.Attribution.{begun_by}

-- the given number of numbers, from i on: i, i + 1, i + 2 ..
unfoldable pub numbers_from : ℕ → ℕ → List ℕ
numbers_from i zero = []
numbers_from i (suc more) = i ∷ numbers_from (suc i) more

-- how many completions a reply gives, and how many operations a call with this reply begins
abbrev pub given_in : Reply → ℕ
given_in r = length (completions_of r)

abbrev pub begins_in : Call → Reply → ℕ
begins_in c r = length (begun_by 0 c (is_refused r))

-- what a call makes of places, and of completions so far plus operations waiting
pub record PlacesKept (ins : Insertion) (s : Store) (c : Call) : Type 0 where
  -- the completions that the call gives have the next places, in the order given, and are counted
  pub next : map (λ (x : Completion). x.place) (completions_of (call_of ins s c).reply) ≡ numbers_from (suc s.completions) (given_in (call_of ins s c).reply)
  pub counted : (call_of ins s c).store.completions ≡ s.completions + given_in (call_of ins s c).reply
  -- a begin that isn't refused raises completions so far plus operations waiting by one; nothing else changes that sum
  pub begun : begun_in (call_of ins s c).store ≡ begun_in s + begins_in c (call_of ins s c).reply
  -- .. and it never passes the last place
  pub within : begun_in (call_of ins s c).store ≤ last_place
