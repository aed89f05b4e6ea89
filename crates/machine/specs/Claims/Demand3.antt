-- Demand 3, stated: the order of completion is the order of memory. One claim about every list of load, store, exchange, add,
-- serve, return, deliver and settle calls, refused ones included, from any opening that isn't refused, under either insertion
-- policy (02, W3; the program's is LoadsOldest).
-- The supply contract's sentence: a lane reads the last word stored, in every order in which the lanes' messages reach the
-- controller, and the places of the completions run 1, 2, 3 without a gap. This file only states it; proofs/Theorems.antt has the theorem. Assumes nothing.
use Rattle.std.specs.Prelude.{ℕ, ◌<◌, ◌≡◌, true, length, Ok}
use mathlib.Core.List.{List, [], ◌∷◌, map, Memᴰ}
use Rattle.words.specs.declared.Shape.{Shape}
use Rattle.lanes.specs.UseOrder.{Insertion}
use Rattle.answers.specs.declared.Answer.TheVariants.{Opened}
use Rattle.store.specs.declared.Store.{Store}
use Rattle.store.specs.Opening.{open_of}
use Rattle.store.specs.Quiet.{quiet_of}
use Rattle.machine.specs.Machine.Calls.{Call, Entry, run}
use Rattle.machine.specs.Claims.Attribution.{Begun, Of, Attributed, no_waits, attribute, begun_from, operations_of}
use Rattle.machine.specs.Claims.Places.{numbers_from}
use Rattle.machine.specs.Claims.Flat.{flat_of, flat_values, flat_end, flat_block}
use Rattle.machine.specs.Claims.Flags.{Flags, shown_of}

-- the completions of a history, in order, each with the operation that calls and answers alone say it is of
abbrev pub completed : List Entry → List Attributed
completed h = attribute 0 no_waits h

-- the operations so found, in the order of the completions
abbrev pub operations : List Entry → List Begun
operations h = operations_of (completed h)

-- the values of the completions, and their places, in order
abbrev pub values_in : List Entry → List ℕ
values_in h = map (λ (x : Attributed). x.completion.value) (completed h)

abbrev pub places_in : List Entry → List ℕ
places_in h = map (λ (x : Attributed). x.completion.place) (completed h)

-- the operations begun: those of the begin calls that aren't refused
abbrev pub begun : List Entry → List Begun
begun h = begun_from 0 h

-- no number stands twice in a list
abbrev pub Distinct : List ℕ → Type 0
Distinct [] = Unit {0}
Distinct (i ∷ is) = (Memᴰ i is → ⊥) × Distinct is

-- a completion is of an operation that was begun, on the lane that it carries
pub record Owned (h : List Entry) (x : Attributed) : Type 0 where
  pub operation : Begun
  pub found : x.origin ≡ Of operation
  pub lane : operation.lane ≡ x.completion.lane
  pub was_begun : Memᴰ operation (begun h)

-- what also holds where the last store is quiet
pub record WhenQuiet (m : ℕ) (h : List Entry) (s : Store) : Type 0 where
  -- every operation begun has completed
  pub all_completed : (b : Begun) → Memᴰ b (begun h) → Memᴰ b (operations h)
  -- the store shows flat memory's words, for every block
  pub shows : (a : ℕ) → a < m → shown_of s a ≡ flat_block (flat_end (flat_of m) (operations h)) a
  -- the four properties of the flags
  pub flags : Flags s

-- the claim, of a history and the last store, from an opening of a shape
pub record Coherent (shape : Shape) (h : List Entry) (s : Store) : Type 0 where
  -- the store still has the shape that it was opened with
  pub same : s.shape ≡ shape
  -- every completion is of an operation begun
  pub owned : (x : Attributed) → Memᴰ x (completed h) → Owned h x
  -- no operation completes twice: its begin call's index in the list tells it from all others
  pub once : Distinct (map (λ (b : Begun). b.index) (operations h))
  -- each completion's value equals the one flat memory then gives, fed the operations in the order of the completions
  pub values : values_in h ≡ flat_values (flat_of shape.m) (operations h)
  -- the places run 1, 2, 3 without a gap, in the order of the completions (02, W1)
  pub places : places_in h ≡ numbers_from 1 (length (completed h))
  pub when_quiet : quiet_of s ≡ true → WhenQuiet shape.m h s

-- demand 3
abbrev pub Demand3 : Type 0
Demand3 =
    (ins : Insertion) (shape : Shape) (calls : List Call) → (open_of shape).answer ≡ Ok Opened →
    Coherent shape (run ins (open_of shape).store calls).history (run ins (open_of shape).store calls).store
