-- 02, W3: "Two lists from openings, one under each rule, that complete the same operations in the same order get the same values", and the same
-- places. This file only states it; proofs/Theorems.antt has the theorem. Assumes nothing.
use Rattle.std.specs.Prelude.{◌≡◌, List, map, Ok}
use Rattle.words.specs.declared.Shape.{Shape}
use Rattle.words.specs.declared.WordNo.{WordNo}
use Rattle.words.specs.declared.Op.{Op}
use Rattle.lanes.specs.UseOrder.{Insertion}
use Rattle.answers.specs.declared.Answer.TheVariants.{Opened}
use Rattle.store.specs.Opening.{open_of}
use Rattle.machine.specs.Machine.Calls.{Call, Entry, history_of}
use Rattle.machine.specs.Claims.Attribution.{Begun}
use Rattle.machine.specs.Claims.Demand3.{operations, values_in, places_in}

-- what is compared of an operation: load, store, exchange or add, with its v, and its word; not its lane, nor its begin call's index in the list
pub record Asked : Type 0 where
  pub op : Op
  pub word : WordNo

abbrev pub asked_by : Begun → Asked
asked_by b = record { op = b.op; word = b.word }

-- the operations of a history so, in the order of their completions
abbrev pub asked_in : List Entry → List Asked
asked_in h = map asked_by (operations h)

-- two histories show the same values and the same places, in the order of the completions
pub record ShowsSame (h g : List Entry) : Type 0 where
  pub values : values_in h ≡ values_in g
  pub places : places_in h ≡ places_in g

-- the claim: of any two openings, whatever their lanes, lines and blocks, and of any two lists, each under either policy
abbrev pub SameValues : Type 0
SameValues =
    (ins ins' : Insertion) (shape shape' : Shape) (calls calls' : List Call) → (open_of shape).answer ≡ Ok Opened → (open_of shape').answer ≡ Ok Opened →
    asked_in (history_of ins shape calls) ≡ asked_in (history_of ins' shape' calls') →
    ShowsSame (history_of ins shape calls) (history_of ins' shape' calls')
