-- 01, "Flat memory and flags": which operation a completion is of, from the calls and their answers alone. Assumes nothing.
use Rattle.std.specs.Prelude.{ℕ, suc, Bool, cond, List, [], ◌∷◌, ◌++◌, map, eqb}
use Rattle.words.specs.declared.LaneNo.{LaneNo}
use Rattle.words.specs.declared.WordNo.{WordNo}
use Rattle.words.specs.declared.Op.{Op}
use Rattle.answers.specs.declared.Completion.{Completion}
use Rattle.machine.specs.Machine.Calls.{Call, Begin, Serve, Return, Deliver, Settle, Entry, completions_of, is_wait, is_refused}

-- an operation begun: its begin call's index in the list, from 0, its lane, and its word and v
pub record Begun : Type 0 where
  pub index : ℕ
  pub lane : LaneNo
  pub op : Op
  pub word : WordNo

-- the operation that a completion is of, if there is one
pub data Origin : Type 0 where
  Unknown : Origin
  Of : Begun → Origin

-- a completion with its operation
pub record Attributed : Type 0 where
  pub completion : Completion
  pub origin : Origin

-- the operation of the begin call of index i
abbrev pub begun_at : ℕ → LaneNo → Op → WordNo → Begun
begun_at i k op w = record { index = i; lane = k; op = op; word = w }

-- for each lane the last begin call so far that was answered with a wait
abbrev pub LastWaits : Type 0
LastWaits = ℕ → Origin

abbrev pub no_waits : LastWaits
no_waits k = Unknown

-- .. after the call of index i
unfoldable pub waits_after : ℕ → LastWaits → Call → Bool → LastWaits
waits_after i last (Begin k op w) waited = λ j. cond waited (cond (eqb j k.0) (Of (begun_at i k op w)) (last j)) (last j)
waits_after i last (Serve k) waited = last
waits_after i last (Return k) waited = last
waits_after i last (Deliver k) waited = last
waits_after i last Settle waited = last

-- A completion in a begin call's answer is of the operation that call began. Any other is of the operation begun by the last begin
-- call before it, on the lane it carries, that was answered with a wait
unfoldable pub origin_of : ℕ → LastWaits → Call → Completion → Origin
origin_of i last (Begin k op w) x = Of (begun_at i k op w)
origin_of i last (Serve k) x = last x.lane.0
origin_of i last (Return k) x = last x.lane.0
origin_of i last (Deliver k) x = last x.lane.0
origin_of i last Settle x = last x.lane.0

-- the completions of a list of calls from index i on, in order, each with its operation
unfoldable pub attribute : ℕ → LastWaits → List Entry → List Attributed
attribute i last [] = []
attribute i last (e ∷ es) =
    map (λ (x : Completion). record { completion = x; origin = origin_of i last e.call x }) (completions_of e.reply) ++
    attribute (suc i) (waits_after i last e.call (is_wait e.reply)) es

-- the operation begun by a call of index i: each begin call that isn't refused begins one operation
unfoldable pub begun_by : ℕ → Call → Bool → List Begun
begun_by i (Begin k op w) refused = cond refused [] (begun_at i k op w ∷ [])
begun_by i (Serve k) refused = []
begun_by i (Return k) refused = []
begun_by i (Deliver k) refused = []
begun_by i Settle refused = []

-- the operations begun by a list of calls from index i on
unfoldable pub begun_from : ℕ → List Entry → List Begun
begun_from i [] = []
begun_from i (e ∷ es) = begun_by i e.call (is_refused e.reply) ++ begun_from (suc i) es

-- an origin as a list of none or one
abbrev pub known : Origin → List Begun
known Unknown = []
known (Of b) = b ∷ []

-- the operations that completions are of, in their order
unfoldable pub operations_of : List Attributed → List Begun
operations_of [] = []
operations_of (x ∷ xs) = known x.origin ++ operations_of xs
