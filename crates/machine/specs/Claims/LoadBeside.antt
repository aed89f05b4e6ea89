-- 02, W5: a load beside a waiting operation (the field's term is hit under miss). What begin does on a lane that waits, on every store that 14 passes; and
-- where such a load stands in the order of completion, in every list of calls from an opening. This file only states it; proofs/Theorems.antt has the theorems. Assumes nothing.
use Rattle.std.specs.Prelude.{◌+◌, ◌*◌, ◌<◌, ◌≡◌, true, false, length, get_or, Some, None, Ok}
use mathlib.Core.List.{List, ◌∷◌, ◌++◌, Memᴰ}
use Rattle.words.specs.declared.LaneNo.{LaneNo}
use Rattle.words.specs.declared.LineNo.{LineNo}
use Rattle.words.specs.declared.WordNo.{WordNo}
use Rattle.words.specs.declared.Op.{Op}
use Rattle.words.specs.declared.Op.TheVariants.{Load}
use Rattle.words.specs.declared.Shape.{Shape}
use Rattle.words.specs.Units.{block_of, place_of}
use Rattle.words.specs.Operations.{is_load}
use Rattle.lanes.specs.declared.Waiting.{Waiting}
use Rattle.lanes.specs.declared.Waiting.TheVariants.{Idle, Unserved, Served}
use Rattle.lanes.specs.Search.{line_at, search_of}
use Rattle.lanes.specs.UseOrder.{Insertion, used_of}
use Rattle.lanes.specs.Lanes.{with_order}
use Rattle.lanes.specs.Waits.{idle_of}
use Rattle.answers.specs.declared.Answer.TheVariants.{Opened, Done}
use Rattle.answers.specs.declared.Completion.{Completion}
use Rattle.answers.specs.declared.Refusal.TheVariants.{LaneBusy, PlacesExhausted}
use Rattle.answers.specs.Completions.{completion_of}
use Rattle.store.specs.declared.Store.{Store}
use Rattle.store.specs.declared.Outcome.{Outcome}
use Rattle.store.specs.Opening.{open_of}
use Rattle.store.specs.Stores.{lane_at, with_lane, with_completions}
use Rattle.store.specs.Quiet.{quiet_of}
use Rattle.machine.specs.Machine.Begun.{exhausted_of}
use Rattle.machine.specs.Machine.Corruption.{corrupt_of}
use Rattle.machine.specs.Machine.Change.{refuse}
use Rattle.machine.specs.Machine.Begin.{begin_of}
use Rattle.machine.specs.Machine.Calls.{Call, Begin, run, history_of}
use Rattle.machine.specs.Claims.Attribution.{Begun, begun_at}
use Rattle.machine.specs.Claims.Demand3.{begun, operations}

-- a load on line i: the word as it stands there, at the next place; of the whole store the lane's use order and the count of completions change, and nothing else
abbrev pub loaded : Store → LaneNo → LineNo → WordNo → Outcome
loaded s k i w =
    let l = lane_at s k.0 in
    record {
      answer = Ok (Done (completion_of k (get_or (line_at l i).words (place_of w) 0) (s.completions + 1)));
      store = with_completions (with_lane s k.0 (with_order (used_of s.shape.c i l.order) l)) (s.completions + 1);
    }

-- begin on lane k, which waits, of a word that the store has
pub record BesideWait (s : Store) (k : LaneNo) (w : WordNo) : Type 0 where
  -- a load that hits completes in that call; 17 is given to it as to any begin
  pub hits : (i : LineNo) → search_of (lane_at s k.0) s.shape.c (block_of w) ≡ Some i → exhausted_of s ≡ false → begin_of s k Load w ≡ loaded s k i w
  pub exhausted : (i : LineNo) → search_of (lane_at s k.0) s.shape.c (block_of w) ≡ Some i → exhausted_of s ≡ true → begin_of s k Load w ≡ refuse PlacesExhausted s
  -- if it misses, 8 is given as before
  pub misses : search_of (lane_at s k.0) s.shape.c (block_of w) ≡ None → begin_of s k Load w ≡ refuse LaneBusy s
  -- .. and to every other operation, whatever line it would hit
  pub others : (op : Op) → is_load op ≡ false → begin_of s k op w ≡ refuse LaneBusy s

-- the first claim: on every store that 14 passes, be it one that no opening gives
abbrev pub LoadBesideWait : Type 0
LoadBesideWait =
    (s : Store) (k : LaneNo) (w : WordNo) → corrupt_of s ≡ false → k.0 < s.shape.n → w.0 < 4 * s.shape.m → idle_of (lane_at s k.0).waiting ≡ false → BesideWait s k w

-- operation b is the one that a lane waits for
abbrev pub WaitsFor : Waiting → Begun → Type 0
WaitsFor Idle b = ⊥
WaitsFor (Unserved o) b = (b.op ≡ o.op) × (b.word ≡ o.word)
WaitsFor (Served o) b = (b.op ≡ o.op) × (b.word ≡ o.word)

-- after a list of calls lane k waits and loads word w; more calls follow
pub record StandsAhead (ins : Insertion) (shape : Shape) (calls : List Call) (k : LaneNo) (w : WordNo) (more : List Call) : Type 0 where
  -- what the lane waits for: it was begun there, and had not completed before the load
  pub waiting : Begun
  pub lane : waiting.lane ≡ k
  pub what : WaitsFor (lane_at (run ins (open_of shape).store calls).store k.0).waiting waiting
  pub was_begun : Memᴰ waiting (begun (history_of ins shape calls))
  pub not_yet : Memᴰ waiting (operations (history_of ins shape calls)) → ⊥
  -- in the order of completion the load stands where it was answered: behind what had completed before, ahead of all the rest
  pub rest : List Begun
  pub stands : operations (history_of ins shape (calls ++ (Begin k Load w ∷ more))) ≡ operations (history_of ins shape calls) ++ (begun_at (length calls) k Load w ∷ rest)
  -- .. where the operation that waited stands, once all is quiet
  pub behind : quiet_of (run ins (open_of shape).store (calls ++ (Begin k Load w ∷ more))).store ≡ true → Memᴰ waiting rest

-- the second claim: of every list of calls from an opening that isn't refused, in which a lane that waits loads and is answered with a completion
abbrev pub LoadStandsAhead : Type 0
LoadStandsAhead =
    (ins : Insertion) (shape : Shape) (calls : List Call) (k : LaneNo) (w : WordNo) (more : List Call) → (open_of shape).answer ≡ Ok Opened →
    idle_of (lane_at (run ins (open_of shape).store calls).store k.0).waiting ≡ false →
    (x : Completion) → (begin_of (run ins (open_of shape).store calls).store k Load w).answer ≡ Ok (Done x) → StandsAhead ins shape calls k w more
