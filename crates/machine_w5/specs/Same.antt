-- 02, W6: with L = 1 nothing that a lane or a tape shows may differ from before, save where a call before W6 was refused by 12, a store handed in
-- has a queue length above 2, or a tape has a record of kind 08. This file states it: when a store before W6 and a store of today are the same, and
-- what the two machines then show. proofs/Theorems.antt has the theorems. Assumes nothing.
use Rattle.std.specs.Prelude.{ℕ, zero, suc, ◌<◌, ◌≤◌, ◌≡◌, Bool, false, cond, ◌||◌, List, [], ◌∷◌, ◌++◌, map, eqb, length, get_or, drop, replicate, Some, Result, Ok, Err}
use Rattle.words.specs.declared.Shape.{Shape}
use Rattle.tape_records.specs.Records.{field, parse_of}
use Rattle.queues.specs.Queues.{ReturnQueue}
use Rattle.queues.specs.Queues.{DownQueue}
use Rattle.queues.specs.Queues.{messages, capacity, no_return, no_down}
use Rattle.lanes.specs.declared.Lane.{Lane}
use Rattle.lanes.specs.UseOrder.{Insertion}
use Rattle.answers.specs.declared.Answer.{Answer}
use Rattle.answers.specs.declared.Answer.TheVariants.{Opened, Done, Wait, Step}
use Rattle.answers.specs.Refusals.{number_of}
use Rattle.store.specs.declared.Store.{Store}
use Rattle.store.specs.declared.Control.{Control}
use Rattle.store.specs.Control.{slot_count, busy_with, with_slot, service_of, open_services}
use Rattle.store.specs.Stores.{no_lane}
use Rattle.store.specs.Opening.{blank_control, open_of}
use Rattle.machine.specs.Machine.Calls.{Call, Reply, Answers, SettledWith, Called, Entry, Run, call_of, run, history_of}
use Rattle.machine.specs.Machine.Picture.{picture_of}
use Rattle.machine.specs.Machine.Text.{printed}
use Rattle.machine_w5.specs.Control.{Free, Busy}
use Rattle.machine_w5.specs.Control as FormerControl
use Rattle.machine_w5.specs.Stores as Former
use Rattle.machine_w5.specs.Calls as FormerCalls
use Rattle.machine_w5.specs.Tape as FormerTape
use Rattle.answers.specs.declared.Refusal.{Refusal}

-- a queue of two places and one of eight have the same messages, at most two. What stands past them in the arrays is not looked at
pub record SameQueue {A : Type 0} (formerLen : ℕ) (formerAt : List A) (len : ℕ) (at : List A) : Type 0 where
  pub lens : formerLen ≡ len
  pub short : formerLen ≤ 2
  pub contents : messages formerLen formerAt ≡ messages len at
  pub former_places : length formerAt ≡ Former.capacity
  pub places : length at ≡ capacity

-- .. of the two directions
abbrev pub SameReturns : ReturnQueue → ReturnQueue → Type 0
SameReturns p q = SameQueue p.len p.at q.len q.at

abbrev pub SameDowns : DownQueue → DownQueue → Type 0
SameDowns p q = SameQueue p.len p.at q.len q.at

-- two lanes: lines, use order and waiting operation are equal, the queues are the same
pub record SameLane (p l : Lane) : Type 0 where
  pub lines : p.lines ≡ l.lines
  pub order : p.order ≡ l.order
  pub waiting : p.waiting ≡ l.waiting
  pub returns : SameReturns p.returns l.returns
  pub downs : SameDowns p.downs l.downs

-- the lanes of two stores with n lanes: eight stand in each array, and those below n are the same. What stands from n on is not looked at
pub record SameLanes (n : ℕ) (ps ls : List Lane) : Type 0 where
  pub former_lanes : length ps ≡ 8
  pub lanes : length ls ≡ 8
  pub lane : (k : ℕ) → k < 8 → k < n → SameLane (get_or ps k no_lane) (get_or ls k no_lane)

-- no service, or the same one, in whatever slot
abbrev pub SameServices : FormerControl.Control → Control → Type 0
SameServices Free y = open_services y ≡ 0
SameServices (Busy v) y = (open_services y ≡ 1) × (service_of y v.block ≡ Some v)

-- the controls of two stores; today's has eight slots
pub record SameControl (x : FormerControl.Control) (y : Control) : Type 0 where
  pub slots : length y.slots ≡ slot_count
  pub services : SameServices x y

-- a store before W6 and a store of today with L = 1. Each has its arrays' lengths, as far as they differ or are needed
pub record Same (t : Former.Store) (s : Store) : Type 0 where
  pub shape : t.shape ≡ s.shape
  pub limit : s.shape.limit ≡ 1
  pub control : SameControl t.control s.control
  pub completions : t.completions ≡ s.completions
  pub lanes : SameLanes s.shape.n t.lanes s.lanes
  pub blocks : t.blocks ≡ s.blocks

-- a lane before W6 whose queues have two places and at most two messages
pub record ShortLane (p : Lane) : Type 0 where
  pub returns : p.returns.len ≤ 2
  pub downs : p.downs.len ≤ 2
  pub return_places : length p.returns.at ≡ Former.capacity
  pub down_places : length p.downs.at ≡ Former.capacity

-- a store before W6 whose n lanes are such, in an array of eight; its shape had no limit, and has L = 1 here
pub record Short (t : Former.Store) : Type 0 where
  pub limit : t.shape.limit ≡ 1
  pub lanes : length t.lanes ≡ 8
  pub lane : (k : ℕ) → k < 8 → k < t.shape.n → ShortLane (Former.lane_at t k)

-- today's lane with the messages of a lane before W6: six places more in each queue
abbrev pub wider_lane : Lane → Lane
wider_lane l = record {
  lines = l.lines;
  order = l.order;
  returns = record { len = l.returns.len; at = l.returns.at ++ replicate 6 no_return };
  downs = record { len = l.downs.len; at = l.downs.at ++ replicate 6 no_down };
  waiting = l.waiting;
}

-- today's control with the service of a control before W6, in slot 0
abbrev pub wider_control : FormerControl.Control → Control
wider_control Free = blank_control
wider_control (Busy v) = with_slot 0 (busy_with v) blank_control

-- today's store of a store before W6
abbrev pub widened : Former.Store → Store
widened t = record { shape = t.shape; control = wider_control t.control; completions = t.completions; lanes = map wider_lane t.lanes; blocks = t.blocks }

-- a store handed in that has no queue length above 2: there is a store of today that is the same
abbrev pub SameStore : Type 0
SameStore = (t : Former.Store) → Short t → Same t (widened t)

-- whether an answer, and the reply of a call, is a refusal by 12
abbrev pub full_of : Result Answer Refusal → Bool
full_of (Ok Opened) = false
full_of (Ok (Done x)) = false
full_of (Ok Wait) = false
full_of (Ok Step) = false
full_of (Err r) = eqb (number_of r) 12

abbrev pub full_in : Reply → Bool
full_in (Answers a) = full_of a
full_in (SettledWith (Ok counts) cs) = false
full_in (SettledWith (Err r) cs) = eqb (number_of r) 12

-- the replies of two calls are equal, and the stores after them the same
pub record SameCalled (r : FormerCalls.Called) (q : Called) : Type 0 where
  pub reply : r.reply ≡ q.reply
  pub store : Same r.store q.store

-- a call on the same stores, save where the call before W6 is refused by 12
abbrev pub SameCall : Type 0
SameCall =
    (ins : Insertion) (t : Former.Store) (s : Store) (x : Call) → Same t s → full_in (FormerCalls.call_of ins t x).reply ≡ false →
    SameCalled (FormerCalls.call_of ins t x) (call_of ins s x)

-- the picture of the same stores: answer and buffer
abbrev pub SamePicture : Type 0
SamePicture = (t : Former.Store) (s : Store) (buffer : List ℕ) → Same t s → FormerCalls.picture_of t buffer ≡ picture_of s buffer

-- the histories of two lists of calls are equal, and the last stores the same
pub record SameRun (r : FormerCalls.Run) (q : Run) : Type 0 where
  pub history : r.history ≡ q.history
  pub store : Same r.store q.store

-- no reply of a history is 12
abbrev pub NoneFull : List Entry → Type 0
NoneFull [] = Unit {0}
NoneFull (e ∷ rest) = (full_in e.reply ≡ false) × NoneFull rest

-- a list of calls on the same stores, save where a call before W6 is refused by 12
abbrev pub SameList : Type 0
SameList =
    (ins : Insertion) (t : Former.Store) (s : Store) (calls : List Call) → Same t s → NoneFull (FormerCalls.run ins t calls).history →
    SameRun (FormerCalls.run ins t calls) (run ins s calls)

-- an opening with L = 1: equal answers, and the same stores unless it is refused
pub record SameOpening (shape : Shape) : Type 0 where
  pub answer : (Former.open_of shape).answer ≡ (open_of shape).answer
  pub store : (open_of shape).answer ≡ Ok Opened → Same (Former.open_of shape).store (open_of shape).store

abbrev pub SameOpenings : Type 0
SameOpenings = (shape : Shape) → shape.limit ≡ 1 → SameOpening shape

-- a list of calls from an opening with L = 1, with no exception: no call before W6 is refused by 12 there. Also where the opening is refused
abbrev pub SameHistory : Type 0
SameHistory = (ins : Insertion) (shape : Shape) (calls : List Call) → shape.limit ≡ 1 → FormerCalls.history_of ins shape calls ≡ history_of ins shape calls

-- .. and the last stores, unless it is refused
abbrev pub SameLast : Type 0
SameLast =
    (ins : Insertion) (shape : Shape) (calls : List Call) → shape.limit ≡ 1 → (open_of shape).answer ≡ Ok Opened →
    Same (FormerCalls.run ins (Former.open_of shape).store calls).store (run ins (open_of shape).store calls).store

-- whether one of a tape's records has kind 08, here among at most the given number of them
unfoldable pub has_limited_open_from : ℕ → List ℕ → Bool
has_limited_open_from zero tape = false
has_limited_open_from (suc more) tape =
    let rest = has_limited_open_from more (drop (parse_of tape).size tape) in
    cond (eqb (length tape) 0) false (eqb (field tape 0) 8 || rest)

-- .. among all of them: a record takes a byte or more
abbrev pub has_limited_open : List ℕ → Bool
has_limited_open tape = has_limited_open_from (length tape) tape

-- a tape that has no record of kind 08 prints the same bytes
abbrev pub SameTape : Type 0
SameTape = (tape : List ℕ) → has_limited_open tape ≡ false → FormerTape.printed tape ≡ printed tape
