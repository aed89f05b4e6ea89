-- The protocol's invariant, of one block: v is memory's view of the lanes, f the block's words in flat memory. The flags occur in
-- `Directory` alone, and no conjunct speaks of another block or of how many services there are. Assumes nothing.
use Prim.Native.Nat.{ℕ, ◌+◌, ◌<◌, ◌≤◌}
use mathlib.Core.Path.{◌≡◌}
use mathlib.Core.Logic.{◌≢◌}
use mathlib.Core.Bool.{Bool, true, false, cond, ◌||◌}
use mathlib.Core.List.{List, [], ◌∷◌}
use lib.Dec.{eqb}
use lib.ListN.{length, get_or}
use Rattle.words.specs.Folds.{sum_to}
use Rattle.words.specs.Operations.{is_load}
use Rattle.queues.specs.Messages.{ReturnMessage}
use Rattle.queues.specs.declared.ReturnKind.{ReturnKind}
use Rattle.queues.specs.declared.ReturnKind.TheVariants.{Eject, WriteEject, Updated, Purged, PurgedWords, Gone}
use Rattle.queues.specs.Messages.{DownMessage}
use Rattle.queues.specs.declared.DownKind.{DownKind}
use Rattle.queues.specs.declared.DownKind.TheVariants.{Update, Purge, Grant, BareGrant}
use Rattle.lanes.specs.declared.Command.{Command}
use Rattle.lanes.specs.declared.Command.TheVariants.{ReadShared, ReadExclusive, Exclude}
use Rattle.lanes.specs.declared.Operation.{Operation}
use Rattle.lanes.specs.declared.Waiting.{Waiting}
use Rattle.lanes.specs.declared.Waiting.TheVariants.{Idle, Unserved, Served}
use Rattle.store.specs.declared.Block.{Block}
use Rattle.store.specs.declared.Service.{Service}
use Rattle.store.specs.Control.{awaited_of}
use Rattle.machine.specs.Machine.Return.{is_answer}
use Rattle.machine.specs.Machine.Settle.{is_order}
use Rattle.machine.proofs.Protocol.BlockState.{Status, Invalid, Shared, Modified, held, dirty, Seen, BlockState}
use Rattle.std.specs.Prelude.{Option, Some, None}

-- a return message takes a status to the next one
abbrev pub Fits : Status → ReturnKind → Status → Type 0
Fits v Eject y = (v ≡ Shared) × (y ≡ Invalid)
Fits v WriteEject y = (v ≡ Modified) × (y ≡ Invalid)
Fits v Updated y = (held v ≡ true) × (y ≡ Shared)
Fits v Purged y = (v ≡ Shared) × (y ≡ Invalid)
Fits v PurgedWords y = (v ≡ Modified) × (y ≡ Invalid)
Fits v Gone y = (v ≡ Invalid) × (y ≡ Invalid)

-- return messages lead from a status to another, head first
abbrev pub Sent : Status → List ReturnMessage → Status → Type 0
Sent v [] x = v ≡ x
Sent v (m ∷ ms) x = (y : Status) × Fits v m.kind y × Sent y ms x

-- the waiting operation is load
abbrev pub loads : Waiting → Bool
loads Idle = false
loads (Unserved o) = is_load o.op
loads (Served o) = is_load o.op

-- what a grant with words makes of the line
abbrev pub filled : Waiting → Status
filled w = cond (loads w) Shared Modified

-- after a grant there is at most one order
abbrev pub Rest : Status → List DownMessage → Status → Type 0
Rest y [] x = y ≡ x
Rest y (m ∷ ms) x = (is_order m.kind ≡ true) × (ms ≡ []) × (y ≡ x)

-- the down messages, by the kind of their head: an order is alone; a grant fits the line
abbrev pub DueHead : Waiting → Status → DownKind → List DownMessage → Status → Type 0
DueHead w l Update ms x = (ms ≡ []) × (l ≡ x)
DueHead w l Purge ms x = (ms ≡ []) × (l ≡ x)
DueHead w l Grant ms x = (l ≡ Invalid) × Rest (filled w) ms x
DueHead w l BareGrant ms x = (l ≡ Shared) × (loads w ≡ false) × Rest Modified ms x

-- the line's status, the down messages, and the status that the grant among them leads to
abbrev pub Due : Waiting → Status → List DownMessage → Status → Type 0
Due w l [] x = l ≡ x
Due w l (m ∷ ms) x = DueHead w l m.kind ms x

-- CHAIN: what memory believes of a lane leads, by the return messages, to where its line leads by the down messages
pub record Chain (v : Status) (l : Seen) : Type 0 where
  pub meet : Status
  pub sent : Sent v l.returns meet
  pub due : Due l.waiting l.line l.downs meet

-- answers among return messages, orders and grants among down messages
abbrev pub answer_count : List ReturnMessage → ℕ
answer_count [] = 0
answer_count (m ∷ ms) = cond (is_answer m.kind) 1 0 + answer_count ms

abbrev pub order_count : List DownMessage → ℕ
order_count [] = 0
order_count (m ∷ ms) = cond (is_order m.kind) 1 0 + order_count ms

abbrev pub grant_count : List DownMessage → ℕ
grant_count [] = 0
grant_count (m ∷ ms) = cond (is_order m.kind) 0 1 + grant_count ms

-- what a lane still owes: orders to take and answers on their way
unfoldable pub owed : Seen → ℕ
owed l = answer_count l.returns + order_count l.downs

-- the operation is served
abbrev pub served_count : Waiting → ℕ
served_count Idle = 0
served_count (Unserved o) = 0
served_count (Served o) = 1

-- the service is lane k's
abbrev pub serving : Option Service → ℕ → ℕ
serving None k = 0
serving (Some s) k = cond (eqb s.lane.0 k) 1 0

-- WAIT: the command of an operation fits the line
abbrev pub CommandFits : Status → Command → Bool → Type 0
CommandFits l ReadShared load = (l ≡ Invalid) × (load ≡ true)
CommandFits l ReadExclusive load = (l ≡ Invalid) × (load ≡ false)
CommandFits l Exclude load = (dirty l ≡ false) × (load ≡ false)

abbrev pub OperationFits : Status → Operation → Type 0
OperationFits l o = CommandFits l o.command (is_load o.op)

abbrev pub WaitFits : Status → Waiting → Type 0
WaitFits l Idle = Unit {0}
WaitFits l (Unserved o) = OperationFits l o
WaitFits l (Served o) = OperationFits l o

-- DATA: a message that brings words brings flat memory's
abbrev pub bearing : ReturnKind → Bool
bearing Eject = false
bearing WriteEject = true
bearing Updated = true
bearing Purged = false
bearing PurgedWords = true
bearing Gone = false

abbrev pub ReturnsBear : List ℕ → List ReturnMessage → Type 0
ReturnsBear f [] = Unit {0}
ReturnsBear f (m ∷ ms) = (bearing m.kind ≡ true → m.words ≡ f) × ReturnsBear f ms

abbrev pub is_grant : DownKind → Bool
is_grant Update = false
is_grant Purge = false
is_grant Grant = true
is_grant BareGrant = false

abbrev pub DownsBear : List ℕ → List DownMessage → Type 0
DownsBear f [] = Unit {0}
DownsBear f (m ∷ ms) = (is_grant m.kind ≡ true → m.words ≡ f) × DownsBear f ms

-- the words that a lane has are flat memory's
pub record Bears (f : List ℕ) (l : Seen) : Type 0 where
  pub line : held l.line ≡ true → l.words ≡ f
  pub returns : ReturnsBear f l.returns
  pub downs : DownsBear f l.downs

-- MODE: no UPDATE, no UPDATED
abbrev pub is_update : DownKind → Bool
is_update Update = true
is_update Purge = false
is_update Grant = false
is_update BareGrant = false

abbrev pub some_update : List DownMessage → Bool
some_update [] = false
some_update (m ∷ ms) = is_update m.kind || some_update ms

abbrev pub is_updated : ReturnKind → Bool
is_updated Eject = false
is_updated WriteEject = false
is_updated Updated = true
is_updated Purged = false
is_updated PurgedWords = false
is_updated Gone = false

abbrev pub some_updated : List ReturnMessage → Bool
some_updated [] = false
some_updated (m ∷ ms) = is_updated m.kind || some_updated ms

-- COVER: what the command needs of a lane that owes nothing
abbrev pub Covered : Command → Status → Type 0
Covered ReadShared x = dirty x ≡ false
Covered ReadExclusive x = x ≡ Invalid
Covered Exclude x = x ≡ Invalid

-- READ exclusive and EXCLUDE
abbrev pub exclusive : Command → Bool
exclusive ReadShared = false
exclusive ReadExclusive = true
exclusive Exclude = true

-- what holds of the service, if the block has one
pub record ServiceFits (v : ℕ → Status) (lane : ℕ → Seen) (s : Service) : Type 0 where
  pub below : s.lane.0 < 8
  -- REST: nothing is under way to or from its lane
  pub returns : (lane s.lane.0).returns ≡ []
  pub downs : (lane s.lane.0).downs ≡ []
  pub bare : s.bare ≡ held (lane s.lane.0).line
  pub operation : Operation
  pub waits : (lane s.lane.0).waiting ≡ Served operation
  pub command : s.command ≡ operation.command
  pub cover : (j : ℕ) → j ≢ s.lane.0 → owed (lane j) ≡ 0 → Covered s.command (v j)
  pub no_update : exclusive s.command ≡ true → (j : ℕ) → some_update (lane j).downs ≡ false
  pub no_updated : exclusive s.command ≡ true → (j : ℕ) → some_updated (lane j).returns ≡ false

abbrev pub ServedWell : (ℕ → Status) → (ℕ → Seen) → Option Service → Type 0
ServedWell v lane None = Unit {0}
ServedWell v lane (Some s) = ServiceFits v lane s

-- memory's view of lane k, from the flags
abbrev pub view_of : Block → ℕ → Status
view_of b k = cond (get_or b.present k false) (cond b.modified Modified Shared) Invalid

-- DIR: the view is the one that the flags give; MODIFIED means that some lane has the block PRIVATE
pub record Directory (v : ℕ → Status) (b : Block) : Type 0 where
  pub flags : length b.present ≡ 8
  pub view : (k : ℕ) → v k ≡ view_of b k
  pub some : b.modified ≡ true → (k : ℕ) × (v k ≡ Modified)

pub record Inv (v : ℕ → Status) (b : BlockState) (f : List ℕ) : Type 0 where
  pub directory : Directory v b.block
  pub chain : (k : ℕ) → Chain (v k) (b.lane k)
  -- GRANT: a served operation has its grant on the way or its service, and only it has
  pub grant : (k : ℕ) → grant_count (b.lane k).downs + serving b.service k ≡ served_count (b.lane k).waiting
  pub wait : (k : ℕ) → WaitFits (b.lane k).line (b.lane k).waiting
  -- SOLE
  pub sole : (k j : ℕ) → v k ≡ Modified → j ≢ k → v j ≡ Invalid
  pub bears : (k : ℕ) → Bears f (b.lane k)
  pub main : ((k : ℕ) → dirty (v k) ≡ false) → b.block.words ≡ f
  -- COUNT
  pub count : sum_to (λ k. owed (b.lane k)) 8 ≡ awaited_of b.service
  pub far : (j : ℕ) → 8 ≤ j → owed (b.lane j) ≡ 0
  pub service : ServedWell v b.lane b.service
