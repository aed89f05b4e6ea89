-- The store as one block sees it: what each lane has of the block, the messages about it in each lane's queues, the operation that
-- waits on it, its entry in main memory and its service. Nothing here says how many services there are. Assumes nothing.
use Prim.Native.Nat.{ℕ}
use mathlib.Core.Bool.{Bool, true, false, cond}
use mathlib.Core.List.{List, [], ◌∷◌}
use lib.Dec.{eqb}
use lib.ListN.{get_or, set}
use Rattle.words.specs.declared.Line.{Line}
use Rattle.words.specs.declared.BlockNo.{BlockNo}
use Rattle.words.specs.declared.WordNo.{WordNo}
use Rattle.words.specs.declared.Op.{Op}
use Rattle.words.specs.Lines.{no_line}
use Rattle.words.specs.Units.{block_of, place_of}
use Rattle.words.specs.Operations.{apply_of}
use Rattle.queues.specs.Messages.{ReturnMessage}
use Rattle.queues.specs.Messages.{DownMessage}
use Rattle.queues.specs.Queues.{messages}
use Rattle.lanes.specs.declared.Lane.{Lane}
use Rattle.lanes.specs.declared.Waiting.{Waiting}
use Rattle.lanes.specs.declared.Waiting.TheVariants.{Idle, Unserved, Served}
use Rattle.lanes.specs.Search.{search_of}
use Rattle.store.specs.declared.Store.{Store}
use Rattle.store.specs.declared.Block.{Block}
use Rattle.store.specs.Control.{service_of}
use Rattle.store.specs.Stores.{lane_at, block_at}
use Rattle.std.specs.Prelude.{Option, Some, None}
use Rattle.words.specs.declared.LineNo.{LineNo}
use Rattle.store.specs.declared.Service.{Service}

-- what a lane has of the block (the field's I, S and M)
pub data Status : Type 0 where
  Invalid : Status
  Shared : Status
  Modified : Status

-- the lane has a copy
abbrev pub held : Status → Bool
held Invalid = false
held Shared = true
held Modified = true

-- .. and it is PRIVATE
abbrev pub dirty : Status → Bool
dirty Invalid = false
dirty Shared = false
dirty Modified = true

-- a lane, as the block sees it: its line, the line's words (none where it is not held), the messages about the block in its
-- queues, head first, and its operation where that is on the block
pub record Seen : Type 0 where
  pub line : Status
  pub words : List ℕ
  pub returns : List ReturnMessage
  pub downs : List DownMessage
  pub waiting : Waiting

pub record BlockState : Type 0 where
  pub lane : ℕ → Seen
  pub block : Block
  pub service : Option Service

-- the elements that pass a test, in order
abbrev pub keep_if : {A : Type 0} → (A → Bool) → List A → List A
keep_if p [] = []
keep_if p (x ∷ xs) = cond (p x) (x ∷ keep_if p xs) (keep_if p xs)

-- the message is about the block
abbrev pub return_about : BlockNo → ReturnMessage → Bool
return_about a x = eqb x.block.0 a.0

abbrev pub down_about : BlockNo → DownMessage → Bool
down_about a x = eqb x.block.0 a.0

-- the line that Search finds among lines, and its words
abbrev pub status_at : Option LineNo → List Line → Status
status_at (Some i) ls = cond (get_or ls i.0 no_line).private Modified Shared
status_at None ls = Invalid

abbrev pub words_at : Option LineNo → List Line → List ℕ
words_at (Some i) ls = (get_or ls i.0 no_line).words
words_at None ls = []

-- the operation, where it is on the block
abbrev pub waiting_on : BlockNo → Waiting → Waiting
waiting_on a Idle = Idle
waiting_on a (Unserved o) = cond (eqb (block_of o.word).0 a.0) (Unserved o) Idle
waiting_on a (Served o) = cond (eqb (block_of o.word).0 a.0) (Served o) Idle

-- a lane of c lines as block a sees it
unfoldable pub seen : ℕ → BlockNo → Lane → Seen
seen c a l = record {
  line = status_at (search_of l c a) l.lines;
  words = words_at (search_of l c a) l.lines;
  returns = keep_if (return_about a) (messages l.returns.len l.returns.at);
  downs = keep_if (down_about a) (messages l.downs.len l.downs.at);
  waiting = waiting_on a l.waiting;
}

-- the block of number a
abbrev pub block_no : ℕ → BlockNo
block_no a = record { 0 = a }

-- a store as block a sees it
abbrev pub project : Store → ℕ → BlockState
project s a = record {
  lane = λ k. seen s.shape.c (block_no a) (lane_at s k);
  block = block_at s a;
  service = service_of s.control (block_no a);
}

-- the words after an operation on the word w among them
abbrev pub words_done : Op → WordNo → List ℕ → List ℕ
words_done op w ws = set ws (place_of w) (apply_of op (get_or ws (place_of w) 0)).word

-- .. and the value that it gives
abbrev pub value_done : Op → WordNo → List ℕ → ℕ
value_done op w ws = (apply_of op (get_or ws (place_of w) 0)).value
