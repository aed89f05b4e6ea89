-- The store before W6: queues of two places, a control with at most one service; its opening, and when it is quiet. Lanes and blocks are the
-- declared ones: an array of a queue is a list there. Assumes nothing.
use Rattle.std.specs.Prelude.{ℕ, Bool, false, not, cond, List, [], ◌∷◌, get_or, set, replicate, Result, Ok, Err}
use Rattle.words.specs.declared.Shape.{Shape}
use Rattle.words.specs.Units.{shaped, zeros}
use Rattle.words.specs.Folds.{any_to}
use Rattle.queues.specs.declared.ReturnKind.TheVariants.{Eject}
use Rattle.queues.specs.declared.DownKind.TheVariants.{Update}
use Rattle.lanes.specs.declared.Lane.{Lane}
use Rattle.lanes.specs.declared.Waiting.TheVariants.{Idle}
use Rattle.answers.specs.declared.Answer.{Answer}
use Rattle.answers.specs.declared.Answer.TheVariants.{Opened}
use Rattle.answers.specs.declared.Refusal.TheVariants.{InvalidShape}
use Rattle.store.specs.declared.Block.{Block}
use Rattle.store.specs.Stores.{no_lane, no_block}
use Rattle.store.specs.Opening.{bad_shape, blank_line, line, blank_block}
use Rattle.store.specs.Quiet.{active_of}
use Rattle.machine_w5.specs.Control.{Control, Free, busy_of}
use Rattle.answers.specs.declared.Refusal.{Refusal}

-- the places of a queue
abbrev pub capacity : ℕ
capacity = 2

-- a store; no call's definition looks at its shape's limit
pub record Store : Type 0 where
  pub shape : Shape
  pub control : Control
  pub completions : ℕ
  pub lanes : List Lane
  pub blocks : List Block

-- an answer, and the store after it
pub record Outcome : Type 0 where
  pub answer : Result Answer Refusal
  pub store : Store

-- lane k of a store, block a of its main memory
abbrev pub lane_at : Store → ℕ → Lane
lane_at s k = get_or s.lanes k no_lane

abbrev pub block_at : Store → ℕ → Block
block_at s a = get_or s.blocks a no_block

-- a store with another control, another count of completions, other lanes, other blocks
abbrev pub with_control : Store → Control → Store
with_control s x = record { shape = s.shape; control = x; completions = s.completions; lanes = s.lanes; blocks = s.blocks }

abbrev pub with_completions : Store → ℕ → Store
with_completions s done = record { shape = s.shape; control = s.control; completions = done; lanes = s.lanes; blocks = s.blocks }

abbrev pub with_lanes : Store → List Lane → Store
with_lanes s ls = record { shape = s.shape; control = s.control; completions = s.completions; lanes = ls; blocks = s.blocks }

abbrev pub with_blocks : Store → List Block → Store
with_blocks s bs = record { shape = s.shape; control = s.control; completions = s.completions; lanes = s.lanes; blocks = bs }

-- a store with another lane k, another block a
abbrev pub with_lane : Store → ℕ → Lane → Store
with_lane s k l = with_lanes s (set s.lanes k l)

abbrev pub with_block : Store → ℕ → Block → Store
with_block s a b = with_blocks s (set s.blocks a b)

-- queues empty, no waiting operation; lines are ordered by number, line 0 oldest
unfoldable pub blank_lane : Lane
blank_lane = record {
  lines = replicate 8 blank_line;
  order = line 0 ∷ line 1 ∷ line 2 ∷ line 3 ∷ line 4 ∷ line 5 ∷ line 6 ∷ line 7 ∷ [];
  returns = record { len = 0; at = replicate capacity (record { kind = Eject; block = record { 0 = 0 }; words = zeros }) };
  downs = record { len = 0; at = replicate capacity (record { kind = Update; block = record { 0 = 0 }; words = zeros }) };
  waiting = Idle;
}

-- the store of an opening; no operation has completed (02, W1: "counting from 1 since opening")
unfoldable pub fresh_of : Shape → Store
fresh_of shape = record { shape = shape; control = Free; completions = 0; lanes = replicate 8 blank_lane; blocks = replicate 64 blank_block }

-- the blank store, which a tape has before it is opened
abbrev pub blank_store : Store
blank_store = fresh_of (shaped 0 0 0)

-- opening: 5 where n, c or m is outside its range, with the blank store
unfoldable pub open_of : Shape → Outcome
open_of shape =
    cond (bad_shape shape) (record { answer = Err InvalidShape; store = blank_store })
    (record { answer = Ok Opened; store = fresh_of shape })

-- no operation waits, no service, queues empty
unfoldable pub quiet_of : Store → Bool
quiet_of s = cond (busy_of s.control) false (not (any_to (λ k. active_of (lane_at s k)) s.shape.n))
