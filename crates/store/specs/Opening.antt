-- 01, "Parts of a store": opening gives words and block numbers 0, flags reset, queues empty, no waiting operation and no service. Assumes nothing.
use Rattle.std.specs.Prelude.{ℕ, Bool, false, cond, [], ◌∷◌, ltb, replicate, Result, Ok, Err}
use Rattle.words.specs.declared.Line.{Line}
use Rattle.words.specs.declared.LineNo.{LineNo}
use Rattle.words.specs.declared.Shape.{Shape}
use Rattle.words.specs.Units.{limited, zeros}
use Rattle.words.specs.Folds.{any_of}
use Rattle.queues.specs.declared.ReturnKind.TheVariants.{Eject}
use Rattle.queues.specs.declared.DownKind.TheVariants.{Update}
use Rattle.queues.specs.Queues.{capacity}
use Rattle.lanes.specs.declared.Lane.{Lane}
use Rattle.lanes.specs.declared.Waiting.TheVariants.{Idle}
use Rattle.answers.specs.declared.Answer.TheVariants.{Opened}
use Rattle.answers.specs.declared.Refusal.{Refusal}
use Rattle.answers.specs.declared.Refusal.TheVariants.{InvalidShape, InvalidLimit}
use Rattle.store.specs.declared.Store.{Store}
use Rattle.store.specs.declared.Block.{Block}
use Rattle.store.specs.declared.Control.{Control}
use Rattle.store.specs.declared.Outcome.{Outcome}
use Rattle.store.specs.LaneSets.{nobody}
use Rattle.store.specs.Control.{slot_count, free}

-- Lanes n: 2 to 8. Lines per lane c: 1 to 8. Blocks m: 1 to 64
unfoldable pub bad_shape : Shape → Bool
bad_shape shape = any_of (ltb shape.n 2 ∷ ltb 8 shape.n ∷ ltb shape.c 1 ∷ ltb 8 shape.c ∷ ltb shape.m 1 ∷ ltb 64 shape.m ∷ [])

-- 18: L outside 1 to 8 (02, W6)
abbrev pub bad_limit : Shape → Bool
bad_limit shape = any_of (ltb shape.limit 1 ∷ ltb 8 shape.limit ∷ [])

-- words and block number 0, flags reset
abbrev pub blank_line : Line
blank_line = record { valid = false; private = false; block = record { 0 = 0 }; words = zeros }

-- the line of number i, in a use order
abbrev pub line : ℕ → LineNo
line i = record { 0 = i }

-- queues empty, no waiting operation; lines are ordered by number, line 0 oldest
unfoldable pub blank_lane : Lane
blank_lane = record {
  lines = replicate 8 blank_line;
  order = line 0 ∷ line 1 ∷ line 2 ∷ line 3 ∷ line 4 ∷ line 5 ∷ line 6 ∷ line 7 ∷ [];
  returns = record { len = 0; at = replicate capacity (record { kind = Eject; block = record { 0 = 0 }; words = zeros }) };
  downs = record { len = 0; at = replicate capacity (record { kind = Update; block = record { 0 = 0 }; words = zeros }) };
  waiting = Idle;
}

-- words 0, flags reset
unfoldable pub blank_block : Block
blank_block = record { words = zeros; present = nobody; modified = false }

-- no service
abbrev pub blank_control : Control
blank_control = record { slots = replicate slot_count free }

-- the store of an opening; no operation has completed (02, W1: "counting from 1 since opening")
unfoldable pub fresh_of : Shape → Store
fresh_of shape = record { shape = shape; control = blank_control; completions = 0; lanes = replicate 8 blank_lane; blocks = replicate 64 blank_block }

-- the blank store, which a tape has before it is opened
abbrev pub blank_store : Store
blank_store = fresh_of (limited 0 0 0 0)

-- opening: 5 where n, c or m is outside its range, then 18 where L is, each with the blank store
unfoldable pub open_of : Shape → Outcome
open_of shape =
    cond (bad_shape shape) (record { answer = Err InvalidShape; store = blank_store })
    (cond (bad_limit shape) (record { answer = Err InvalidLimit; store = blank_store })
    (record { answer = Ok Opened; store = fresh_of shape }))

-- what an opening gives: 5 where n, c or m is outside its range, then 18 where L is, else the fresh store
unfoldable pub opened_of : Shape → Result Store Refusal
opened_of shape = cond (bad_shape shape) (Err InvalidShape) (cond (bad_limit shape) (Err InvalidLimit) (Ok (fresh_of shape)))

-- .. as an outcome: where there is no store it has the blank one
abbrev pub outcome_of : Result Store Refusal → Outcome
outcome_of (Ok s) = record { answer = Ok Opened; store = s }
outcome_of (Err r) = record { answer = Err r; store = blank_store }
