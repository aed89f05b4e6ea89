-- What a store has beside `Consistent` so that no call finds a queue full and settle is never refused: few messages, a free line for every grant,
-- and no service that awaits nothing. Assumes nothing.
use Prim.Native.Nat.{ℕ, ◌+◌, ◌<◌, ◌≤◌}
use mathlib.Core.Path.{◌≡◌}
use mathlib.Core.Logic.{◌≢◌}
use mathlib.Core.Bool.{Bool, true, cond, not, ◌||◌}
use mathlib.Core.List.{List, [], ◌∷◌}
use lib.ListN.{get_or}
use Rattle.words.specs.declared.BlockNo.{BlockNo}
use Rattle.words.specs.Units.{block_of}
use Rattle.words.specs.Lines.{no_line, holds_of}
use Rattle.words.specs.Folds.{any_to}
use Rattle.queues.specs.Messages.{ReturnMessage}
use Rattle.lanes.specs.declared.Lane.{Lane}
use Rattle.lanes.specs.declared.Waiting.{Waiting}
use Rattle.lanes.specs.declared.Waiting.TheVariants.{Idle, Unserved, Served}
use Rattle.lanes.specs.Waits.{unserved_of}
use Rattle.store.specs.declared.Store.{Store}
use Rattle.store.specs.declared.Service.{Service}
use Rattle.store.specs.Control.{service_of}
use Rattle.store.specs.Stores.{lane_at}
use Rattle.machine.specs.Machine.Return.{is_answer}
use Rattle.machine.proofs.Protocol.BlockState.{project}
use Rattle.machine.proofs.Projection.Queued.{queued_returns}
use Rattle.machine.proofs.Protocol.Invariant.{owed}
use Rattle.std.specs.Prelude.{Some}

-- ejections among return messages
abbrev pub eject_count : List ReturnMessage → ℕ
eject_count [] = 0
eject_count (m ∷ ms) = cond (is_answer m.kind) 0 1 + eject_count ms

-- a line of the lane that is not valid, or that holds the operation's block
abbrev pub has_room : ℕ → Lane → Waiting → Bool
has_room c l Idle = true
has_room c l (Unserved o) = any_to (λ i. not (get_or l.lines i no_line).valid || holds_of (get_or l.lines i no_line) (block_of o.word)) c
has_room c l (Served o) = any_to (λ i. not (get_or l.lines i no_line).valid || holds_of (get_or l.lines i no_line) (block_of o.word)) c

pub record LaneLive (c : ℕ) (l : Lane) : Type 0 where
  -- at most one ejection is on its way, and none but of a lane that waits unserved
  pub ejects : eject_count (queued_returns l.returns) ≤ cond (unserved_of l.waiting) 1 0
  -- what the lane waits for is held, or has a free line to go to
  pub room : has_room c l l.waiting ≡ true

pub record Live (s : Store) : Type 0 where
  pub lane : (k : ℕ) → LaneLive s.shape.c (lane_at s k)
  -- a lane owes a block at most one answer
  pub one : (a : ℕ) → a < s.shape.m → (k : ℕ) → owed ((project s a).lane k) ≤ 1
  -- a service awaits an answer
  pub awaits : (a : BlockNo) (v : Service) → service_of s.control a ≡ Some v → v.awaited ≢ 0
