-- The control before W6: it has at most one service. Assumes nothing.
use Rattle.std.specs.Prelude.{Bool, true, false, cond, eqb, Option, Some, None}
use Rattle.words.specs.declared.BlockNo.{BlockNo}
use Rattle.store.specs.declared.Service.{Service}
use Rattle.store.specs.Control.{lowered}

-- no service, or one
pub data Control : Type 0 where
  Free : Control
  Busy : Service → Control

-- what an answer does: the control after it awaits one answer fewer; or the service closes, and the control after it; or nobody awaits the answer
pub data Counted : Type 0 where
  Awaits : Control → Counted
  Closes : Service → Control → Counted
  NotAwaited : Counted

-- a service is under way
abbrev pub busy_of : Control → Bool
busy_of Free = false
busy_of (Busy v) = true

-- the service of block a
abbrev pub service_of : Control → BlockNo → Option Service
service_of Free a = None
service_of (Busy v) a = cond (eqb v.block.0 a.0) (Some v) None

-- an answer for the service looked up: each answer lowers the awaited count, and at 0 the service closes
abbrev pub counted_of : Option Service → Counted
counted_of None = NotAwaited
counted_of (Some v) =
    cond (eqb v.awaited 0) NotAwaited
    (cond (eqb v.awaited 1) (Closes v Free) (Awaits (Busy (lowered v))))

-- an answer for block a
abbrev pub answer_of : Control → BlockNo → Counted
answer_of x a = counted_of (service_of x a)
