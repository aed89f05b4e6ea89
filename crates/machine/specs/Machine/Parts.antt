-- What a lane's part of a call is, and memory's. Assumes nothing.
use Rattle.std.specs.Prelude.{Result}
use Rattle.queues.specs.Messages.{DownMessage}
use Rattle.lanes.specs.declared.Lane.{Lane}
use Rattle.answers.specs.declared.Answer.{Answer}
use Rattle.answers.specs.declared.Refusal.{Refusal}
use Rattle.store.specs.declared.Block.{Block}
use Rattle.store.specs.declared.Control.{Control}
use Rattle.store.specs.LaneSets.{LaneSet}
use Rattle.machine.specs.declared.LaneAnswer.{LaneAnswer}

-- a lane's part of a call: what it comes to, and the lane after it; of a refused call the lane as it was
pub record LaneStep : Type 0 where
  pub answer : Result LaneAnswer Refusal
  pub lane : Lane

-- memory's part of a call: the answer; what becomes of the lane, the block and the control; the message that it sends, and to which lanes. On a
-- refusal lane, block and control are as they were and nothing is sent
pub record Move : Type 0 where
  pub answer : Result Answer Refusal
  pub lane : Lane
  pub block : Block
  pub control : Control
  pub to : LaneSet
  pub message : DownMessage
