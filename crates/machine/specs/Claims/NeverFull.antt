-- 02, W7: from an opening a queue is never full. No call is refused by 12, no line of a tape says so, and each queue keeps to a figure. 12 remains for
-- stores that did not come from an opening. This file only states it; proofs/Theorems.antt has the theorems. Assumes nothing.
use Rattle.std.specs.Prelude.{ℕ, ◌+◌, ◌-◌, ◌≤◌, ◌≡◌, cond, ◌≢◌, leb, Result, Ok, Err}
use mathlib.Core.List.{List, Memᴰ}
use Rattle.words.specs.declared.Shape.{Shape}
use Rattle.lanes.specs.declared.Lane.{Lane}
use Rattle.lanes.specs.UseOrder.{Insertion}
use Rattle.answers.specs.declared.Answer.{Answer}
use Rattle.answers.specs.declared.Answer.TheVariants.{Opened, Done, Wait, Step}
use Rattle.answers.specs.declared.Refusal.TheVariants.{QueueFull}
use Rattle.answers.specs.Refusals.{number_of}
use Rattle.store.specs.Opening.{open_of}
use Rattle.store.specs.Stores.{lane_at}
use Rattle.machine.specs.Machine.Calls.{Call, Reply, Answers, SettledWith, Entry, run, history_of}
use Rattle.machine.specs.Machine.Tape.{replay_of}
use Rattle.machine.specs.Machine.Text.{refused_text, answer_text}
use Rattle.answers.specs.declared.Refusal.{Refusal}

-- the number that an answer is refused by; 0, which is no refusal's, where it isn't
abbrev pub refusal_number : Result Answer Refusal → ℕ
refusal_number (Ok Opened) = 0
refusal_number (Ok (Done x)) = 0
refusal_number (Ok Wait) = 0
refusal_number (Ok Step) = 0
refusal_number (Err r) = number_of r

-- .. and the reply of a call, settle's included
abbrev pub refused_by : Reply → ℕ
refused_by (Answers a) = refusal_number a
refused_by (SettledWith (Ok counts) cs) = 0
refused_by (SettledWith (Err r) cs) = number_of r

-- "it never occurs after any list of calls from an opening": no call of the list is answered with 12
abbrev pub NeverFull : Type 0
NeverFull =
    (ins : Insertion) (shape : Shape) (calls : List Call) → (open_of shape).answer ≡ Ok Opened →
    (e : Entry) → Memᴰ e (history_of ins shape calls) → refused_by e.reply ≢ 12

-- .. so no line of a tape is `refused 12`
abbrev pub TapesNeverFull : Type 0
TapesNeverFull = (tape : List ℕ) (a : Result Answer Refusal) → Memᴰ a (replay_of tape) → answer_text a ≢ refused_text QueueFull

-- the smaller of two numbers
abbrev pub smaller : ℕ → ℕ → ℕ
smaller a b = cond (leb a b) a b

-- "at most one more message than the smaller of L and n − 1"
abbrev pub queue_most : Shape → ℕ
queue_most shape = 1 + smaller shape.limit (shape.n - 1)

-- each queue of a lane; the two together keep to it too
pub record ShortQueues (shape : Shape) (l : Lane) : Type 0 where
  pub returns : l.returns.len ≤ queue_most shape
  pub downs : l.downs.len ≤ queue_most shape
  pub together : l.returns.len + l.downs.len ≤ queue_most shape

-- .. of every lane, after any list of calls from any opening that isn't refused
abbrev pub QueuesStayShort : Type 0
QueuesStayShort =
    (ins : Insertion) (shape : Shape) (calls : List Call) → (open_of shape).answer ≡ Ok Opened →
    (k : ℕ) → ShortQueues shape (lane_at (run ins (open_of shape).store calls).store k)
