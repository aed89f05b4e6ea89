-- The calls of demand 3 and what a list of them gives, under an insertion policy (02, W3). Assumes nothing.
use Rattle.std.specs.Prelude.{Bool, true, false, List, [], ◌∷◌, Result, Ok, Err}
use Rattle.words.specs.declared.Shape.{Shape}
use Rattle.words.specs.declared.LaneNo.{LaneNo}
use Rattle.words.specs.declared.WordNo.{WordNo}
use Rattle.words.specs.declared.Op.{Op}
use Rattle.lanes.specs.UseOrder.{Insertion}
use Rattle.answers.specs.declared.Answer.{Answer}
use Rattle.answers.specs.declared.Answer.TheVariants.{Opened, Done, Wait, Step}
use Rattle.answers.specs.declared.Completion.{Completion}
use Rattle.answers.specs.Refusals.{refused_of}
use Rattle.answers.specs.Completions.{done_in}
use Rattle.store.specs.declared.Store.{Store}
use Rattle.store.specs.declared.Outcome.{Outcome}
use Rattle.store.specs.Opening.{open_of}
use Rattle.machine.specs.Machine.Begin.{begin_of}
use Rattle.machine.specs.Machine.Serve.{serve_of}
use Rattle.machine.specs.Machine.Return.{return_of}
use Rattle.machine.specs.Machine.Deliver.{deliver_of}
use Rattle.machine.specs.Machine.Settle.{Settlement, settle_of}
use Rattle.answers.specs.declared.Refusal.{Refusal}
use Rattle.machine.specs.declared.SettleCounts.{SettleCounts}

-- load, store, exchange and add are begin calls, with their operation; lane and word are any numbers
pub data Call : Type 0 where
  Begin : LaneNo → Op → WordNo → Call
  Serve : LaneNo → Call
  Return : LaneNo → Call
  Deliver : LaneNo → Call
  Settle : Call

-- what a call is answered with
pub data Reply : Type 0 where
  Answers : Result Answer Refusal → Reply
  SettledWith : Result SettleCounts Refusal → List Completion → Reply

-- an answer, and the store after it
pub record Called : Type 0 where
  pub reply : Reply
  pub store : Store

-- .. of a call on a lane, and of settle
abbrev pub answered_call : Outcome → Called
answered_call r = record { reply = Answers r.answer; store = r.store }

abbrev pub settled_call : Settlement → Called
settled_call r = record { reply = SettledWith r.answer r.completions; store = r.store }

-- each call gives what its contract says
unfoldable pub call_of : Insertion → Store → Call → Called
call_of ins s (Begin k op w) = answered_call (begin_of s k op w)
call_of ins s (Serve k) = answered_call (serve_of s k)
call_of ins s (Return k) = answered_call (return_of s k)
call_of ins s (Deliver k) = answered_call (deliver_of ins s k)
call_of ins s Settle = settled_call (settle_of ins s)

-- a call with its answer
pub record Entry : Type 0 where
  pub call : Call
  pub reply : Reply

-- a list of calls with their answers, and the last store
pub record Run : Type 0 where
  pub history : List Entry
  pub store : Store

-- each call on the store that the last one left, refused ones included
unfoldable pub run : Insertion → Store → List Call → Run
run ins s [] = record { history = []; store = s }
run ins s (c ∷ cs) =
    let r = call_of ins s c in
    let rest = run ins r.store cs in
    record { history = record { call = c; reply = r.reply } ∷ rest.history; store = rest.store }

-- what a list of calls from an opening is answered
abbrev pub history_of : Insertion → Shape → List Call → List Entry
history_of ins shape calls = (run ins (open_of shape).store calls).history

-- a call gives the completions in its answer, settle in the order it lists them; a refused call gives none
abbrev pub completions_of : Reply → List Completion
completions_of (Answers a) = done_in a
completions_of (SettledWith (Ok counts) cs) = cs
completions_of (SettledWith (Err r) cs) = []

-- the call was answered with a wait
abbrev pub is_wait : Reply → Bool
is_wait (Answers (Ok Opened)) = false
is_wait (Answers (Ok (Done x))) = false
is_wait (Answers (Ok Wait)) = true
is_wait (Answers (Ok Step)) = false
is_wait (Answers (Err r)) = false
is_wait (SettledWith a cs) = false

-- the call was refused
abbrev pub is_refused : Reply → Bool
is_refused (Answers a) = refused_of a
is_refused (SettledWith (Ok counts) cs) = false
is_refused (SettledWith (Err r) cs) = true
