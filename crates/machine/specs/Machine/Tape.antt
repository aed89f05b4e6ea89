-- 01, "Tape and picture": what a record does, and a tape's replay. What a record is: crates/tape_records. Assumes nothing.
use Rattle.std.specs.Prelude.{ℕ, zero, suc, Bool, not, cond, List, [], ◌∷◌, eqb, length, drop, Result, Ok, Err}
use Rattle.words.specs.declared.Shape.{Shape}
use Rattle.tape_records.specs.declared.Record.{Record}
use Rattle.tape_records.specs.Records.{parse_of}
use Rattle.lanes.specs.UseOrder.{LoadsOldest}
use Rattle.answers.specs.declared.Answer.{Answer}
use Rattle.answers.specs.declared.Answer.TheVariants.{Opened}
use Rattle.answers.specs.declared.Refusal.{Refusal}
use Rattle.answers.specs.declared.Refusal.TheVariants.{NotOpen, AlreadyOpen, InvalidShape, InvalidLimit}
use Rattle.store.specs.declared.Store.{Store}
use Rattle.store.specs.declared.Outcome.{Outcome}
use Rattle.store.specs.Opening.{bad_shape, bad_limit, fresh_of, blank_store}
use Rattle.machine.specs.Machine.Change.{refuse}
use Rattle.machine.specs.Machine.Begin.{begin_of}
use Rattle.machine.specs.Machine.Serve.{serve_of}
use Rattle.machine.specs.Machine.Return.{return_of}
use Rattle.machine.specs.Machine.Deliver.{deliver_of}

-- an open that wasn't refused has been read; before it the store is the blank one, with n = 0
abbrev pub is_open : Store → Bool
is_open s = not (eqb s.shape.n 0)

-- kinds 00 and 08: 4, 5, 18, then the opening
unfoldable pub open_record : Store → Shape → Outcome
open_record s shape =
    cond (is_open s) (refuse AlreadyOpen s)
    (cond (bad_shape shape) (refuse InvalidShape s)
    (cond (bad_limit shape) (refuse InvalidLimit s)
    (record { answer = Ok Opened; store = fresh_of shape })))

-- kinds 01 to 07: 3 before an open that wasn't refused, then the call
abbrev pub when_open : Store → Outcome → Outcome
when_open s r = cond (is_open s) r (refuse NotOpen s)

-- what a record does: 2 and 1, or what its kind says
unfoldable pub record_of : Store → Result Record Refusal → Outcome
record_of s (Err r) = refuse r s
record_of s (Ok (Record.Open shape)) = open_record s shape
record_of s (Ok (Record.Begin k op w)) = when_open s (begin_of s k op w)
record_of s (Ok (Record.Serve k)) = when_open s (serve_of s k)
record_of s (Ok (Record.Return k)) = when_open s (return_of s k)
record_of s (Ok (Record.Deliver k)) = when_open s (deliver_of LoadsOldest s k)

-- the answers to a tape's records one after the other, here at most the given number of them; one store serves all of them
unfoldable pub replay_from : ℕ → Store → List ℕ → List (Result Answer Refusal)
replay_from zero s tape = []
replay_from (suc more) s tape =
    let p = parse_of tape in
    let r = record_of s p.rec in
    let rest = replay_from more r.store (drop p.size tape) in
    cond (eqb (length tape) 0) [] (r.answer ∷ rest)

-- a whole tape, from the blank store; a record takes a byte or more, so its length is number enough
unfoldable pub replay_of : List ℕ → List (Result Answer Refusal)
replay_of tape = replay_from (length tape) blank_store tape
