-- A tape before W6: its kinds are 00 to 07. Bodies, and what is printed of an answer, are today's. Assumes nothing.
use Rattle.std.specs.Prelude.{ℕ, zero, suc, ◌+◌, ◌-◌, Bool, not, cond, List, [], ◌∷◌, ◌++◌, ltb, eqb, length, drop, Result, Ok, Err}
use Rattle.words.specs.declared.Shape.{Shape}
use Rattle.tape_records.specs.declared.Kind.{Kind}
use Rattle.tape_records.specs.declared.Record.{Record}
use Rattle.tape_records.specs.declared.Parsed.{Parsed}
use Rattle.tape_records.specs.Records.{body_length, field, fields_of, last_of}
use Rattle.lanes.specs.UseOrder.{LoadsOldest}
use Rattle.answers.specs.declared.Answer.{Answer}
use Rattle.answers.specs.declared.Answer.TheVariants.{Opened}
use Rattle.answers.specs.declared.Refusal.{Refusal}
use Rattle.answers.specs.declared.Refusal.TheVariants.{Truncated, UnknownKind, NotOpen, AlreadyOpen, InvalidShape, TapeTooLong}
use Rattle.store.specs.Opening.{bad_shape}
use Rattle.machine.specs.Machine.Text.{refused_text, lines_text, end_text, tape_most}
use Rattle.machine_w5.specs.Stores.{Store, Outcome, fresh_of, blank_store}
use Rattle.machine_w5.specs.Change.{refuse}
use Rattle.machine_w5.specs.Steps.{begin_of, serve_of, return_of, deliver_of}
use Rattle.answers.specs.declared.Refusal.{Refusal}

-- Kinds: 00 open; 01 load; 02 store, 03 exchange, 04 add; 05 serve, 06 return, 07 deliver; above it 2
abbrev pub kind_of : ℕ → Result Kind Refusal
kind_of byte =
    cond (eqb byte 0) (Ok Kind.Open)
    (cond (eqb byte 1) (Ok Kind.Load)
    (cond (eqb byte 2) (Ok Kind.Store)
    (cond (eqb byte 3) (Ok Kind.Exchange)
    (cond (eqb byte 4) (Ok Kind.Add)
    (cond (eqb byte 5) (Ok Kind.Serve)
    (cond (eqb byte 6) (Ok Kind.Return)
    (cond (eqb byte 7) (Ok Kind.Deliver)
    (Err UnknownKind))))))))

-- A record is one byte of kind, then a body: what stands at the start of a tape, and how many bytes it takes. 2, 1, then the record
abbrev pub parse_with : List ℕ → Result Kind Refusal → Parsed
parse_with tape (Ok kind) =
    cond (ltb (length tape - 1) (body_length kind)) (last_of (length tape) Truncated) (record { size = 1 + body_length kind; rec = Ok (fields_of kind (drop 1 tape)) })
parse_with tape (Err r) = last_of (length tape) r

unfoldable pub parse_of : List ℕ → Parsed
parse_of tape = parse_with tape (kind_of (field tape 0))

-- an open that wasn't refused has been read; before it the store is the blank one, with n = 0
abbrev pub is_open : Store → Bool
is_open s = not (eqb s.shape.n 0)

-- kind 00: 4, 5, then the opening
unfoldable pub open_record : Store → Shape → Outcome
open_record s shape =
    cond (is_open s) (refuse AlreadyOpen s)
    (cond (bad_shape shape) (refuse InvalidShape s)
    (record { answer = Ok Opened; store = fresh_of shape }))

-- kinds 01 to 07: 3 before an open that wasn't refused, then the call
abbrev pub when_open : Store → Outcome → Outcome
when_open s r = cond (is_open s) r (refuse NotOpen s)

-- what a record does: 2 and 1, or what its kind says
unfoldable pub record_of : Store → Result Record Refusal → Outcome
record_of s (Err r) = refuse r s
record_of s (Ok (Record.Open shape)) = open_record s shape
record_of s (Ok (Record.Begin k op w)) = when_open s (begin_of s k op w)
record_of s (Ok (Record.Serve k)) = when_open s (serve_of s k)
record_of s (Ok (Record.Return k)) = when_open s (return_of s k)
record_of s (Ok (Record.Deliver k)) = when_open s (deliver_of LoadsOldest s k)

-- the answers to a tape's records one after the other, here at most the given number of them; one store serves all of them
unfoldable pub replay_from : ℕ → Store → List ℕ → List (Result Answer Refusal)
replay_from zero s tape = []
replay_from (suc more) s tape =
    let p = parse_of tape in
    let r = record_of s p.rec in
    let rest = replay_from more r.store (drop p.size tape) in
    cond (eqb (length tape) 0) [] (r.answer ∷ rest)

-- a whole tape, from the blank store; a record takes a byte or more, so its length is number enough
unfoldable pub replay_of : List ℕ → List (Result Answer Refusal)
replay_of tape = replay_from (length tape) blank_store tape

-- A tape over 65,536 bytes prints only `refused 13`
unfoldable pub printed : List ℕ → List ℕ
printed tape =
    let lines = replay_of tape in
    cond (ltb tape_most (length tape)) (refused_text TapeTooLong ++ (10 ∷ [])) (lines_text 0 lines ++ end_text (length lines))
