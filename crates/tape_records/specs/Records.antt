-- 01, "Tape and picture", with 02, W6 (kind 08): what a record is, and how long it is. Assumes nothing.
use Rattle.std.specs.Prelude.{ℕ, ◌+◌, ◌-◌, ◌*◌, cond, List, ltb, eqb, length, get_or, drop, Result, Ok, Err}
use Rattle.words.specs.declared.LaneNo.{LaneNo}
use Rattle.words.specs.declared.WordNo.{WordNo}
use Rattle.words.specs.declared.Op.{Op}
use Rattle.words.specs.declared.Shape.{Shape}
use Rattle.words.specs.Units.{shaped, limited}
use Rattle.answers.specs.declared.Refusal.{Refusal}
use Rattle.answers.specs.declared.Refusal.TheVariants.{Truncated, UnknownKind}
use Rattle.tape_records.specs.declared.Kind.{Kind}
use Rattle.tape_records.specs.declared.Record.{Record}
use Rattle.tape_records.specs.declared.Parsed.{Parsed}

-- the highest kind: 2 starts above it (02, W6: "here and wherever a kind is added later")
abbrev pub highest_kind : ℕ
highest_kind = 8

-- Kinds: 00 open; 01 load; 02 store, 03 exchange, 04 add; 05 serve, 06 return, 07 deliver; 08 open with a limit; above it 2
abbrev pub kind_of : ℕ → Result Kind Refusal
kind_of byte =
    cond (ltb highest_kind byte) (Err UnknownKind)
    (Ok
    (cond (eqb byte 0) Kind.Open
    (cond (eqb byte 1) Kind.Load
    (cond (eqb byte 2) Kind.Store
    (cond (eqb byte 3) Kind.Exchange
    (cond (eqb byte 4) Kind.Add
    (cond (eqb byte 5) Kind.Serve
    (cond (eqb byte 6) Kind.Return
    (cond (eqb byte 7) Kind.Deliver
    Kind.OpenLimited)))))))))

-- a body whose length the kind fixes: lanes, lines, blocks; lane, word; lane, word, v in four bytes; lane; lanes, lines, blocks, L
abbrev pub body_length : Kind → ℕ
body_length Kind.Open = 3
body_length Kind.Load = 2
body_length Kind.Store = 6
body_length Kind.Exchange = 6
body_length Kind.Add = 6
body_length Kind.Serve = 1
body_length Kind.Return = 1
body_length Kind.Deliver = 1
body_length Kind.OpenLimited = 4

-- what a kind byte picks: the body's length and the step
abbrev pub form_with : Result Kind Refusal → Result (ℕ × Kind) Refusal
form_with (Ok kind) = Ok (body_length kind, kind)
form_with (Err r) = Err r

abbrev pub form_of : ℕ → Result (ℕ × Kind) Refusal
form_of byte = form_with (kind_of byte)

-- a field of one byte
abbrev pub field : List ℕ → ℕ → ℕ
field body i = get_or body i 0

-- v in four bytes, low byte first
abbrev pub value_of : List ℕ → ℕ
value_of bytes = field bytes 0 + 256 * field bytes 1 + 65536 * field bytes 2 + 16777216 * field bytes 3

-- .. behind lane and word
abbrev pub operand_of : List ℕ → ℕ
operand_of body = value_of (drop 2 body)

-- the first field as a lane, the second as a word
abbrev pub lane_field : List ℕ → LaneNo
lane_field body = record { 0 = field body 0 }

abbrev pub word_field : List ℕ → WordNo
word_field body = record { 0 = field body 1 }

-- a load, store, exchange or add: lane, word
abbrev pub begin_fields : Op → List ℕ → Record
begin_fields op body = Record.Begin (lane_field body) op (word_field body)

-- an open of kind 00: n, c, m; it means L = 1
abbrev pub shape_of : List ℕ → Shape
shape_of body = shaped (field body 0) (field body 1) (field body 2)

-- an open of kind 08: n, c, m, L
abbrev pub limited_shape_of : List ℕ → Shape
limited_shape_of body = limited (field body 0) (field body 1) (field body 2) (field body 3)

-- the record of a kind from its body
abbrev pub fields_of : Kind → List ℕ → Record
fields_of Kind.Open body = Record.Open (shape_of body)
fields_of Kind.Load body = begin_fields Op.Load body
fields_of Kind.Store body = begin_fields (Op.Store (operand_of body)) body
fields_of Kind.Exchange body = begin_fields (Op.Exchange (operand_of body)) body
fields_of Kind.Add body = begin_fields (Op.Add (operand_of body)) body
fields_of Kind.Serve body = Record.Serve (lane_field body)
fields_of Kind.Return body = Record.Return (lane_field body)
fields_of Kind.Deliver body = Record.Deliver (lane_field body)
fields_of Kind.OpenLimited body = Record.Open (limited_shape_of body)

-- A record is one byte of kind, then a body: how many bytes it takes, and the record, once the kind byte is read. 2, 1, then the record
abbrev pub read_with : List ℕ → Result Kind Refusal → Result (ℕ × Record) Refusal
read_with tape (Ok kind) = cond (ltb (length tape - 1) (body_length kind)) (Err Truncated) (Ok (1 + body_length kind, fields_of kind (drop 1 tape)))
read_with tape (Err r) = Err r

-- .. of what stands at the start of a tape
abbrev pub read_of : List ℕ → Result (ℕ × Record) Refusal
read_of tape = read_with tape (kind_of (field tape 0))

-- After refusal 1 or 2 no more records are read: such a record takes all that is left of the tape
abbrev pub last_of : ℕ → Refusal → Parsed
last_of left r = record { size = left; rec = Err r }

-- a record or its refusal, with how many bytes of the tape it takes
abbrev pub parsed_of : ℕ → Result (ℕ × Record) Refusal → Parsed
parsed_of left (Ok p) = record { size = p.0; rec = Ok p.1 }
parsed_of left (Err r) = last_of left r

-- what stands at the start of a tape, and how many bytes it takes
unfoldable pub parse_of : List ℕ → Parsed
parse_of tape = parsed_of (length tape) (read_of tape)
