-- The calls before W6, what a list of them gives, and the picture. Calls, replies and histories are today's. Assumes nothing.
use Rattle.std.specs.Prelude.{ℕ, cond, List, [], ◌∷◌, ltb, length, get_or}
use Rattle.words.specs.declared.Shape.{Shape}
use Rattle.words.specs.Lines.{no_line, holds_of}
use Rattle.words.specs.Folds.{gather_to}
use Rattle.lanes.specs.UseOrder.{Insertion}
use Rattle.answers.specs.declared.Refusal.TheVariants.{Corrupt, BufferTooShort}
use Rattle.machine.specs.Machine.Calls.{Call, Begin, Serve, Return, Deliver, Settle, Reply, Answers, SettledWith, Entry}
use Rattle.machine.specs.Machine.Fill.{Filling, unwritten, filled_with}
use Rattle.machine.specs.Machine.Picture.{record_bytes}
use Rattle.machine_w5.specs.Stores.{Store, Outcome, lane_at, open_of}
use Rattle.machine_w5.specs.Corruption.{corrupt_of}
use Rattle.machine_w5.specs.Steps.{begin_of, serve_of, return_of, deliver_of}
use Rattle.machine_w5.specs.Settle.{Settlement, settle_of}

-- an answer, and the store after it
pub record Called : Type 0 where
  pub reply : Reply
  pub store : Store

-- .. of a call on a lane, and of settle
abbrev pub answered_call : Outcome → Called
answered_call r = record { reply = Answers r.answer; store = r.store }

abbrev pub settled_call : Settlement → Called
settled_call r = record { reply = SettledWith r.answer r.completions; store = r.store }

-- each call gives what its contract says
unfoldable pub call_of : Insertion → Store → Call → Called
call_of ins s (Begin k op w) = answered_call (begin_of s k op w)
call_of ins s (Serve k) = answered_call (serve_of s k)
call_of ins s (Return k) = answered_call (return_of s k)
call_of ins s (Deliver k) = answered_call (deliver_of ins s k)
call_of ins s Settle = settled_call (settle_of ins s)

-- a list of calls with their answers, and the last store
pub record Run : Type 0 where
  pub history : List Entry
  pub store : Store

-- each call on the store that the last one left, refused ones included
unfoldable pub run : Insertion → Store → List Call → Run
run ins s [] = record { history = []; store = s }
run ins s (c ∷ cs) =
    let r = call_of ins s c in
    let rest = run ins r.store cs in
    record { history = record { call = c; reply = r.reply } ∷ rest.history; store = rest.store }

-- what a list of calls from an opening is answered
abbrev pub history_of : Insertion → Shape → List Call → List Entry
history_of ins shape calls = (run ins (open_of shape).store calls).history

-- the record of line i of lane k, where it is valid and has block a
abbrev pub line_bytes : Store → ℕ → ℕ → ℕ → List ℕ
line_bytes s a k i = let x = get_or (lane_at s k).lines i no_line in cond (holds_of x (record { 0 = a })) (record_bytes k x) []

-- for each valid line its record: by block, then by lane, then by line
unfoldable pub picture_bytes : Store → List ℕ
picture_bytes s = gather_to (λ a. gather_to (λ k. gather_to (line_bytes s a k) s.shape.c) s.shape.n) s.shape.m

-- It gives the length; bytes after the records are unchanged. On 14 and on 15 nothing is written
unfoldable pub picture_of : Store → List ℕ → Filling
picture_of s buffer =
    let p = picture_bytes s in
    cond (corrupt_of s) (unwritten Corrupt buffer) (cond (ltb (length buffer) (length p)) (unwritten BufferTooShort buffer) (filled_with p buffer))
