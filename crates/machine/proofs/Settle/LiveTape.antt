-- No line of a tape is `refused 12` (02, W7): before an opening every call is refused by 3, and after it the store is one that an opening and calls give.
-- What it says is in specs/Claims/NeverFull.antt. Assumes nothing.
use Prim.Native.Nat.{ℕ, zero, suc, ◌+◌, ◌*◌, ◌-◌}
use mathlib.Core.Logic.{◌⊎◌, inl, inr, ◌≢◌}
use mathlib.Core.Path.{◌≡◌, refl, sym, ap, ◌∙◌}
use mathlib.Core.Bool.{not, true≢false}
use mathlib.Core.List.Memᴰ
use mathlib.Core.List.{List, [], ◌∷◌, Memᴰ}
use lib.Dec.{eqb}
use lib.ListN.{length, get_or, drop}
use native.Mathlib.Omega.{arith}
use Rattle.std.specs.Prelude.{Ok}
use Rattle.words.specs.declared.Shape.{Shape}
use Rattle.words.proofs.Folds.{pick}
use Rattle.tape_records.specs.declared.Record.{Record}
use Rattle.tape_records.specs.Records.{parse_of}
use Rattle.tape_records.proofs.Parsing.{by_record}
use Rattle.lanes.specs.UseOrder.{LoadsOldest}
use Rattle.answers.specs.declared.Answer.{Answer}
use Rattle.answers.specs.declared.Answer.TheVariants.{Opened, Done, Wait, Step}
use Rattle.answers.specs.declared.Refusal.{Refusal}
use Rattle.answers.specs.declared.Refusal.TheVariants.{Truncated, UnknownKind, NotOpen, AlreadyOpen, InvalidShape, NoSuchLane, NoSuchWord, LaneBusy, NothingPending, ControlBusy, ReturnsPending, QueueFull, TapeTooLong, Corrupt, BufferTooShort, Unexpected, PlacesExhausted, InvalidLimit}
use Rattle.answers.specs.Refusals.{number_of}
use Rattle.store.specs.declared.Store.{Store}
use Rattle.store.specs.declared.Outcome.{Outcome}
use Rattle.store.specs.Opening.{bad_shape, bad_limit, fresh_of, blank_store}
use Rattle.machine.specs.Machine.Change.{refuse}
use Rattle.machine.specs.Machine.Calls.{Begin, Serve, Return, Deliver, call_of}
use Rattle.machine.specs.Machine.Tape.{is_open, open_record, when_open, record_of, replay_from, replay_of}
use Rattle.machine.specs.Machine.Text.{decimal_in, refused_text, answer_text}
use Rattle.machine.specs.Claims.NeverFull.{refusal_number, TapesNeverFull}
use Rattle.machine.proofs.Settle.Lively.{Lively, fresh_lively, call_lively}
use Rattle.machine.proofs.Settle.LiveNever.{call_not_full}
use Rattle.machine.proofs.Rules.Rules.{OtherThan12, other_than_12}
use Rattle.std.specs.Prelude.{Result, Ok, Err}

-- no opening was read yet, or the store is one that an opening and calls give
abbrev Read : Store → Type 0
Read s = (s.shape.n ≡ 0) ⊎ Lively s

-- an answer that isn't 12, and such a store after it
record Answered (r : Outcome) : Type 0 where
  answer : refusal_number r.answer ≢ 12
  store : Read r.store

refuse_not_full : (s : Store) (x : Refusal) → OtherThan12 x → Read s → Answered (refuse x s)
refuse_not_full s x e r = record { answer = other_than_12 x e; store = r }

-- an opening
open_not_full : (s : Store) (shape : Shape) → Read s → Answered (open_record s shape)
unfolding open_record
open_not_full s shape r =
    pick Answered (is_open s) _ _ (λ _. refuse_not_full s AlreadyOpen refl r)
    (λ _. pick Answered (bad_shape shape) _ _ (λ _. refuse_not_full s InvalidShape refl r)
    (λ e. pick Answered (bad_limit shape) _ _ (λ _. refuse_not_full s InvalidLimit refl r)
    (λ f. record { answer = λ q. absurd (omega arith); store = inr (fresh_lively shape e f) })))

-- a call: 3 before an opening
when_not_full : (s : Store) (x : Outcome) → Read s → (Lively s → Answered x) → Answered (when_open s x)
when_not_full s x (inl e) g = pick Answered (is_open s) _ _ (λ o. absurd (true≢false (sym o ∙ ap (λ (n : ℕ). not (eqb n 0)) e))) (λ _. refuse_not_full s NotOpen refl (inl e))
when_not_full s x (inr l) g = pick Answered (is_open s) _ _ (λ _. g l) (λ _. refuse_not_full s NotOpen refl (inr l))

record_not_full : (s : Store) → Read s → (x : Record) → Answered (record_of s (Ok x))
unfolding record_of call_of
record_not_full s r (Record.Open shape) = open_not_full s shape r
record_not_full s r (Record.Begin k op w) = when_not_full s _ r (λ l. record { answer = call_not_full s l LoadsOldest (Begin k op w); store = inr (call_lively LoadsOldest s (Begin k op w) l) })
record_not_full s r (Record.Serve k) = when_not_full s _ r (λ l. record { answer = call_not_full s l LoadsOldest (Serve k); store = inr (call_lively LoadsOldest s (Serve k) l) })
record_not_full s r (Record.Return k) = when_not_full s _ r (λ l. record { answer = call_not_full s l LoadsOldest (Return k); store = inr (call_lively LoadsOldest s (Return k) l) })
record_not_full s r (Record.Deliver k) = when_not_full s _ r (λ l. record { answer = call_not_full s l LoadsOldest (Deliver k); store = inr (call_lively LoadsOldest s (Deliver k) l) })

-- .. or a refusal, which is 1 or 2
parsed_not_full : (s : Store) → Read s → (tape : List ℕ) → Answered (record_of s (parse_of tape).rec)
unfolding record_of
parsed_not_full s r = by_record (λ x. Answered (record_of s x)) (record_not_full s r) (refuse_not_full s Truncated refl r) (refuse_not_full s UnknownKind refl r)

-- the answers to a tape's records
replay_not_full : (more : ℕ) (s : Store) (tape : List ℕ) → Read s → (a : Result Answer Refusal) → Memᴰ a (replay_from more s tape) → refusal_number a ≢ 12
unfolding replay_from
replay_not_full zero s tape r a m = absurd (Memᴰ.not-nil m)
replay_not_full (suc more) s tape r a m =
    let g = parsed_not_full s r tape in
    pick (λ (xs : List (Result Answer Refusal)). Memᴰ a xs → refusal_number a ≢ 12) (eqb (length tape) 0) _ _ (λ _ n. absurd (Memᴰ.not-nil n))
    (λ _ n. first (record_of s (parse_of tape).rec) g.answer (Memᴰ.cases_cons n) (replay_not_full more (record_of s (parse_of tape).rec).store (drop (parse_of tape).size tape) g.store a)) m
  where
    first : (x : Outcome) {xs : List (Result Answer Refusal)} → refusal_number x.answer ≢ 12 → (a ≡ x.answer) ⊎ Memᴰ a xs → (Memᴰ a xs → refusal_number a ≢ 12) → refusal_number a ≢ 12
    first x h (inl q) rest = λ z. h (ap refusal_number (sym q) ∙ z)
    first x h (inr n) rest = rest n

-- the number that a text says behind `refused`: of one digit or two
abbrev digits : List ℕ → ℕ
digits [] = 0
digits (a ∷ []) = a - 48
digits (a ∷ (b ∷ rest)) = 10 * (a - 48) + (b - 48)

reads_back : (r : Refusal) → digits (drop 8 (refused_text r)) ≡ number_of r
unfolding decimal_in
reads_back Truncated = refl
reads_back UnknownKind = refl
reads_back NotOpen = refl
reads_back AlreadyOpen = refl
reads_back InvalidShape = refl
reads_back NoSuchLane = refl
reads_back NoSuchWord = refl
reads_back LaneBusy = refl
reads_back NothingPending = refl
reads_back ControlBusy = refl
reads_back ReturnsPending = refl
reads_back QueueFull = refl
reads_back TapeTooLong = refl
reads_back Corrupt = refl
reads_back BufferTooShort = refl
reads_back Unexpected = refl
reads_back PlacesExhausted = refl
reads_back InvalidLimit = refl

-- so a text of another number is another text; and what isn't refused begins with another letter
text_not_full : (a : Result Answer Refusal) → refusal_number a ≢ 12 → answer_text a ≢ refused_text QueueFull
unfolding answer_text
text_not_full (Ok Opened) n e = let q = ap (λ (xs : List ℕ). get_or xs 0 0) e in absurd (omega arith)
text_not_full (Ok (Done x)) n e = let q = ap (λ (xs : List ℕ). get_or xs 0 0) e in absurd (omega arith)
text_not_full (Ok Wait) n e = let q = ap (λ (xs : List ℕ). get_or xs 0 0) e in absurd (omega arith)
text_not_full (Ok Step) n e = let q = ap (λ (xs : List ℕ). get_or xs 0 0) e in absurd (omega arith)
text_not_full (Err r) n e = n (sym (reads_back r) ∙ ap (λ (xs : List ℕ). digits (drop 8 xs)) e ∙ reads_back QueueFull)

blank_read : Read blank_store
unfolding fresh_of
blank_read = inl refl

pub tapes_never_full : TapesNeverFull
unfolding replay_of
tapes_never_full tape a m = text_not_full a (replay_not_full (length tape) blank_store tape blank_read a m)
