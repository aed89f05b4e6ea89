-- A tape that has no record of kind 08 prints the same. Assumes nothing.
use Prim.Native.Nat.{ℕ, zero, suc, ◌+◌, ◌-◌, ◌<◌}
use native.Mathlib.Omega.{arith}
use mathlib.Core.Logic.{◌⊎◌, inl, inr}
use mathlib.Core.Path.{◌≡◌, refl, sym, ap, ◌∙◌, subst}
use mathlib.Core.Bool.{Bool, true, false, not, cond, ◌||◌, true≢false}
use mathlib.Core.List.{List, [], ◌∷◌, ◌++◌}
use lib.Dec.{ltb, eqb}
use borrow.Author.Tests.{lt-ltb, ne_eqb}
use lib.ListN.{length, drop}
use Rattle.std.specs.Prelude as Std
use Rattle.std.specs.Prelude.{Ok, Err}
use Rattle.words.specs.declared.Shape.{Shape}
use Rattle.words.proofs.Folds.{by_cond, or_left, or_right}
use Rattle.tape_records.specs.declared.Kind.{Kind}
use Rattle.tape_records.specs.declared.Record.{Record}
use Rattle.tape_records.specs.declared.Parsed.{Parsed}
use Rattle.tape_records.specs.Records.{kind_of, body_length, field, fields_of, read_with, last_of, parsed_of, parse_of}
use Rattle.lanes.specs.UseOrder.{LoadsOldest}
use Rattle.answers.specs.declared.Answer.{Answer}
use Rattle.answers.specs.declared.Refusal.{Refusal}
use Rattle.answers.specs.declared.Refusal.TheVariants.{Truncated, UnknownKind, NotOpen, AlreadyOpen, InvalidShape, TapeTooLong}
use Rattle.store.specs.declared.Store.{Store}
use Rattle.store.specs.declared.Outcome.{Outcome}
use Rattle.store.specs.Opening.{bad_shape, fresh_of, blank_store}
use Rattle.machine.specs.Machine.Change.{refuse}
use Rattle.machine.specs.Machine.Calls.{Begin, Serve, Return, Deliver, call_of}
use Rattle.machine.specs.Machine.Tape.{is_open, open_record, when_open, record_of, replay_from, replay_of}
use Rattle.machine.specs.Machine.Text.{refused_text, lines_text, end_text, tape_most, printed}
use Rattle.machine_w5.specs.Stores as Former
use Rattle.machine_w5.specs.Change as FormerChange
use Rattle.machine_w5.specs.Tape as FormerTape
use Rattle.machine_w5.specs.Same.{Same, has_limited_open_from, SameTape}
use Rattle.machine_w5.proofs.Pairs.{both}
use Rattle.machine_w5.proofs.Corruption.{limit_fits}
use Rattle.machine_w5.proofs.Commits.{SameResult}
use Rattle.machine_w5.proofs.Steps.{begin_of_lem, serve_of_lem, return_of_lem, deliver_of_lem}
use Rattle.machine_w5.proofs.Calls.{fresh_same}
use Rattle.machine_w5.proofs.Bounded.{Bounded, not_long}
use Rattle.std.specs.Prelude.{Result}

-- a kind byte above 07 was unknown
above_seven : (byte : ℕ) → 7 < byte → FormerTape.kind_of byte ≡ Err UnknownKind
above_seven byte h =
    rw (
      ne_eqb byte 0 (λ e. omega arith),
      ne_eqb byte 1 (λ e. omega arith),
      ne_eqb byte 2 (λ e. omega arith),
      ne_eqb byte 3 (λ e. omega arith),
      ne_eqb byte 4 (λ e. omega arith),
      ne_eqb byte 5 (λ e. omega arith),
      ne_eqb byte 6 (λ e. omega arith),
      ne_eqb byte 7 (λ e. omega arith),
    )

-- .. and above 08 it is unknown today
above_eight : (byte : ℕ) → 8 < byte → FormerTape.kind_of byte ≡ kind_of byte
above_eight byte h = above_seven byte (omega arith) ∙ rw (lt-ltb 8 byte h)

-- a kind byte other than 08
kind_same : (byte : ℕ) → eqb byte 8 ≡ false → FormerTape.kind_of byte ≡ kind_of byte
kind_same zero e = refl
kind_same (suc zero) e = refl
kind_same (suc (suc zero)) e = refl
kind_same (suc (suc (suc zero))) e = refl
kind_same (suc (suc (suc (suc zero)))) e = refl
kind_same (suc (suc (suc (suc (suc zero))))) e = refl
kind_same (suc (suc (suc (suc (suc (suc zero)))))) e = refl
kind_same (suc (suc (suc (suc (suc (suc (suc zero))))))) e = refl
kind_same (suc (suc (suc (suc (suc (suc (suc (suc zero)))))))) e = absurd (true≢false e)
kind_same (suc (suc (suc (suc (suc (suc (suc (suc (suc n))))))))) e = above_eight (suc (suc (suc (suc (suc (suc (suc (suc (suc n))))))))) (omega arith)

-- the two readings of a record, once its kind byte is read the same
with_same : (tape : List ℕ) (k : Std.Result Kind Refusal) → FormerTape.parse_with tape k ≡ parsed_of (length tape) (read_with tape k)
with_same tape (Err r) = refl
with_same tape (Ok kind) = go (ltb (length tape - 1) (body_length kind))
  where
    cut : Parsed
    cut = last_of (length tape) Truncated

    whole : Parsed
    whole = record { size = 1 + body_length kind; rec = Ok (fields_of kind (drop 1 tape)) }

    go : (b : Bool) → cond b cut whole ≡ parsed_of (length tape) (cond b (Err Truncated) (Ok (1 + body_length kind, fields_of kind (drop 1 tape))))
    go true = refl
    go false = refl

parse_same : (tape : List ℕ) → eqb (field tape 0) 8 ≡ false → FormerTape.parse_of tape ≡ parse_of tape
unfolding FormerTape.parse_of parse_of
parse_same tape e =
    with_same tape (FormerTape.kind_of (field tape 0)) ∙
    ap (λ (k : Std.Result Kind Refusal). parsed_of (length tape) (read_with tape k)) (kind_same (field tape 0) e)

-- a record that opens has L = 1
abbrev Plain : Std.Result Record Refusal → Type 0
Plain (Ok (Record.Open shape)) = shape.limit ≡ 1
Plain (Ok (Record.Begin k op w)) = Unit {0}
Plain (Ok (Record.Serve k)) = Unit {0}
Plain (Ok (Record.Return k)) = Unit {0}
Plain (Ok (Record.Deliver k)) = Unit {0}
Plain (Err r) = Unit {0}

-- .. where the kind is one of 00 to 07
fields_plain : (tape : List ℕ) (kind : Kind) → Plain (Ok (fields_of kind (drop 1 tape))) → Plain (parsed_of (length tape) (read_with tape (Ok kind))).rec
fields_plain tape kind = by_cond (λ r. Plain (parsed_of (length tape) r).rec) (ltb (length tape - 1) (body_length kind)) _ _ tt

kind_plain : (tape : List ℕ) (byte : ℕ) → Plain (parsed_of (length tape) (read_with tape (FormerTape.kind_of byte))).rec
kind_plain tape zero = fields_plain tape Kind.Open refl
kind_plain tape (suc zero) = fields_plain tape Kind.Load tt
kind_plain tape (suc (suc zero)) = fields_plain tape Kind.Store tt
kind_plain tape (suc (suc (suc zero))) = fields_plain tape Kind.Exchange tt
kind_plain tape (suc (suc (suc (suc zero)))) = fields_plain tape Kind.Add tt
kind_plain tape (suc (suc (suc (suc (suc zero))))) = fields_plain tape Kind.Serve tt
kind_plain tape (suc (suc (suc (suc (suc (suc zero)))))) = fields_plain tape Kind.Return tt
kind_plain tape (suc (suc (suc (suc (suc (suc (suc zero))))))) = fields_plain tape Kind.Deliver tt
kind_plain tape (suc (suc (suc (suc (suc (suc (suc (suc n)))))))) = rw (above_seven (suc (suc (suc (suc (suc (suc (suc (suc n)))))))) (omega arith)) tt

parse_plain : (tape : List ℕ) → Plain (FormerTape.parse_of tape).rec
unfolding FormerTape.parse_of
parse_plain tape = rw (with_same tape (FormerTape.kind_of (field tape 0))) (kind_plain tape (field tape 0))

module _ (b : Bounded) where
  -- no opening was read yet; or both stores are open, and the same
  abbrev Tapes : Former.Store → Store → Type 0
  Tapes t s = ((t.shape.n ≡ 0) × (s.shape.n ≡ 0)) ⊎ (Same t s × b.Lively s)

  -- equal answers, and such stores after them
  record Answered (r : Former.Outcome) (q : Outcome) : Type 0 where
    answer : r.answer ≡ q.answer
    stores : Tapes r.store q.store

  refused_same : (t : Former.Store) (s : Store) (r : Refusal) → Tapes t s → Answered (FormerChange.refuse r t) (refuse r s)
  refused_same t s r e = record { answer = refl; stores = e }

  -- whether an opening was read
  open_test : (t : Former.Store) (s : Store) → Tapes t s → FormerTape.is_open t ≡ is_open s
  open_test t s (inl e) = ap (λ (n : ℕ). not (eqb n 0)) (e.0 ∙ sym e.1)
  open_test t s (inr e) = ap (λ (z : Shape). not (eqb z.n 0)) e.0.shape

  open_same : (t : Former.Store) (s : Store) (shape : Shape) → shape.limit ≡ 1 → Tapes t s → Answered (FormerTape.open_record t shape) (open_record s shape)
  unfolding FormerTape.open_record open_record
  open_same t s shape one e =
      let l = limit_fits shape one in
      both Answered (FormerTape.is_open t) (is_open s) (open_test t s e) (λ _. refused_same t s AlreadyOpen e)
      (λ _. both Answered (bad_shape shape) (bad_shape shape) refl (λ _. refused_same t s InvalidShape e)
      (λ f. rw l (record { answer = refl; stores = inr (fresh_same shape one, b.fresh_lively shape f l) })))

  -- a call on open stores
  result_same : (s : Store) (r : Former.Outcome) (q : Outcome) → b.Lively q.store → SameResult r q → Answered r q
  result_same s r q l (inl f) = absurd (not_long b q.store l f.long)
  result_same s r q l (inr f) = record { answer = f.answer; stores = inr (f.store, l) }

  when_same : (t : Former.Store) (s : Store) (r : Former.Outcome) (q : Outcome) → Tapes t s → (Same t s → b.Lively s → b.Lively q.store × SameResult r q) →
      Answered (FormerTape.when_open t r) (when_open s q)
  when_same t s r q (inl e) h =
      both Answered (FormerTape.is_open t) (is_open s) (open_test t s (inl e)) (λ o. absurd (true≢false (sym o ∙ ap (λ (n : ℕ). not (eqb n 0)) e.0))) (λ _. refused_same t s NotOpen (inl e))
  when_same t s r q (inr e) h =
      both Answered (FormerTape.is_open t) (is_open s) (open_test t s (inr e)) (λ _. let z = h e.0 e.1 in result_same s r q z.0 z.1) (λ _. refused_same t s NotOpen (inr e))

  record_same : (t : Former.Store) (s : Store) (r : Std.Result Record Refusal) → Plain r → Tapes t s → Answered (FormerTape.record_of t r) (record_of s r)
  unfolding FormerTape.record_of record_of call_of
  record_same t s (Err r) p e = refused_same t s r e
  record_same t s (Ok (Record.Open shape)) p e = open_same t s shape p e
  record_same t s (Ok (Record.Begin k op w)) p e = when_same t s _ _ e (λ f l. (b.call_lively LoadsOldest s (Begin k op w) l, begin_of_lem t s k op w f))
  record_same t s (Ok (Record.Serve k)) p e = when_same t s _ _ e (λ f l. (b.call_lively LoadsOldest s (Serve k) l, serve_of_lem t s k f))
  record_same t s (Ok (Record.Return k)) p e = when_same t s _ _ e (λ f l. (b.call_lively LoadsOldest s (Return k) l, return_of_lem t s k f))
  record_same t s (Ok (Record.Deliver k)) p e = when_same t s _ _ e (λ f l. (b.call_lively LoadsOldest s (Deliver k) l, deliver_of_lem LoadsOldest t s k f))

  replay_same : (n : ℕ) (t : Former.Store) (s : Store) (tape : List ℕ) → Tapes t s → has_limited_open_from n tape ≡ false → FormerTape.replay_from n t tape ≡ replay_from n s tape
  unfolding FormerTape.replay_from replay_from has_limited_open_from
  replay_same zero t s tape e f = refl
  replay_same (suc n) t s tape e f =
      both (λ (x y : List (Result Answer Refusal)). x ≡ y) (eqb (length tape) 0) (eqb (length tape) 0) refl (λ _. refl)
      (λ z. go (rw z at f) (λ p q u v. replay_same n p q (drop (parse_of tape).size tape) u v))
    where
      -- the answer to a record, and the answers to what is left
      before : Parsed → List (Result Answer Refusal)
      before p = (FormerTape.record_of t p.rec).answer ∷ FormerTape.replay_from n (FormerTape.record_of t p.rec).store (drop p.size tape)

      today : Parsed → List (Result Answer Refusal)
      today p = (record_of s p.rec).answer ∷ replay_from n (record_of s p.rec).store (drop p.size tape)

      left : List ℕ
      left = drop (parse_of tape).size tape

      go : (eqb (field tape 0) 8 || has_limited_open_from n left) ≡ false →
          ((p : Former.Store) (q : Store) → Tapes p q → has_limited_open_from n left ≡ false → FormerTape.replay_from n p left ≡ replay_from n q left) →
          before (FormerTape.parse_of tape) ≡ today (parse_of tape)
      go g more =
          let x : FormerTape.parse_of tape ≡ parse_of tape = parse_same tape (or_left (eqb (field tape 0) 8) (has_limited_open_from n left) g) in
          let pl : Plain (parse_of tape).rec = subst (λ (p : Parsed). Plain p.rec) x (parse_plain tape) in
          let r = record_same t s (parse_of tape).rec pl e in
          let a = r.answer in
          let c = more _ _ r.stores (or_right (eqb (field tape 0) 8) (has_limited_open_from n left) g) in
          ap before x ∙ (λ i. a i ∷ c i)

  blank_tapes : Tapes Former.blank_store blank_store
  unfolding Former.fresh_of fresh_of
  blank_tapes = inl (refl, refl)

  pub same_tape : SameTape
  unfolding FormerTape.printed printed FormerTape.replay_of replay_of
  same_tape tape e =
      ap (λ (lines : List (Result Answer Refusal)). cond (ltb tape_most (length tape)) (refused_text TapeTooLong ++ (10 ∷ [])) (lines_text 0 lines ++ end_text (length lines)))
      (replay_same (length tape) Former.blank_store blank_store tape blank_tapes e)
