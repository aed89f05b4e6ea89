-- Parsing by its cases, and how much of a tape a record takes. Assumes nothing.
use Prim.Native.Nat.{ℕ, ◌+◌, ◌-◌, ◌<◌, ◌≤◌}
use native.Mathlib.Omega.{arith}
use mathlib.Core.Logic.{◌⊎◌, inl, inr}
use mathlib.Core.Path.{◌≡◌, refl}
use mathlib.Core.List.{List, [], ◌∷◌}
use borrow.Author.Tests.{lt-ltb, le-ltb, ltb-false}
use lib.Dec.{ltb}
use lib.ListN.{length}
use Rattle.std.specs.Prelude.{Result, Ok, Err}
use Rattle.words.proofs.Folds.{pick, by_cond}
use Rattle.answers.specs.declared.Refusal.{Refusal}
use Rattle.answers.specs.declared.Refusal.TheVariants.{Truncated, UnknownKind}
use Rattle.tape_records.specs.declared.Kind.{Kind}
use Rattle.tape_records.specs.declared.Record.{Record}
use Rattle.tape_records.specs.declared.Parsed.{Parsed}
use Rattle.tape_records.specs.Records.{highest_kind, kind_of, body_length, field, fields_of, read_with, read_of, parsed_of, parse_of}

-- nothing is left of the tape
pub read_empty : (tape : List ℕ) → length tape ≡ 0 → read_of tape ≡ Err Truncated
read_empty [] e = refl
read_empty (x ∷ tape) e = absurd (omega arith)

-- .. else it goes by the first byte and what is behind it
module _ {byte : ℕ} {body : List ℕ} where
  pub read_unknown : {tape : List ℕ} {r : Refusal} → tape ≡ byte ∷ body → kind_of byte ≡ Err r → read_of tape ≡ Err r
  read_unknown e k = rw (e, k)

  module _ {kind : Kind} (k : kind_of byte ≡ Ok kind) where
    pub read_truncated : {tape : List ℕ} → tape ≡ byte ∷ body → length body < body_length kind → read_of tape ≡ Err Truncated
    read_truncated e h = rw (e, k, lt-ltb (length (byte ∷ body) - 1) (body_length kind) (omega arith))

    pub read_whole : {tape : List ℕ} → tape ≡ byte ∷ body → body_length kind ≤ length body → read_of tape ≡ Ok (1 + body_length kind, fields_of kind body)
    read_whole e h = rw (e, k, le-ltb (length (byte ∷ body) - 1) (body_length kind) (omega arith))

-- a record that more may follow has two bytes or more; any other takes all that is left
abbrev pub Takes : List ℕ → Parsed → Type 0
Takes tape p = (p.size ≡ length tape) ⊎ ((2 ≤ p.size) × (p.size ≤ length tape))

some_body : (k : Kind) → 1 ≤ body_length k
some_body Kind.Open = omega arith
some_body Kind.Load = omega arith
some_body Kind.Store = omega arith
some_body Kind.Exchange = omega arith
some_body Kind.Add = omega arith
some_body Kind.Serve = omega arith
some_body Kind.Return = omega arith
some_body Kind.Deliver = omega arith
some_body Kind.OpenLimited = omega arith

takes_with : (tape : List ℕ) (k : Result Kind Refusal) → Takes tape (parsed_of (length tape) (read_with tape k))
takes_with tape (Err r) = inl refl
takes_with tape (Ok kind) =
    pick (λ r. Takes tape (parsed_of (length tape) r)) (ltb (length tape - 1) (body_length kind)) _ _ (λ _. inl refl)
    (λ whole. let b = some_body kind in let h = ltb-false (length tape - 1) (body_length kind) whole in inr (omega arith, omega arith))

pub parse_takes : (tape : List ℕ) → 0 < length tape → Takes tape (parse_of tape)
unfolding parse_of
parse_takes tape some = takes_with tape (kind_of (field tape 0))

-- there is a record, or it is refused by 1 or by 2
module _ (P : Result Record Refusal → Type 0) (every : (rec : Record) → P (Ok rec)) (cut : P (Err Truncated)) (stranger : P (Err UnknownKind)) where
  by_length : (tape : List ℕ) (kind : Kind) → P (parsed_of (length tape) (read_with tape (Ok kind))).rec
  by_length tape kind = by_cond (λ r. P (parsed_of (length tape) r).rec) (ltb (length tape - 1) (body_length kind)) _ _ cut (every _)

  pub by_record : (tape : List ℕ) → P (parse_of tape).rec
  unfolding parse_of
  by_record tape = by_cond (λ k. P (parsed_of (length tape) (read_with tape k)).rec) (ltb highest_kind (field tape 0)) _ _ stranger (by_length tape _)
