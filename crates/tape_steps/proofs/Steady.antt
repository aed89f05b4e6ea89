-- A record leaves a store that a tape can have such a store, so that the check of 14 is never wanted on a tape. Assumes nothing.
use native.Mathlib.Omega.{arith}
use mathlib.Core.Logic.{inl, inr}
use mathlib.Core.Bool.{false, not, true≢false}
use mathlib.Core.Path.{◌≡◌, refl, sym, ap, ◌∙◌}
use borrow.Author.Tests.{eq-eqb}
use Rattle.std.specs.Prelude.{Result, Ok, Err}
use Rattle.words.proofs.Folds.{pick}
use Rattle.answers.specs.declared.Refusal.{Refusal}
use Rattle.tape_records.specs.declared.Record.{Record}
use Rattle.lanes.specs.UseOrder.{LoadsOldest}
use Rattle.store.specs.declared.Store.{Store}
use Rattle.store.specs.declared.Outcome.{Outcome}
use Rattle.store.specs.Opening.{bad_shape, bad_limit, fresh_of, blank_store}
use Rattle.machine.specs.Machine.Corruption.{corrupt_of}
use Rattle.machine.specs.Machine.Tape.{is_open, open_record, when_open, record_of}
use Rattle.machine.proofs.Bounds.Keeps.{Whole, open_keeps, open_whole, begin_keeps, serve_keeps, return_keeps, deliver_keeps, begin_whole, serve_whole, return_whole, deliver_whole}
use Rattle.tape_steps.specs.Steady.{Steady}
use Rattle.words.specs.declared.Shape.{Shape}

-- a store that a tape can have and that is open is not corrupt
pub steady_open : (s : Store) → Steady s → (s.shape.n ≡ 0 → ⊥) → corrupt_of s ≡ false
steady_open s (inl e) n = absurd (n e)
steady_open s (inr e) n = e

-- a store that a tape can have, with its arrays whole
pub record Tapes (s : Store) : Type 0 where
  pub steady : Steady s
  pub whole : Whole s

abbrev After : Outcome → Type 0
After r = Tapes r.store

-- the blank store
pub blank_tapes : Tapes blank_store
unfolding fresh_of
blank_tapes = record { steady = inl refl; whole = λ k h. absurd (omega arith) }

open_after : (s : Store) (shape : Shape) → Tapes s → After (open_record s shape)
unfolding open_record
open_after s shape g =
    pick After (is_open s) _ _ (λ _. g)
    (λ _. pick After (bad_shape shape) _ _ (λ _. g)
    (λ e. pick After (bad_limit shape) _ _ (λ _. g) (λ f. record { steady = inr (open_keeps shape e f); whole = open_whole shape e f })))

-- a call on an open store
module _ (s : Store) (g : Tapes s) where
  call_after : (r : Outcome) → (corrupt_of s ≡ false → corrupt_of r.store ≡ false) → Whole r.store → After (when_open s r)
  call_after r keeps whole =
      pick After (is_open s) _ _
      (λ o. record { steady = inr (keeps (steady_open s g.steady (λ e. true≢false (sym o ∙ ap not (eq-eqb s.shape.n 0 e))))); whole = whole })
      (λ _. g)

  pub record_after : (rec : Result Record Refusal) → After (record_of s rec)
  unfolding record_of
  record_after (Err r) = g
  record_after (Ok (Record.Open shape)) = open_after s shape g
  record_after (Ok (Record.Begin k op w)) = call_after _ (λ e. begin_keeps s _ _ _ e g.whole) (begin_whole s _ _ _ g.whole)
  record_after (Ok (Record.Serve k)) = call_after _ (serve_keeps s _) (serve_whole s _ g.whole)
  record_after (Ok (Record.Return k)) = call_after _ (return_keeps s _) (return_whole s _ g.whole)
  record_after (Ok (Record.Deliver k)) = call_after _ (λ e. deliver_keeps LoadsOldest s _ e g.whole) (deliver_whole LoadsOldest s _ g.whole)
