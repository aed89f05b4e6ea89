-- An open record on a store that is not open yet: what the opening gives, or its refusal. Assumes nothing.
use Rattle.std.proofs.Common.{◌≡◌, ℕ, Bool, true, false, not, cond, refl, ap}
use Rattle.std.specs.Prelude.{Result, Ok, Err, eqb}
use Rattle.words.specs.declared.Shape.{Shape}
use Rattle.answers.specs.declared.Answer.TheVariants.{Opened}
use Rattle.answers.specs.declared.Refusal.{Refusal}
use Rattle.answers.specs.declared.Refusal.TheVariants.{InvalidShape, InvalidLimit}
use Rattle.store.specs.declared.Store.{Store}
use Rattle.store.specs.declared.Outcome.{Outcome}
use Rattle.store.specs.Opening.{bad_shape, bad_limit, fresh_of, opened_of}
use Rattle.machine.specs.Machine.Change.{refuse}
use Rattle.machine.specs.Machine.Tape.{is_open, open_record}

-- the store that was opened, or the one before with the reason
abbrev pub opens : Store → Result Store Refusal → Outcome
opens s (Ok t) = record { answer = Ok Opened; store = t }
opens s (Err r) = refuse r s

pub record_opens : (s : Store) (shape : Shape) (r : Result Store Refusal) → s.shape.n ≡ 0 → r ≡ opened_of shape → open_record s shape ≡ opens s r
unfolding open_record opened_of
record_opens s shape r n e = let shut : is_open s ≡ false = ap (λ (k : ℕ). not (eqb k 0)) n in rw (shut, e) (go (bad_shape shape) (bad_limit shape))
  where
    go : (a b : Bool) → cond a (refuse InvalidShape s) (cond b (refuse InvalidLimit s) (record { answer = Ok Opened; store = fresh_of shape })) ≡
        opens s (cond a (Err InvalidShape) (cond b (Err InvalidLimit) (Ok (fresh_of shape))))
    go true b = refl
    go false true = refl
    go false false = refl
