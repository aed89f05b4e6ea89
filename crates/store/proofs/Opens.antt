-- An opening is what `opened_of` gives, as an outcome. Assumes nothing.
use Rattle.std.proofs.Common.{◌≡◌, Bool, true, false, cond, refl, Ok, Err}
use Rattle.words.specs.declared.Shape.{Shape}
use Rattle.answers.specs.declared.Answer.TheVariants.{Opened}
use Rattle.answers.specs.declared.Refusal.TheVariants.{InvalidShape, InvalidLimit}
use Rattle.store.specs.Opening.{bad_shape, bad_limit, fresh_of, blank_store, opened_of, open_of, outcome_of}

pub open_opened : (shape : Shape) → open_of shape ≡ outcome_of (opened_of shape)
unfolding open_of opened_of
open_opened shape = go (bad_shape shape) (bad_limit shape)
  where
    go : (p q : Bool) →
        cond p (record { answer = Err InvalidShape; store = blank_store }) (cond q (record { answer = Err InvalidLimit; store = blank_store }) (record { answer = Ok Opened; store = fresh_of shape }))
        ≡ outcome_of (cond p (Err InvalidShape) (cond q (Err InvalidLimit) (Ok (fresh_of shape))))
    go true q = refl
    go false true = refl
    go false false = refl
