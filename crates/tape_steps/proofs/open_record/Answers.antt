-- `tape_steps::open_record` meets its contract. Assumes nothing.
use Rattle.std.proofs.Common.{rules, ◌≡◌, sym, ◌∙◌}
use Rattle.std.specs.Prelude.{Ok, Err}
use Rattle.tape_steps.proofs.Opens.{record_opens}
use Rattle.tape_steps.proofs.open_record.Goals as goal

pub returns-in_err-store-clause-answer : goal.returns-in_err-store-clause-answer
returns-in_err-store-clause-answer c =
    let e = record_opens c.args.store.now c.args.shape (Err c.in_err-store.field-0.0) c.if-store-ne0.false (sym c.in_err-store.was ∙ c.opened.ensures) in
    let r : c.from_residual.result ≡ Err c.in_err-store.field-0.0 = search rules in
    rw e r

pub returns-in_err-store-clause-store : goal.returns-in_err-store-clause-store
returns-in_err-store-clause-store c =
    rw (record_opens c.args.store.now c.args.shape (Err c.in_err-store.field-0.0) c.if-store-ne0.false (sym c.in_err-store.was ∙ c.opened.ensures))

pub returns-clause-answer : goal.returns-clause-answer
returns-clause-answer c = rw (record_opens c.args.store.now c.args.shape (Ok c.in_ok-store.field-0) c.if-store-ne0.false (sym c.in_ok-store.was ∙ c.opened.ensures))

pub returns-clause-store : goal.returns-clause-store
returns-clause-store c = rw (record_opens c.args.store.now c.args.shape (Ok c.in_ok-store.field-0) c.if-store-ne0.false (sym c.in_ok-store.was ∙ c.opened.ensures))
