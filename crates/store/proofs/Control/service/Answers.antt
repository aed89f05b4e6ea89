-- `store::Control::service` meets its contract. Assumes nothing.
use Rattle.std.proofs.Common.{◌∙◌, sym}
use Rattle.store.specs.Control.{slot_of}
use Rattle.store.proofs.Services.{number_some, number_none, none_found, service_there}
use Rattle.store.proofs.Control.service.Goals as goal

pub returns-in_err-find : goal.returns-in_err-find
returns-in_err-find c =
    let n = number_none (slot_of c.args.self c.args.a) (sym c.find.ensures ∙ c.in_err-find.was) in
    c.from_residual.ensures ∙ sym (none_found c.args.self c.args.a n)

pub returns : goal.returns
returns c =
    let n = number_some (slot_of c.args.self c.args.a) c.in_ok-find.field-0 (sym c.find.ensures ∙ c.in_ok-find.was) in
    rw (← n.0) (service_there c.args.self c.args.a n.1)
