-- `store_settle_step::serve_step` meets its contract: a refused serve queues no order, another as many as its service awaits. Assumes nothing.
use Rattle.std.proofs.Common.{sym, ap, ◌∙◌, arith}
use Rattle.answers.specs.Refusals.{refused_of}
use Rattle.machine.specs.Machine.Serve.{serve_of}
use Rattle.machine.proofs.Bounds.Sound.{sound}
use Rattle.store_settle_step.proofs.Taken.{taken_some, serve_sends}
use Rattle.store_settle_step.proofs.serve_step.Goals as goal

pub bounds-store-k : goal.bounds-store-k
bounds-store-k c = omega (arith, (sound _ c.requires.0).n_high, c.requires.1)

pub returns-clause-step : goal.returns-clause-step
returns-clause-step c =
    let s = c.args.store.now in
    let answered = sym c.in_ok-answer.was ∙ c.serve_sound.ensures.answer in
    let sends = serve_sends s c.args.k c.requires.0 c.requires.2 (sym (ap refused_of answered)) in
    taken_some s (serve_of s c.args.k) _ _ answered (rw (c.sent_for.ensures, c.serve_sound.ensures.store) sends)
