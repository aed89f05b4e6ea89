-- `test_bounds::orders` meets its contract. Assumes nothing.
use Rattle.std.proofs.Common.{rules, ◌≡◌, ◌∙◌, ◌≤◌, min, take, length, arith, count_by}
use Rattle.queues.specs.Queues.{no_down}
use Rattle.queues.specs.Messages.{DownMessage}
use Rattle.machine.specs.Machine.Settle.{is_order}
use Rattle.test_bounds.proofs.Sums.{queue_taken}
use Rattle.test_bounds.proofs.orders.Goals as goal

pub returns-clause-value : goal.returns-clause-value
returns-clause-value c =
    let q = c.args.q.now in
    let e : c.count.result ≡ count_by (λ (m : DownMessage). is_order m.kind) (take (min q.len 8) q.at) = search rules in
    let h : 8 ≤ length q.at = omega arith in
    e ∙ queue_taken _ q.at no_down q.len 8 h
