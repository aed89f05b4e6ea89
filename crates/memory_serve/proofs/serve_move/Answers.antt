-- `memory_serve::serve_move` meets its contract: the service closes at once where no lane is ordered, else the orders go out. Assumes nothing.
use Rattle.std.proofs.Common.{rules}
use Rattle.machine.specs.Machine.Serve.{serve_move}
use Rattle.machine.proofs.Store.ServeByte.{orders_lanes}
use Rattle.memory_serve.proofs.Bytes.{count_orders}
use Rattle.memory_serve.proofs.serve_move.Goals as goal

pub returns-then-n-eq0 : goal.returns-then-n-eq0
unfolding serve_move
returns-then-n-eq0 c =
    let args = c.args in
    let n = count_orders args.b args.k args.o.command c.orders_byte-to.ensures c.count-n.ensures in
    search rules

pub returns : goal.returns
unfolding serve_move
returns c =
    let args = c.args in
    let n = count_orders args.b args.k args.o.command c.orders_byte-to.ensures c.count-n.ensures in
    let lanes = orders_lanes args.b args.k args.o.command c.well_formed.1.0.1.1.1.0.1.0.1 in
    search rules
