-- `memory_close::close_service` meets its contract. Assumes nothing.
use mathlib.Core.Path.{◌∙◌, ap}
use Rattle.store.specs.LaneSets.{only}
use Rattle.machine.specs.Machine.LaneBytes.{lanes_of}
use Rattle.machine.specs.Machine.Serve.{close}
use Rattle.machine.proofs.Laws.LaneBytes.{byte_lanes}
use Rattle.machine.proofs.Store.ConsistentServe.{only_length}
use Rattle.memory_close.proofs.close_service.Goals as goal

pub returns : goal.returns
unfolding close
returns c =
    let k = c.args.v.lane in
    rw (close, c.closed_block.ensures, c.grant.ensures, ap lanes_of c.lane_byte.ensures ∙ byte_lanes (only k) (only_length k))
