-- `store_picture::write_lane` meets its contract: a turn of the loop writes one line. Assumes nothing.
use Rattle.buffers.proofs.Writing.{Wrote}
use Rattle.store_picture.specs.Records.{lane_records}
use Rattle.store_picture.proofs.write_lane.Given as goal

abbrev pub invariant-loop-line : goal.invariant-loop-line
invariant-loop-line l = Wrote l.initial.buffer l.at (lane_records l.a.0 l.k.0 l.fn.l l.line-index) l.place l.buffer
