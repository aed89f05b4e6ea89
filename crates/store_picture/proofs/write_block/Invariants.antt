-- `store_picture::write_block` meets its contract: a turn of the loop writes one lane. Assumes nothing.
use Rattle.words.specs.Folds.{gather_to}
use Rattle.buffers.proofs.Writing.{Wrote}
use Rattle.store_picture.specs.Records.{records_at}
use Rattle.store_picture.proofs.write_block.Given as goal

abbrev pub invariant-loop-k : goal.invariant-loop-k
invariant-loop-k l = Wrote l.initial.buffer l.at (gather_to (records_at l.s l.a.0) l.k) l.place l.buffer
