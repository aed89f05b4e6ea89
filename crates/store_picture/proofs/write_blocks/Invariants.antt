-- `store_picture::write_blocks` meets its contract: a turn of the loop writes one block. Assumes nothing.
use Rattle.words.specs.Folds.{gather_to}
use Rattle.buffers.proofs.Writing.{Wrote}
use Rattle.store_picture.specs.Records.{block_records}
use Rattle.store_picture.proofs.write_blocks.Given as goal

abbrev pub invariant-loop-a : goal.invariant-loop-a
invariant-loop-a l = Wrote l.initial.buffer 0 (gather_to (block_records l.s) l.a) l.place l.buffer
