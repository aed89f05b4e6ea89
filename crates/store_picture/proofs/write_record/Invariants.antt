-- `store_picture::write_record` meets its contract: a turn of the loop writes one word. Assumes nothing.
use Rattle.words.specs.Folds.{gather_to}
use Rattle.buffers.proofs.Writing.{Wrote}
use Rattle.store_picture.proofs.Records.{word_at}
use Rattle.store_picture.proofs.write_record.Given as goal

abbrev pub invariant-loop-word : goal.invariant-loop-word
invariant-loop-word l = Wrote l.initial.part l.initial.place (gather_to (word_at l.fn.x) l.word-index) l.place l.part
