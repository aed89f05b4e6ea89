-- `store_picture::write_record` meets its contract: three bytes, then four words, each after the one before. Assumes nothing.
use native.Mathlib.Omega.{arith}
use Rattle.std.proofs.Common.{rules, ◌≡◌, length}
use Rattle.buffers.proofs.Writing.{written_none, wrote_then}
use Rattle.store_picture.proofs.Records.{gather_none, wrote_more, wrote_fits, word_at, words_length, record_words}
use Rattle.store_picture.proofs.write_record.Goals as goal

pub loop-word-init : goal.loop-word-init
loop-word-init c = rw (gather_none (word_at c.args.x)) (omega arith, written_none _ _)

pub write_word-place-requires : goal.write_word-place-requires
write_word-place-requires c =
    let four : length c.args.x.words ≡ 4 = search rules in
    wrote_fits (word_at c.args.x) c.loop-word.word-index 4 c.put-place.new.out c.put-place.result c.loop-word.invariant (omega arith)
    (omega (arith, words_length c.args.x))

pub loop-word-preserved : goal.loop-word-preserved
loop-word-preserved c =
    let four : length c.args.x.words ≡ 4 = search rules in
    wrote_more (word_at c.args.x) _ 4 _ _ c.loop-word.invariant c.write_word-place.ensures (omega arith) (omega (arith, words_length c.args.x))

pub returns : goal.returns
returns c =
    let four : length c.args.x.words ≡ 4 = search rules in
    let all : c.loop-word.word-index ≡ 4 = omega arith in
    let four-words = rw all at c.loop-word.invariant in
    let w = rw (record_words c.args.k.0 c.args.x) at (wrote_then _ _ _ _ c.put-place.ensures four-words (omega (arith, words_length c.args.x))) in
    w.1
