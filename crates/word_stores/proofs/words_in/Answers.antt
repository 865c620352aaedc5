use Rattle.std.proofs.Common.{◌≡◌, refl, arith}
use Rattle.stores.proofs.Written.{written_none}
use Rattle.word_stores.proofs.Words.{with_words_more, with_words_rest, with_words_is}
use Rattle.word_stores.proofs.words_in.Goals as goal

pub loop-i-init : goal.loop-i-init
loop-i-init c = written_none _ _ _ _ refl

pub loop-i-preserved : goal.loop-i-preserved
loop-i-preserved c = with_words_more c.args.words.now _ c.loop-i.invariant c.store_word.ensures (omega arith)

pub returns-then-n-words : goal.returns-then-n-words
returns-then-n-words c =
    let l = c.loop-i in
    let i : l.i ≡ c.min-n.result = omega arith in
    with_words_is _ (with_words_rest _ _ (rw i at l.invariant) c.to_le_bytes.ensures c.copy_in.ensures) (omega arith)

pub returns-else-n-words : goal.returns-else-n-words
returns-else-n-words c = with_words_is _ c.loop-i.invariant (omega arith)
