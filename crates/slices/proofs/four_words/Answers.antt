use Rattle.slices.proofs.Parts.{words_tail}
use Rattle.slices.proofs.four_words.Goals as goal

pub returns-then-t-lt16 : goal.returns-then-t-lt16
returns-then-t-lt16 c = words_tail _ _ _ _ c.tail-t.ensures c.padded_words.ensures

pub returns : goal.returns
returns c = words_tail _ _ _ _ c.tail-t.ensures c.first_words.ensures
