use Rattle.std.proofs.Common.{◌∙◌}
use Rattle.slices.proofs.Parts.{word_tail, word_joined}
use Rattle.slices.proofs.word.Goals as goal

pub returns-then-t-lt4 : goal.returns-then-t-lt4
returns-then-t-lt4 c = c.padded_words.ensures.first ∙ word_tail _ _ _ c.tail-t.ensures

pub returns : goal.returns
returns c = word_joined c.tail-t.result.now 0 c.from_le_bytes.ensures ∙ word_tail _ _ _ c.tail-t.ensures
