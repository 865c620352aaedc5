use Rattle.std.proofs.Common.{sym, arith}
use Rattle.word_stores.proofs.Words.{with_word_none}
use Rattle.word_stores.proofs.put_word.Goals as goal

pub returns-else-saturating_sub-ge4 : goal.returns-else-saturating_sub-ge4
returns-else-saturating_sub-ge4 c = sym (with_word_none _ _ _ (omega arith))
