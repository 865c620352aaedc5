use Rattle.std.proofs.Common.{arith}
use Rattle.word_stores.proofs.Words.{with_word_stored}
use Rattle.word_stores.proofs.store_word.Goals as goal

pub returns : goal.returns
returns c = with_word_stored _ _ _ (omega arith) c.to_le_bytes.ensures
