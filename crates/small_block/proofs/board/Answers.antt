use Rattle.notation.specs.Choice.{choose}
use Rattle.notation.specs.Lists.{tab}
use Rattle.notation.specs.Words.{byte_of, bytes_of}
use Rattle.rules.specs.Examples.{board}
use Rattle.word_stores.specs.Words.{with_words}
use Rattle.small_block.proofs.board.Goals as goal

pub returns : goal.returns
unfolding with_words tab choose board bytes_of byte_of
returns c = c.words_in.ensures
