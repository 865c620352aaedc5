use Rattle.std.proofs.Common.{arith}
use Rattle.std.proofs.lemmas.List.{get_or-replicate}
use Rattle.slices.proofs.Parts.{words_padded}
use Rattle.slices.proofs.padded_words.Goals as goal

pub returns : goal.returns
returns c = words_padded _ _ _ _ (omega arith) (λ x l. get_or-replicate 16 x 0 0 l) c.copy_in.ensures c.first_words.ensures
