use Rattle.slices.proofs.Parts.{tail_is}
use Rattle.slices.proofs.tail.Goals as goal

pub returns : goal.returns
returns c = tail_is _ _ _ c.min.ensures
