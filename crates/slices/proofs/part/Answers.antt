use Rattle.std.proofs.lemmas.List.{take_min}
use Rattle.slices.proofs.part.Goals as goal

pub returns : goal.returns
returns c = rw (c.min.ensures, take_min, c.tail-t.ensures)
