use Rattle.xip_sections.specs.Marks.{marked}
use Rattle.xip_sections.proofs.is_marked.Goals as goal

pub returns : goal.returns
unfolding marked
returns c = rw c.byte.ensures
