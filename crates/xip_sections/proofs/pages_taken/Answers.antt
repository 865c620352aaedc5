use Rattle.std.proofs.Common.{arith}
use Rattle.std.proofs.lemmas.Grind.{common_steps}
use Rattle.notation.specs.Choice.{choose}
use Rattle.xip_sections.proofs.pages_taken.Goals as goal

pub returns-then-is_marked : goal.returns-then-is_marked
unfolding choose
returns-then-is_marked c = grind (arith, common_steps)

pub returns-else-is_marked : goal.returns-else-is_marked
unfolding choose
returns-else-is_marked c = grind (arith, common_steps)
