use Rattle.std.proofs.Common.{arith}
use Rattle.std.proofs.lemmas.Grind.{common_steps}
use Rattle.std.proofs.lemmas.Bool.Decides.{nat_tests}
use Rattle.notation.specs.Choice.{all}
use Rattle.xip_sections.specs.Marks.{lies_in_pages}
use Rattle.xip_sections.proofs.lies_in_pages.Goals as goal

pub returns-then-zero_between : goal.returns-then-zero_between
unfolding lies_in_pages all
returns-then-zero_between c = grind (arith, nat_tests, common_steps)

pub returns-else-zero_between : goal.returns-else-zero_between
unfolding lies_in_pages all
returns-else-zero_between c = grind (arith, nat_tests, common_steps)
