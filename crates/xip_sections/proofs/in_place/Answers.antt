use Rattle.std.proofs.Common.{arith}
use Rattle.std.proofs.lemmas.Grind.{common_steps}
use Rattle.std.proofs.lemmas.Bool.Decides.{nat_tests}
use Rattle.notation.specs.Choice.{all}
use Rattle.rules.specs.InPlace.{in_place, flash_from, flash_to}
use Rattle.xip_sections.specs.Marks.{lies_in_pages}
use Rattle.xip_sections.proofs.in_place.Goals as goal

pub returns-then-is_of_kind_1 : goal.returns-then-is_of_kind_1
unfolding in_place all flash_from flash_to lies_in_pages
returns-then-is_of_kind_1 c = grind (arith, nat_tests, common_steps)

pub returns-else-is_of_kind_1 : goal.returns-else-is_of_kind_1
unfolding in_place all flash_from flash_to lies_in_pages
returns-else-is_of_kind_1 c = grind (arith, nat_tests, common_steps)
