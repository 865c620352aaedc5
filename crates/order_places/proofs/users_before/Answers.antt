use Rattle.std.proofs.Common.{arith}
use Rattle.std.proofs.lemmas.Grind.{common_steps}
use Rattle.std.proofs.lemmas.Bool.Decides.{nat_tests}
use Rattle.notation.specs.Choice.{choose}
use Rattle.order_places.proofs.users_before.Goals as goal

pub returns-then-q-eq1 : goal.returns-then-q-eq1
unfolding choose
returns-then-q-eq1 c = grind (arith, nat_tests, common_steps)

pub returns : goal.returns
unfolding choose
returns c = grind (arith, nat_tests, common_steps)
