use Rattle.order_laws.specs.Places.{root_place}
use Rattle.std.proofs.Common.{arith}
use Rattle.order_places.proofs.root_place.Goals as goal

pub returns : goal.returns
unfolding root_place
returns c = omega (arith, rw c.saturating_sub.ensures at c.tables_before-before.ensures)
