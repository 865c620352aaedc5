use Rattle.order_laws.specs.Places.{section_place}
use Rattle.std.proofs.Common.{arith}
use Rattle.order_places.proofs.section_place.Goals as goal

pub returns : goal.returns
unfolding section_place
returns c = omega (arith, rw c.users_before-users.ensures.0 at c.user_pages.ensures)
