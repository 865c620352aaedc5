use Rattle.order_laws.specs.Places.{tracker_place}
use Rattle.std.proofs.Common.{rules}
use Rattle.order_places.proofs.tracker_place.Goals as goal

pub returns : goal.returns
unfolding tracker_place
returns c = search rules
