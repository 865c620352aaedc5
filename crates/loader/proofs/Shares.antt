-- What is known of a process of a plan.
use Rattle.loader.specs.declared.plan.Share.{Share}
use Rattle.loader.specs.LeafCursor.{Walkable}
use Rattle.loader.specs.Planned.{in_flash}
use Rattle.loader.proofs.LeafEntries.{walkable}

pub walk : (s : Share) → Walkable s.plan.now.block.bytes.now (in_flash s.plan.now) s.q
walk s = walkable s.plan.now.fits s.q s.first s.last
