use Rattle.loader.specs.LeafCursor.{Passed}
use Rattle.loader.specs.Planned.{in_flash}
use Rattle.loader.proofs.leaves.leaf_from.Given as goal

abbrev pub invariant-loop-j : goal.invariant-loop-j
invariant-loop-j l = Passed l.from.share.plan.now.block.bytes.now (in_flash l.from.share.plan.now) l.from.share.q l.from.slot l.j l.place
