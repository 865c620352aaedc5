use Rattle.loader.proofs.LeafCursor.{passed_none}
use Rattle.loader.proofs.plan.Share.leaves.Goals as goal

pub invariant_of-result : goal.invariant_of-result
invariant_of-result c = record { passed = passed_none 0 c.args.self.now.placed }
