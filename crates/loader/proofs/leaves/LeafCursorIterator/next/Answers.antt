use Rattle.std.proofs.Common.{rules, arith}
use Rattle.loader.proofs.LeafCursor.{leaf_inside}
use Rattle.loader.proofs.Shares.{walk}
use Rattle.loader.proofs.leaves.LeafCursorIterator.next.Goals as goal

pub returns-clause-goes : goal.returns-clause-goes
returns-clause-goes c =
    let leaf = c.in_ok-leaf.leaf in
    record {
      on = λ _. (search rules, search rules, omega (arith, c.in_ok-leaf.ensures.1.low, leaf_inside (walk leaf.share) leaf.slot leaf.here));
      keeps = search rules;
      rests = λ _. search rules;
    }
