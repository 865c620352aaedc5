use Rattle.std.proofs.Common.{◌≡◌, ◌≤◌}
use Rattle.notation.specs.Lists.{gather}
use Rattle.loader.specs.Planned.{Loads}
use Rattle.loader.specs.TablePages.{leaf_uses}
use Rattle.loader.proofs.table_pages.load_leaves.Given as goal

abbrev pub invariant-loop-leaf : goal.invariant-loop-leaf
invariant-loop-leaf l = record {
  can : (goal.iterator-loop-leaf).can_next l.leaf-iterator;
  ends : (goal.iterator-loop-leaf).is_finite l.leaf-iterator;
  same : l.leaf-iterator.share ≡ l.share;
  inside : l.leaf-iterator.slot ≤ 1024;
  done : Loads l.share.plan.now (gather l.leaf-iterator.slot (leaf_uses l.share.plan.now.block.bytes.now l.share.q)) l.initial.ram l.initial.next.left l.ram l.next.left;
}
