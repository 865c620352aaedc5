use Rattle.std.proofs.Common.{◌≡◌, ◌≤◌}
use Rattle.loader.proofs.TablePages.{Pointing}
use Rattle.loader.proofs.table_pages.point_to_leaves.Given as goal

abbrev pub invariant-loop-leaf : goal.invariant-loop-leaf
invariant-loop-leaf l = record {
  can : (goal.iterator-loop-leaf).can_next l.leaf-iterator;
  ends : (goal.iterator-loop-leaf).is_finite l.leaf-iterator;
  same : l.leaf-iterator.share ≡ l.share;
  inside : l.leaf-iterator.slot ≤ 1024;
  done : Pointing l.share.plan.now.block.bytes.now l.share.q l.initial.page l.initial.entries l.entries l.page l.leaf-iterator.slot;
}
