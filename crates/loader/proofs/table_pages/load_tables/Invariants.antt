use Rattle.std.proofs.Common.{◌≡◌, ◌+◌}
use Rattle.notation.specs.Lists.{gather}
use Rattle.rules.specs.Order.{table_uses}
use Rattle.order_laws.specs.Places.{section_place}
use Rattle.loader.specs.Planned.{in_flash, Loads}
use Rattle.loader.proofs.table_pages.load_tables.Given as goal

abbrev pub invariant-loop-i : goal.invariant-loop-i
invariant-loop-i l = record {
  at_place : l.place ≡ section_place l.plan.block.bytes.now (in_flash l.plan) (l.i + 1);
  done : Loads l.plan (gather l.i (λ i. table_uses l.plan.block.bytes.now (i + 1))) l.initial.ram l.initial.next.left l.ram l.next.left;
}
