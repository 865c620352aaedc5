use Rattle.std.proofs.Common.{rules, ◌+◌, ◌∙◌}
use Rattle.order_laws.specs.Places.{tables_before, table_count, table_uses_length}
use Rattle.order_places.proofs.tables_before.Goals as goal

pub returns : goal.returns
unfolding tables_before
returns c = c.capped_total.ensures (λ i. table_count c.args.block.now (i + 1)) (λ i r h k. (search rules) ∙ table_uses_length c.args.block.now (i + 1))
