use Rattle.std.proofs.Common.{rules, ◌+◌}
use Rattle.order_laws.specs.Places.{process_pages, user_pages}
use Rattle.xip_sections.specs.Marks.{marked}
use Rattle.order_places.proofs.user_pages.Goals as goal

pub returns : goal.returns
unfolding user_pages
returns c = c.capped_total.ensures (λ i. process_pages c.args.block.now.bytes.now (marked c.args.block.now.xip.now) (i + 2)) (λ i r h k. search rules)
