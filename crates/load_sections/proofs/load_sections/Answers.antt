use Rattle.std.proofs.Common.{arith, ◌+◌}
use Rattle.rules.specs.Order.{section_uses}
use Rattle.writing.specs.Uses.{wrote_gather_none, wrote_gather_next}
use Rattle.load_sections.proofs.Turns.{sections_end}
use Rattle.load_sections.proofs.load_sections.Goals as goal

pub loop-i-init : goal.loop-i-init
loop-i-init c = wrote_gather_none _ _ _ _

pub loop-i-preserved : goal.loop-i-preserved
loop-i-preserved c = wrote_gather_next _ (λ i. section_uses _ _ (i + 2)) _ c.loop-i.invariant c.load_process-next.ensures

pub returns : goal.returns
returns c = sections_end _ _ _ _ c.loop-i.invariant (omega arith) c.load_process.ensures
