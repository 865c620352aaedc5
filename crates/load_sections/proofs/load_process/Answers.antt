use Rattle.std.proofs.Common.{arith}
use Rattle.writing.specs.Uses.{wrote_gather_none, wrote_gather_next}
use Rattle.load_sections.proofs.Turns.{process_end}
use Rattle.load_sections.proofs.load_process.Goals as goal

pub loop-j-init : goal.loop-j-init
loop-j-init c = wrote_gather_none _ _ _ _

pub loop-j-preserved : goal.loop-j-preserved
loop-j-preserved c = wrote_gather_next _ _ _ c.loop-j.invariant c.load_section-next.ensures

pub returns : goal.returns
returns c = process_end _ _ _ _ _ c.loop-j.invariant (omega (arith, c.read_process-j-end.ensures.sections_of_is))
