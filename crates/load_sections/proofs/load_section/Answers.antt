use Rattle.std.proofs.Common.{arith}
use Rattle.load_sections.proofs.Turns.{pages_cleared, section_end_is}
use Rattle.load_sections.proofs.load_section.Goals as goal

pub returns-then-has_pages : goal.returns-then-has_pages
returns-then-has_pages c =
    section_end_is _ _ _ _ _ _ _ c.read_section-section.result c.read_section-section.ensures (omega (arith, c.read_process.ensures.first_section, c.section-n.ensures))
    c.pages_taken-count.ensures.0 (pages_cleared _ _ _ c.if-section.true c.clear_pages.ensures)

pub returns : goal.returns
returns c =
    section_end_is _ _ _ _ _ _ _ c.read_section-section.result c.read_section-section.ensures (omega (arith, c.read_process.ensures.first_section, c.section-n.ensures))
    c.pages_taken-count.ensures.0 c.load_pages.ensures
