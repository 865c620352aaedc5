use Rattle.load_page.proofs.Copied.{no_copy_page_is, section_page_is_lem}
use Rattle.load_page.proofs.section_page.Goals as goal

pub returns-then-section : goal.returns-then-section
returns-then-section c = no_copy_page_is _ _ _ _ c.if-section.true c.clear.ensures

pub returns : goal.returns
returns c = section_page_is_lem _ _ _ _ c.if-section.false c.part-bytes.ensures c.saturating_sub.ensures c.tail-rest.ensures c.saturating_sub-2.ensures c.copy_and_clear.ensures
