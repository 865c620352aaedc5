use Rattle.load_page.specs.Pages.{page_of}
use Rattle.load_sections.specs.Pages.{WrotePages}
use Rattle.load_sections.proofs.load_pages.Given as goal

abbrev pub invariant-loop-i : goal.invariant-loop-i
invariant-loop-i l = WrotePages (page_of l.section l.flash) l.i l.initial.ram l.initial.next.left l.ram l.next.left
