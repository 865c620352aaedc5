use Rattle.notation.specs.Lists.{gather}
use Rattle.writing.specs.Uses.{Wrote}
use Rattle.writing.specs.Loaded.{section_content}
use Rattle.xip_sections.specs.Marks.{marked}
use Rattle.rules.specs.Order.{section_pages}
use Rattle.load_sections.proofs.load_process.Given as goal

abbrev pub invariant-loop-j : goal.invariant-loop-j
invariant-loop-j l = Wrote (section_content l.source.block.bytes.now l.source.flash.now) (gather l.j (section_pages l.source.block.bytes.now (marked l.source.block.xip.now) l.q)) l.initial.ram l.initial.next.left l.ram l.next.left
