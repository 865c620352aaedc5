use Rattle.std.proofs.Common.{◌+◌}
use Rattle.notation.specs.Lists.{gather}
use Rattle.rules.specs.Order.{section_uses}
use Rattle.xip_sections.specs.Marks.{marked}
use Rattle.writing.specs.Uses.{Wrote}
use Rattle.writing.specs.Loaded.{section_content}
use Rattle.load_sections.proofs.load_sections.Given as goal

abbrev pub invariant-loop-i : goal.invariant-loop-i
invariant-loop-i l = Wrote (section_content l.source.block.bytes.now l.source.flash.now) (gather l.i (λ i. section_uses l.source.block.bytes.now (marked l.source.block.xip.now) (i + 2))) l.initial.ram l.initial.next.left l.ram l.next.left
