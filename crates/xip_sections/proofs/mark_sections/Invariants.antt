use Rattle.stores.proofs.Written.{Written}
use Rattle.xip_sections.specs.Marks.{mark_of}
use Rattle.xip_sections.proofs.mark_sections.Given as goal

abbrev pub invariant-loop-n : goal.invariant-loop-n
invariant-loop-n l = Written (mark_of l.block l.flash) 0 l.n l.initial.xip l.xip
