use Rattle.rules.specs.Lent.{pages_in}
use Rattle.rules.specs.InPlace.{xip_of}
use Rattle.lent.specs.Lent.{image}
use Rattle.text.specs.Puts.{Puts}
use Rattle.report.specs.Listing.{process_lines}
use Rattle.report.proofs.process_lines.Given as goal

abbrev pub invariant-loop-i : goal.invariant-loop-i
invariant-loop-i l = Puts l.initial.out (process_lines (image l.image).block (xip_of (image l.image)) (pages_in l.ram) l.i) l.out
