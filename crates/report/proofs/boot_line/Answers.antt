use Rattle.report.specs.Lines.{boot_line}
use Rattle.report.proofs.boot_line.Goals as goal

pub returns : goal.returns
unfolding boot_line
returns c = rw c.from.ensures at c.put_two_numbers.ensures
