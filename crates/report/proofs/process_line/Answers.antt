use Rattle.text.proofs.Appended.{puts_then}
use Rattle.report.specs.Lines.{process_line}
use Rattle.report.proofs.process_line.Goals as goal

pub returns : goal.returns
unfolding process_line
returns c = rw (c.from.ensures, c.from-2.ensures) at (puts_then c.put_two_numbers.ensures (puts_then c.put_hex.ensures c.put.ensures))
