use Rattle.text.proofs.Appended.{puts_then}
use Rattle.write_report.proofs.put_field.Goals as goal

pub returns : goal.returns
returns c = puts_then c.put.ensures (rw c.field.ensures at c.put_shown.ensures)
