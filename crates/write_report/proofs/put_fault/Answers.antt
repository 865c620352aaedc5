use Rattle.text.proofs.Appended.{puts_then}
use Rattle.write_report.specs.Lines.{fault_line}
use Rattle.write_report.proofs.put_fault.Goals as goal

pub returns : goal.returns
unfolding fault_line
returns c = rw (← c.requires)
    (puts_then c.put.ensures
    (puts_then c.put_decimal.ensures
    (puts_then c.put-2.ensures
    (puts_then c.put_cause.ensures c.put-3.ensures))))
