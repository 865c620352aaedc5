use Rattle.text.proofs.Appended.{puts_then}
use Rattle.write_report.proofs.put_count.Goals as goal

pub returns : goal.returns
returns c =
    puts_then (rw c.field.ensures at c.put_shown.ensures)
    (puts_then c.put.ensures
    (puts_then c.put_decimal.ensures
    (puts_then c.put-2.ensures
    (puts_then (rw c.verb.ensures at c.put-3.ensures)
    (puts_then c.put-4.ensures c.put_decimal-2.ensures)))))
