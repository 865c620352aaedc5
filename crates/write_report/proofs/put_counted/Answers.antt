use Rattle.std.proofs.Common.{append-nil, eq-eqb, ne_eqb}
use Rattle.laws.specs.Choice.{choose_yes, choose_no}
use Rattle.text.proofs.Appended.{puts_then}
use Rattle.write_report.specs.Lines.{counted}
use Rattle.write_report.proofs.put_counted.Goals as goal

pub returns-then-n-ne1 : goal.returns-then-n-ne1
unfolding counted
returns-then-n-ne1 c = rw (choose_no _ _ (ne_eqb _ _ c.if-n-ne1.true))
    (puts_then c.put_decimal.ensures (puts_then c.put.ensures c.put-then-n-ne1.ensures))

pub returns-else-n-ne1 : goal.returns-else-n-ne1
unfolding counted
returns-else-n-ne1 c = rw (choose_yes _ _ (eq-eqb _ _ c.if-n-ne1.false), append-nil) (puts_then c.put_decimal.ensures c.put.ensures)
