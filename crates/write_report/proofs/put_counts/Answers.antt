use Rattle.text.proofs.Appended.{puts_then}
use Rattle.write_report.specs.Lines.{counts_text}
use Rattle.write_report.proofs.put_counts.Goals as goal

pub returns : goal.returns
unfolding counts_text
returns c =
    puts_then c.put_counted.ensures
    (puts_then c.put.ensures
    (puts_then c.put_counted-2.ensures
    (puts_then c.put-2.ensures c.put_counted-3.ensures)))
