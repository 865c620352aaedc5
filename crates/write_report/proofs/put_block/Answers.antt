use Rattle.text.proofs.Appended.{puts_then}
use Rattle.write_report.specs.Lines.{block_line}
use Rattle.write_report.proofs.put_block.Goals as goal

pub returns : goal.returns
unfolding block_line
returns c =
    puts_then c.put.ensures
    (puts_then (rw c.from.ensures at c.put_decimal.ensures)
    (puts_then c.put-2.ensures
    (puts_then c.put_counts.ensures c.put-3.ensures)))
