use Rattle.text.proofs.Appended.{puts_then}
use Rattle.text.specs.Text.{two_numbers}
use Rattle.text.proofs.Out.put_two_numbers.Goals as goal

pub returns : goal.returns
unfolding two_numbers
returns c =
    puts_then c.put.ensures (puts_then c.put_decimal.ensures
    (puts_then c.put-2.ensures (puts_then c.put_decimal-2.ensures c.put-3.ensures)))
