use Rattle.text.proofs.Appended.{puts_then}
use Rattle.refusal_line.specs.Line.{refused_line}
use Rattle.refusal_line.proofs.put_numbers.Goals as goal

pub returns : goal.returns
unfolding refused_line
returns c =
    rw (c.from.ensures, c.from-2.ensures, c.from-3.ensures) at
    (puts_then c.put_two_numbers.ensures (puts_then c.put_decimal.ensures c.put.ensures))
