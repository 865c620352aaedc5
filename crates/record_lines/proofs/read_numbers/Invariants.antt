use Rattle.record_fields.specs.Fields.{fields}
use Rattle.record_lines.proofs.Lines.{Numbers}
use Rattle.record_lines.proofs.read_numbers.Given as goal

abbrev pub invariant-loop-k : goal.invariant-loop-k
invariant-loop-k g l = Numbers (fields l.line) g.row.N l.number-items l.k
