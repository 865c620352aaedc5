use Rattle.std.proofs.Common.{get_or, length}
use Rattle.notation.specs.Lists.{tab}
use Rattle.text.specs.Puts.{Puts}
use Rattle.write_report.specs.Lines.{shown_byte}
use Rattle.write_report.proofs.put_shown.Given as goal

abbrev pub invariant-loop-c : goal.invariant-loop-c
invariant-loop-c l = Puts l.initial.out (tab (length l.yielded) (λ k. shown_byte (get_or l.field k 0))) l.out
