use Rattle.std.proofs.Common.{◌<◌}
use Rattle.numerals.proofs.Digits.{Valued}
use Rattle.numerals.proofs.value.Given as goal

abbrev pub invariant-loop-c : goal.invariant-loop-c
invariant-loop-c l = (l.v < 4294967296) × Valued l.radix l.text l.v l.c-index
