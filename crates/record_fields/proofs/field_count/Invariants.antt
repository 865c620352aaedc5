use Rattle.record_fields.proofs.Fields.{Counted}
use Rattle.record_fields.proofs.field_count.Given as goal

abbrev pub invariant-loop-c : goal.invariant-loop-c
invariant-loop-c l = Counted l.text l.c-index l.count l.inside
