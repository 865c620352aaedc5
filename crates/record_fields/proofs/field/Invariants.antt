use Rattle.record_fields.specs.Fields.{before, hash}
use Rattle.record_fields.proofs.Fields.{AtField}
use Rattle.record_fields.proofs.field.Given as goal

abbrev pub invariant-loop : goal.invariant-loop
invariant-loop l = AtField (before hash l.line) l.rest l.counter
