use Rattle.std.proofs.Common.{◌≡◌, length, None}
use Rattle.record_texts.proofs.Reading.{Reading}
use Rattle.record_texts.proofs.read_records.Given as goal

abbrev pub invariant-loop-line : goal.invariant-loop-line
invariant-loop-line l = (l.lines ≡ length l.yielded) × (l.fault ≡ None) × Reading l.text l.initial.processes l.initial.sections l.initial.regions l.lines l.processes l.sections l.regions
