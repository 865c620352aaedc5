use Rattle.std.proofs.Common.{◌≡◌, ℕ, ◌-◌, ◌<◌}
use Rattle.rules.specs.Answers.{RecordCheck}
use Rattle.rules.specs.Refusals.{accepted, first_record}
use Rattle.refusals.specs.Answers.{check_of}
use Rattle.checks.proofs.refuse_records.Given as goal

-- the records from i on give what all give
abbrev pub invariant-loop-i : goal.invariant-loop-i
invariant-loop-i g l =
    (f : ℕ → RecordCheck) → ((i : ℕ) (r : _) → i < l.n → goal.F-post g l.check i r → check_of r ≡ f i)
    → first_record f l.i (l.n - l.i) accepted ≡ first_record f 0 l.n accepted
