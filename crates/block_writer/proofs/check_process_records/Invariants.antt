use Rattle.std.proofs.Common.{◌≡◌, ◌-◌, ◌*◌, ◌≤◌}
use Rattle.rules.specs.Refusals.{accepted, first_record}
use Rattle.block_writer.specs.Lists.{sections_before_in, check_in, process_refusal}
use Rattle.block_writer.proofs.check_process_records.Given as goal

-- the records from i on give what all give, and `before` is the sum of the section counts below i
abbrev pub invariant-loop-i : goal.invariant-loop-i
invariant-loop-i l =
    (l.before ≡ sections_before_in l.lists.processes.now l.i) × (l.before ≤ 4294967295 * l.i)
    × (first_record (check_in l.lists.processes.now l.s) l.i (l.p - l.i) accepted ≡ process_refusal l.lists.processes.now l.s)
