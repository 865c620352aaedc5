use Rattle.std.specs.Prelude.{◌+◌, ◌-◌, ◌≤◌}
use Rattle.stores.proofs.Written.{Written, copy_of}
use Rattle.stores.proofs.copy_in.Given as goal

-- so far the bytes below `start` are copied
abbrev pub invariant-loop-start : goal.invariant-loop-start
invariant-loop-start l = (l.start ≤ l.n) × Written (copy_of l.at l.from) l.at (l.at + l.start) l.initial.to l.to

abbrev pub decreases-loop-start : goal.decreases-loop-start
decreases-loop-start l = l.n - l.start
