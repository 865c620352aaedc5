use Rattle.std.specs.Prelude.{◌+◌}
use Rattle.stores.proofs.Written.{Written, copy_of}
use Rattle.stores.proofs.copy_bytes.Given as goal

-- so far i bytes are copied
abbrev pub invariant-loop-i : goal.invariant-loop-i
invariant-loop-i l = Written (copy_of l.at l.from) l.at (l.at + l.i) l.initial.to l.to
