use Rattle.order_leaves.specs.TakenSlots.{slot_taken, IsTaken}
use Rattle.order_leaves.proofs.table_count.Given as goal

-- `taken` are the slots of the first j sections
abbrev pub invariant-loop-j : goal.invariant-loop-j
invariant-loop-j l = IsTaken (slot_taken l.block l.first l.j) l.taken
