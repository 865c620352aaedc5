use Rattle.std.proofs.Common.{◌≡◌, ◌+◌, ◌≤◌, max}
use Rattle.notation.specs.Lists.{sum}
use Rattle.order_leaves.specs.TakenSlots.{slot_taken}
use Rattle.order_leaves.proofs.TakenSlots.{added}
use Rattle.order_leaves.proofs.take_slots.Given as goal

-- the slots below m are added
abbrev pub invariant-loop-m : goal.invariant-loop-m
invariant-loop-m l =
    (l.m ≤ max l.from l.shared)
    × (l.slots + l.from ≤ 1024 + l.m)
    × (l.slots ≡ l.taken.slots + sum l.m (added (slot_taken l.block l.first l.k) l.from l.to))
