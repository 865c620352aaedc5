use Rattle.std.proofs.Common.{ap, arith, ◌∙◌, sym, not}
use Rattle.laws.specs.Counts.{one_yes, one_no}
use Rattle.order_leaves.specs.TakenSlots.{slot_taken}
use Rattle.order_leaves.proofs.TakenSlots.{added_start, added_next, is_taken_few, is_taken_with}
use Rattle.order_leaves.proofs.take_slots.Goals as goal
use Rattle.order_leaves.proofs.take_slots.Goals.{then-not-slot_taken, else-not-slot_taken}

pub loop-m-init : goal.loop-m-init
loop-m-init c =
    (omega arith, omega (arith, is_taken_few c.requires), omega (arith, added_start (slot_taken c.args.block.now c.args.first c.args.k) c.args.from c.args.to))

pub loop-m-preserved : goal.loop-m-preserved
loop-m-preserved c =
    let t = c.slot_taken.ensures in
    let n = added_next (slot_taken c.args.block.now c.args.first c.args.k) c.args.from c.args.to c.loop-m.m (omega arith) (omega arith) in
    elim c.if-not-slot_taken.branch [
      | then-not-slot_taken w ↦ (omega arith, omega arith, omega (arith, one_yes (ap not (sym t) ∙ ap not w.if-not-slot_taken.true)))
      | else-not-slot_taken w ↦ (omega arith, omega arith, omega (arith, one_no (ap not (sym t) ∙ ap not w.if-not-slot_taken.false)))
    ]

pub returns : goal.returns
returns c =
    is_taken_with _ _ c.loop-m.m c.min-end.result _ c.requires (omega arith) (omega arith) (omega arith) (omega arith) c.loop-m.invariant.2 (omega arith) (omega arith)
