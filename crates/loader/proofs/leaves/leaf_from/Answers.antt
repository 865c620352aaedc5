use Rattle.std.proofs.Common.{refl, arith}
use Rattle.loader.proofs.LeafCursor.{record_number, leaf_found, leaf_own, leaf_none, passed_room, passed_more}
use Rattle.loader.proofs.Shares.{walk}
use Rattle.loader.proofs.leaves.leaf_from.Goals as goal

pub invariant_of-result : goal.invariant_of-result
invariant_of-result c =
    let process = c.read_process-process.ensures in
    let at = leaf_found (walk c.args.from.now.share) c.loop-j.invariant (omega (arith, process.sections_of_is)) (record_number _ _ _ c.section-n.ensures process.first_section) c.read_section-section.ensures (rw c.slot.ensures at c.if-from-slot.true) (rw c.slot-then-from-slot.ensures at c.max-slot.ensures) in
    record { here = at.here; passed = at.passed }

pub returns-then-from-slot : goal.returns-then-from-slot
returns-then-from-slot c =
    let process = c.read_process-process.ensures in
    (refl, (leaf_found (walk c.args.from.now.share) c.loop-j.invariant (omega (arith, process.sections_of_is)) (record_number _ _ _ c.section-n.ensures process.first_section) c.read_section-section.ensures (rw c.slot.ensures at c.if-from-slot.true) (rw c.slot-then-from-slot.ensures at c.max-slot.ensures)).first)

pub overflow_add-place : goal.overflow_add-place
overflow_add-place c =
    omega (arith, passed_room (walk c.args.from.now.share) c.loop-j.invariant, c.read_section-section.ensures.pages_few, c.pages_taken-place.ensures.1)

pub loop-j-preserved : goal.loop-j-preserved
loop-j-preserved c =
    let process = c.read_process-process.ensures in
    passed_more c.loop-j.invariant (omega (arith, process.sections_of_is)) (record_number _ _ _ c.section-n.ensures process.first_section) c.read_section-section.ensures
    (omega (arith, c.slot.ensures)) c.pages_taken-place.ensures.0

pub returns-then-slot-from : goal.returns-then-slot-from
returns-then-slot-from c =
    leaf_none (walk c.args.from.now.share) c.loop-j.invariant (omega (arith, c.loop-j.invariant.inside, c.read_process-process.ensures.sections_of_is)) c.own_slot-slot.ensures c.if-slot-from.true

pub invariant_of-result-2 : goal.invariant_of-result-2
invariant_of-result-2 c =
    let at = leaf_own (walk c.args.from.now.share) c.loop-j.invariant c.read_process-process.ensures.sections_of_is c.loop-j-test.false c.own_slot-slot.ensures c.if-slot-from.false in
    record { here = at.here; passed = at.passed }

pub returns : goal.returns
returns c =
    (refl, (leaf_own (walk c.args.from.now.share) c.loop-j.invariant c.read_process-process.ensures.sections_of_is c.loop-j-test.false c.own_slot-slot.ensures c.if-slot-from.false).first)
