use Rattle.std.proofs.Common.{◌≡◌, arith}
use Rattle.order_leaves.proofs.TakenSlots.{is_taken_none, is_taken_next, is_taken_few, kernel_tables, user_tables}
use Rattle.order_leaves.proofs.table_count.Goals as goal

pub returns-then-q-eq1 : goal.returns-then-q-eq1
returns-then-q-eq1 c = kernel_tables _ _ c.if-q-eq1.true

pub loop-j-init : goal.loop-j-init
loop-j-init c = is_taken_none _ _

pub take_slots-taken-requires : goal.take_slots-taken-requires
take_slots-taken-requires c = c.loop-j.invariant

pub loop-j-preserved : goal.loop-j-preserved
loop-j-preserved c =
    let read = c.read_section-section.ensures in
    is_taken_next _ _ _ c.section.ensures read.first_page read.last_page (rw (c.slot.ensures, c.slot-in-loop-j.ensures) at c.take_slots-taken.ensures)

pub take_slots-all-requires : goal.take_slots-all-requires
take_slots-all-requires c =
    let e : c.loop-j.j ≡ c.read_process-process.result.sections = omega arith in
    rw e at c.loop-j.invariant

pub overflow_add-result : goal.overflow_add-result
overflow_add-result c = omega (arith, is_taken_few c.take_slots-all.ensures)

pub returns : goal.returns
returns c =
    let read = c.read_process-process.ensures in
    user_tables _ _ c.if-q-eq1.false read.first_section read.sections_of_is c.take_slots-all.ensures
