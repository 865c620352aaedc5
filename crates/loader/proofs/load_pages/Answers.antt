use Rattle.std.proofs.Common.{refl, ◌/◌, length, arith}
use Rattle.rules.specs.Lent.{memory_of}
use Rattle.lent.specs.Lent.{image}
use Rattle.xip_sections.specs.Marks.{marked}
use Rattle.loader.proofs.Loading.{needed_four, list_place, tables_place, list_room, pages_end}
use Rattle.loader.proofs.load_pages.Goals as goal

pub invariant_of-plan : goal.invariant_of-plan
invariant_of-plan c = record { fits = c.requires.0.room; flash_numbers = c.requires.1; needed_is = c.requires.3 }

pub overflow_sub-below_top : goal.overflow_sub-below_top
overflow_sub-below_top c =
    omega (arith, needed_four c.args.image.block.now (marked c.args.xip.now) (length c.args.ram.now / 4096), c.requires.0.room.enough)

pub load_process_list-after_list-requires : goal.load_process_list-after_list-requires
load_process_list-after_list-requires c =
    let sections = c.load_sections-after_sections.ensures in
    let tracker = c.load_tracker-after_tracker.ensures in
    (list_place _ _ _ _ _ sections tracker, list_room _ _ _ _ _ sections tracker refl)

pub load_tables-requires : goal.load_tables-requires
load_tables-requires c =
    tables_place _ _ _ _ _ c.load_sections-after_sections.ensures c.load_tracker-after_tracker.ensures c.load_process_list-after_list.ensures.0 c.load_block-after_copy.ensures.0

pub returns : goal.returns
returns c =
    let list = c.load_process_list-after_list.ensures in
    let copy = c.load_block-after_copy.ensures in
    pages_end (image c.args.image) (memory_of _ c.args.ram.now) (marked c.args.xip.now) c.requires.2 c.requires.0 c.load_sections-after_sections.ensures
    c.load_tracker-after_tracker.ensures list.0 list.1 copy.0 copy.1 c.load_tables.ensures
