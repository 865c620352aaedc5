use Rattle.std.proofs.Common.{refl, arith, ◌∙◌}
use Rattle.loader.proofs.LeafEntries.{mapped_from, mapped_more, mapped_stop, mapped_all}
use Rattle.loader.proofs.LeafCursor.{record_number}
use Rattle.loader.proofs.Shares.{walk}
use Rattle.loader.proofs.leaf_entries.map_sections.Goals as goal

pub loop-j-init : goal.loop-j-init
loop-j-init c =
    let leaf = c.args.leaf.now in
    record { inside = leaf.passed.inside; size = refl; mapped = mapped_from leaf.share.plan.now.fits (walk leaf.share) leaf.passed c.requires }

pub returns-then-leaf-slot : goal.returns-then-leaf-slot
returns-then-leaf-slot c =
    let process = c.read_process-process.ensures in
    mapped_stop c.loop-j.invariant.mapped (walk c.args.leaf.now.share) (record_number _ _ _ c.section-n.ensures process.first_section)
    (omega (arith, process.sections_of_is)) c.read_section-section.ensures (rw c.slot.ensures at c.if-leaf-slot.true)

pub overflow_add-place : goal.overflow_add-place
overflow_add-place c =
    omega (arith, c.pages_taken-place.ensures.1, c.read_section-section.ensures.pages_few, c.loop-j.invariant.mapped.room, c.args.leaf.now.share.plan.now.fits.few_pages)

pub loop-j-preserved : goal.loop-j-preserved
loop-j-preserved c =
    let process = c.read_process-process.ensures in
    let share = c.args.leaf.now.share in
    let run = c.section_run.ensures in
    record {
      inside = omega (arith, process.sections_of_is);
      size = omega arith;
      mapped = mapped_more c.loop-j.invariant.mapped share.plan.now.fits share.plan.now.flash_numbers (walk share) (record_number _ _ _ c.section-n.ensures process.first_section) process.sections_of_is c.loop-j-test.true
          c.read_section-section.ensures c.section_rights.ensures (run.rises ∙ c.is_marked-in_place.ensures) (rw run.rises run.first)
          c.pages_taken-place.ensures.0 c.map_pages.ensures;
    }

pub returns : goal.returns
returns c = mapped_all c.loop-j.invariant.mapped (omega (arith, c.read_process-process.ensures.sections_of_is))
