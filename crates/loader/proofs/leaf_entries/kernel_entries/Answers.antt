use Rattle.std.proofs.Common.{arith}
use Rattle.notation.specs.Choice.{choose}
use Rattle.order_places.proofs.Capped.{uncapped}
use Rattle.page_allocator.proofs.PageAt.{page_inside}
use Rattle.loader.proofs.LeafEntries.{tracker_room, tracker_some, tracker_end, kernel_is}
use Rattle.loader.proofs.leaf_entries.kernel_entries.Goals as goal

pub overflow_cast-count : goal.overflow_cast-count
overflow_cast-count c = omega (arith, tracker_room c.args.leaf.now.share.plan.now.fits, c.tracker_pages-count.ensures.0)

pub overflow_add-place : goal.overflow_add-place
overflow_add-place c = omega (arith, tracker_room c.args.leaf.now.share.plan.now.fits)

pub overflow_add-place-2 : goal.overflow_add-place-2
overflow_add-place-2 c = omega (arith, tracker_room c.args.leaf.now.share.plan.now.fits)

pub overflow_add-place-3 : goal.overflow_add-place-3
overflow_add-place-3 c = omega (arith, tracker_room c.args.leaf.now.share.plan.now.fits)

pub overflow_sub-to : goal.overflow_sub-to
overflow_sub-to c = omega (arith, c.tracker_pages-count.ensures.0, tracker_some c.args.leaf.now.share.plan.now.fits)

pub overflow_add-to : goal.overflow_add-to
overflow_add-to c = record { fits = tracker_end c.args.leaf.now.share.plan.now.fits _ c.tracker_pages-count.ensures.0 }

pub returns : goal.returns
unfolding choose
returns c =
    let fits = c.args.leaf.now.share.plan.now.fits in
    kernel_is _ fits _ _ _ _ _ _ _ _ _
    (uncapped _ _ c.tracker_place-place.ensures (omega (arith, tracker_room fits, fits.few_pages))) c.tracker_pages-count.ensures.0
    (page_inside _ _ _ c.page_at-tracker.ensures fits.end) (page_inside _ _ _ c.page_at-list.ensures fits.end) (page_inside _ _ _ c.page_at-copy.ensures fits.end)
    (rw (c.requires.0, c.requires.1) at c.map_sections.ensures)
    c.map_own.ensures c.map_own-2.ensures c.map_own-3.ensures
