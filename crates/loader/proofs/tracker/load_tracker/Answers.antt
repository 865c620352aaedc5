use Rattle.std.proofs.Common.{arith}
use Rattle.writing.specs.Loaded.{any_tab_none}
use Rattle.loader.proofs.TrackerBytes.{tracker_fits, page_turn, tracker_end}
use Rattle.loader.proofs.tracker.load_tracker.Goals as goal

pub overflow_cast-i-end : goal.overflow_cast-i-end
overflow_cast-i-end c =
    let fits = c.args.plan.now.fits in
    omega (arith, tracker_fits fits, fits.few_pages, c.tracker_pages-i-end.ensures.0)

pub loop-i-init : goal.loop-i-init
loop-i-init c = any_tab_none _ _ _

pub loop-i-preserved : goal.loop-i-preserved
loop-i-preserved c = page_turn _ _ _ _ _ c.loop-i.invariant c.allocate-got.ensures.1 c.allocate-got.ensures.0 c.load_tracker_page.ensures

pub returns : goal.returns
returns c = tracker_end _ _ _ _ _ c.loop-i.invariant (omega (arith, c.tracker_pages-i-end.ensures.0))
