use Rattle.loader.proofs.TrackerBytes.{later_page}
use Rattle.loader.proofs.tracker.track_page.Goals as goal

pub returns-else-i-eq0 : goal.returns-else-i-eq0
returns-else-i-eq0 c = later_page _ _ _ _ _ c.args.plan.now.fits.few_pages c.if-i-eq0.false c.clear.ensures
