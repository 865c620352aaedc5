use Rattle.writing.specs.Pages.{put_part}
use Rattle.loader.proofs.tracker.load_tracker_page.Goals as goal

pub returns : goal.returns
returns c = put_part _ _ _ _ _ _ c.min-from.ensures c.min-to.ensures c.track_page.ensures
