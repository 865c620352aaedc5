use Rattle.std.proofs.Common.{refl}
use Rattle.page_allocator.proofs.fill_page.Goals as goal

pub returns : goal.returns
returns g c =
    let from = c.min-from.ensures in
    let to = c.min-to.ensures in (
      c.fill.new.arg2,
      record { shown = _; shows = rw (to, from); left = _; met = c.fill.ensures; leaves = refl },
      rw (to, from),
    )
