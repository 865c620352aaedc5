use Rattle.std.proofs.Common.{ap, ◌∙◌}
use Rattle.rules.specs.Sees.{shown, seen_from}
use Rattle.sv32_views.proofs.seen_from.Goals as goal

pub returns : goal.returns
unfolding seen_from
returns c = c.shown.ensures ∙ ap (shown _ _ _) c.walk-found.ensures
