use Rattle.std.proofs.Common.{sym}
use Rattle.std.proofs.lemmas.Bool.{ltb-false}
use Rattle.sv32_views.proofs.ShownCases.{shown_outside, shown_inside}
use Rattle.sv32_views.proofs.page_shown.Goals as goal

pub returns-in-None : goal.returns-in-None
returns-in-None c =
    sym (shown_outside _ _ _ _ _ _ c.page_part-part.ensures (ltb-false _ _ (sym c.in-None.ensures.lookup.0)))

pub returns-in-Some : goal.returns-in-Some
returns-in-Some c =
    let at = c.in-Some.ensures.lookup.3 in
    rw (at.1 0) (sym (shown_inside _ _ _ _ _ _ c.page_part-part.ensures at.0))
