use Rattle.std.proofs.Common.{◌≡◌, refl, arith}
use Rattle.load_sections.proofs.Turns.{pages_none, pages_next}
use Rattle.load_sections.proofs.load_pages.Goals as goal

pub loop-i-init : goal.loop-i-init
loop-i-init c = pages_none _ _ _ refl

pub loop-i-preserved : goal.loop-i-preserved
loop-i-preserved c =
    pages_next c.loop-i.invariant c.allocate-got.ensures.1 c.allocate-got.ensures.0 c.load_page.ensures

pub returns : goal.returns
returns c = let e : c.loop-i.i ≡ c.args.count = omega arith in rw e at c.loop-i.invariant
