use Rattle.load_sections.proofs.Turns.{pages_none, pages_next, pages_all}
use Rattle.std.proofs.Common.{arith}
use Rattle.load_sections.proofs.clear_pages.Goals as goal

pub loop-next-init : goal.loop-next-init
loop-next-init c = (omega arith, omega arith, pages_none _ _ _ (omega arith))

pub clear_page-requires : goal.clear_page-requires
clear_page-requires c = omega (arith, c.loop-next.invariant.2.long, c.allocate-got.ensures.0)

pub loop-next-smaller : goal.loop-next-smaller
loop-next-smaller c = omega arith

pub loop-next-preserved : goal.loop-next-preserved
loop-next-preserved c =
    let got = c.allocate-got.ensures in
    (omega arith, omega arith, pages_all _ _ (pages_next c.loop-next.invariant.2 got.1 got.0 c.clear_page.ensures) (omega arith))

pub shape_of-ram : goal.shape_of-ram
shape_of-ram c = c.loop-next.invariant.2.long

pub returns : goal.returns
returns c = pages_all _ _ c.loop-next.invariant.2 (omega arith)
