use Rattle.std.proofs.Common.{◌∙◌, arith}
use Rattle.loader.proofs.LeafCursor.{leaf_inside}
use Rattle.loader.proofs.Shares.{walk}
use Rattle.loader.proofs.TablePages.{pointing_start, pointing_next, pointing_is}
use Rattle.loader.proofs.table_pages.point_to_leaves.Goals as goal

pub loop-leaf-init : goal.loop-leaf-init
loop-leaf-init c =
    rw c.into_iter-leaf-iterator.ensures.into_iter_gives (record { can = tt; ends = tt; same = c.leaves-leaf-items.ensures.0; inside = omega arith; done = pointing_start _ _ _ c.leaves-leaf-items.ensures.1 })

pub loop-leaf-preserved : goal.loop-leaf-preserved
loop-leaf-preserved c =
    let steps = c.in-Some.ensures.steps in
    let inv = c.loop-leaf.invariant in
    let leaf = c.in-Some.leaf in
    let same = steps.0.0 ∙ inv.same in
    let small = leaf_inside (walk leaf.share) leaf.slot leaf.here in
    record {
      can = tt;
      ends = tt;
      same = steps.1 ∙ inv.same;
      inside = omega (arith, steps.2, small);
      done = pointing_next _ _ _ inv.done c.requires inv.inside (rw inv.same at steps.0.1) (rw same at leaf.here) small steps.2 c.point_to_leaf.ensures c.saturating_sub-page.ensures;
    }

pub returns : goal.returns
returns c =
    let inv = c.loop-leaf.invariant in
    pointing_is _ _ _ inv.done c.requires inv.inside (rw inv.same at c.in-None.ensures.steps.0)
