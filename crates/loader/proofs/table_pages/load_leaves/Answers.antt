use Rattle.std.proofs.Common.{◌∙◌, arith}
use Rattle.writing.specs.Loaded.{any_gather_none, any_gather_next}
use Rattle.loader.proofs.LeafCursor.{leaf_inside}
use Rattle.loader.proofs.Shares.{walk}
use Rattle.loader.proofs.TablePages.{next_leaves, one_leaf}
use Rattle.loader.proofs.table_pages.load_leaves.Goals as goal

pub loop-leaf-init : goal.loop-leaf-init
loop-leaf-init c =
    rw c.into_iter-leaf-iterator.ensures.into_iter_gives (record { can = tt; ends = tt; same = c.leaves-leaf-items.ensures.0; inside = omega arith; done = rw c.leaves-leaf-items.ensures.1 (any_gather_none _ _ _) })

pub loop-leaf-preserved : goal.loop-leaf-preserved
loop-leaf-preserved c =
    let steps = c.in-Some.ensures.steps in
    let inv = c.loop-leaf.invariant in
    let leaf = c.in-Some.leaf in
    let same = steps.0.0 ∙ inv.same in
    let got = c.allocate-got.ensures in
    let small = leaf_inside (walk leaf.share) leaf.slot leaf.here in
    record {
      can = tt;
      ends = tt;
      same = steps.1 ∙ inv.same;
      inside = omega (arith, steps.2, small);
      done = rw steps.2 (any_gather_next _ _
          (next_leaves _ _ _ _ _ (rw inv.same at steps.0.1) inv.inside inv.done)
          (one_leaf _ _ _ _ _ _ _ _ (rw same at leaf.here) got.1 got.0 (rw same at c.load_leaf.ensures)));
    }

pub returns : goal.returns
returns c =
    let inv = c.loop-leaf.invariant in
    next_leaves _ _ _ _ _ (rw inv.same at c.in-None.ensures.steps.0) inv.inside inv.done
