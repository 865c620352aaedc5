use Rattle.loader.proofs.TablePages.{leaves_at, process_tables}
use Rattle.loader.proofs.table_pages.load_process_tables.Goals as goal

pub load_root-requires : goal.load_root-requires
load_root-requires c =
    let share = c.args.share.now in
    leaves_at _ _ _ _ _ _ share.plan.now.fits share.first share.last c.requires.0 c.requires.1 c.allocate-root.ensures.1 c.allocate-leaf.ensures.0 c.physical-first.ensures

pub returns : goal.returns
returns c = process_tables _ _ _ _ _ _ _ _ _ c.allocate-root.ensures.0 c.allocate-root.ensures.1 c.load_root.ensures c.load_leaves.ensures
