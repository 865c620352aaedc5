use Rattle.loader.proofs.TablePages.{blank, root_page}
use Rattle.loader.proofs.table_pages.load_root.Goals as goal

pub point_to_leaves-requires : goal.point_to_leaves-requires
point_to_leaves-requires c = blank

pub returns : goal.returns
returns c = root_page _ _ _ _ _ _ _ _ _ _ c.requires c.point_to_leaves.ensures c.point_to_leaf.ensures c.store.ensures
