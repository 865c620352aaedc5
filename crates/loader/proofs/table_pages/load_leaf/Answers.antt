use Rattle.loader.proofs.TablePages.{blank, leaf_page}
use Rattle.loader.proofs.table_pages.load_leaf.Goals as goal

pub leaf_entries-requires : goal.leaf_entries-requires
leaf_entries-requires c = blank

pub returns : goal.returns
returns c = leaf_page _ _ _ _ _ _ _ _ _ c.leaf_entries.ensures c.store.ensures
