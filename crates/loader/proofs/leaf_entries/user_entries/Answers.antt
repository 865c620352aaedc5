use Rattle.loader.proofs.LeafEntries.{user_is}
use Rattle.loader.proofs.leaf_entries.user_entries.Goals as goal

pub returns : goal.returns
returns c = user_is _ _ _ _ _ c.map_sections.ensures c.stack_pages-pages.ensures c.reserve_stack.ensures
