use Rattle.load_page.proofs.Copied.{block_page_is}
use Rattle.load_page.proofs.block_page.Goals as goal

pub returns : goal.returns
returns c = block_page_is _ _ c.copy_and_clear.ensures
