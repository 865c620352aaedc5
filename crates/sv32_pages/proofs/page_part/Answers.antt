use Rattle.std.proofs.Common.{refl}
use Rattle.sv32_pages.proofs.PageCases.{part_is}
use Rattle.sv32_pages.proofs.page_part.Goals as goal

pub returns : goal.returns
returns c = rw (c.unwrap_or.ensures, c.or.ensures) (part_is _ _ _ _ refl _ _ c.page_in.ensures c.page_in-2.ensures)
