-- Where the root table of a process is, by the order of pages.
use Rattle.std.specs.Prelude.{Bool, ◌&&◌, List, ℕ, leb, eqb, Option, Some, None}
use Rattle.notation.specs.Choice.{choose}
use Rattle.types.specs.declared.Area.{Area}
use Rattle.rules.specs.Lent.{Image, pages_in}
use Rattle.rules.specs.Block.{process_count}
use Rattle.rules.specs.InPlace.{xip_of}
use Rattle.rules.specs.Order.{root_table}
use Rattle.rules.specs.Refusals.{verdict}
use Rattle.rules.specs.Load.{phys_page}
use Rattle.types.specs.declared.PhysPage.{PhysPage}

-- process q is one of the block's
unfoldable pub is_process : List ℕ → ℕ → Bool
is_process b q = leb 1 q && leb q (process_count b)

-- for RAM that lies here: none where the block is refused or has no process q
unfoldable pub root_found : Image → Area → ℕ → Option PhysPage
root_found x ram q =
    choose (eqb (verdict x ram).number 0 && is_process x.block q) (Some (record { 0 = phys_page x.block (xip_of x) (pages_in ram) (root_table q) })) None
