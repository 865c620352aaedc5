-- 01, "The small board, whole": the listing of a load, by the rules alone.
use Rattle.std.specs.Prelude.{Bool, List, ◌++◌, ℕ, ◌+◌, eqb}
use Rattle.notation.specs.Choice.{choose}
use Rattle.notation.specs.Lists.{gather}
use Rattle.types.specs.declared.PageRange.{PageRange}
use Rattle.rules.specs.Lent.{Image, Memory, memory_area, pages_in}
use Rattle.rules.specs.Block.{process_count}
use Rattle.rules.specs.InPlace.{xip_of}
use Rattle.rules.specs.Order.{root_table, pages_of}
use Rattle.rules.specs.Load.{phys_page, answer}
use Rattle.refusal_line.specs.Line.{refused_line}
use Rattle.report.specs.Lines.{boot_line, process_line}

-- a line for each of the first n processes, where RAM has these pages and section record m is used in place as `xip m` says: its pages, and
-- its root's page number
unfoldable pub process_lines : List ℕ → (ℕ → Bool) → PageRange → ℕ → List ℕ
process_lines b xip ram n = gather n (λ i. process_line (i + 1) (pages_of b xip ram.pages (i + 1)) (phys_page b xip ram (root_table (i + 1))))

-- the whole listing
unfoldable pub listing : Image → Memory → List ℕ
listing x r =
    let a = answer x r in
    let ram = pages_in (memory_area r) in
    choose (eqb a.number 0)
    (boot_line ram.pages a.free ++ process_lines x.block (xip_of x) ram (process_count x.block))
    (refused_line a.number a.place a.offset)
