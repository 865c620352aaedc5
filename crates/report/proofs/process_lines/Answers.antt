use Rattle.std.proofs.Common.{◌≡◌, ◌+◌, ◌≤◌, arith}
use Rattle.rules.specs.Block.{process_count}
use Rattle.text.proofs.Appended.{puts_none}
use Rattle.report.proofs.Lines.{lines_none, lines_next}
use Rattle.report.proofs.Owned.{pages_owned}
use Rattle.report.proofs.process_lines.Goals as goal

pub loop-i-init : goal.loop-i-init
loop-i-init c = rw lines_none (puts_none _)

pub root_page-requires : goal.root_page-requires
root_page-requires c = (c.requires.0, omega arith, omega arith)

pub loop-i-preserved : goal.loop-i-preserved
loop-i-preserved c =
    let more : c.loop-i.i + 1 ≤ process_count c.args.image.block.now = omega arith in
    let owned = rw c.requires.1 at (pages_owned _ _ _ _ c.requires.2 (omega arith) more c.pages_of-pages.ensures) in
    lines_next _ _ _ _ c.loop-i.invariant owned c.root_page.ensures c.process_line.ensures

pub returns : goal.returns
returns c =
    let all : c.loop-i.i ≡ process_count c.args.image.block.now = omega arith in
    rw all at c.loop-i.invariant
