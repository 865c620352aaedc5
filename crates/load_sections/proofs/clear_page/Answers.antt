use Rattle.writing.specs.Pages.{put_part}
use Rattle.std.proofs.Common.{arith, ◌+◌, ◌*◌}
use Rattle.load_sections.proofs.clear_page.Goals as goal

pub returns : goal.returns
returns c =
    let args = c.args in
    let at = args.k.0 * 4096 in
    put_part args.ram.now _ args.k.0 at (at + 4096) _ (omega arith) (omega arith) c.clear.ensures
