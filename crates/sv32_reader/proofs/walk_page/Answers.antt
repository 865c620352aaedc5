use Rattle.std.proofs.Common.{◌≡◌, ◌*◌, ◌/◌, arith, ap, ◌∙◌}
use Rattle.rules.specs.Reader.{root_answer, walk}
use Rattle.sv32_reader.proofs.walk_page.Goals as goal

pub returns : goal.returns
unfolding walk
returns c =
    let page = c.args.page.0 in
    let slot : 4096 * page / 4_194_304 ≡ c.slot.result = omega (arith, c.slot.ensures) in
    let same : 4096 * page / 4096 ≡ page = omega arith in
    rw (slot, same) (c.root_answer.ensures ∙ ap (root_answer _ _) c.table_entry-entry.ensures)
