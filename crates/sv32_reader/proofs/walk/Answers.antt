use Rattle.std.proofs.Common.{◌≡◌, ◌*◌, ◌/◌, arith}
use Rattle.rules.specs.Reader.{walk}
use Rattle.sv32_reader.proofs.walk.Goals as goal

pub returns : goal.returns
unfolding walk
returns c =
    let at = c.args.address in
    let slot : 4096 * (at / 4096) / 4_194_304 ≡ at / 4_194_304 = omega arith in
    let same : 4096 * (at / 4096) / 4096 ≡ at / 4096 = omega arith in
    rw (slot, same) at c.walk_page.ensures
