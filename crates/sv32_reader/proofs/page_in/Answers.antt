use Rattle.std.proofs.Common.{arith, sym}
use Rattle.sv32_reader.proofs.Pages.{starts_below, part_found}
use Rattle.sv32_reader.proofs.page_in.Goals as goal

pub returns-in_err-from-clause-found : goal.returns-in_err-from-clause-found
returns-in_err-from-clause-found c = rw c.from_residual.ensures (sym (starts_below _ _ (omega (arith, c.in_err-from.ensures))))

pub returns : goal.returns
returns c =
    let start = c.in_ok-from.ensures in
    let p = part_found _ _ c.get.result _ _ start.0 start.1 (omega arith) c.get.ensures.lookup in
    record { found = p.0; bytes = p.1 }
