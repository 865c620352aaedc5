use Rattle.std.proofs.Common.{arith}
use Rattle.rules.specs.Entries.{page_entry}
use Rattle.sv32_entries.proofs.Flags.{flag_or_none}
use Rattle.sv32_entries.proofs.page_entry.Goals as goal

pub returns : goal.returns
unfolding page_entry
returns c =
    let t = c.args.rights in
    omega (arith, flag_or_none t.read 2, flag_or_none t.write 4, flag_or_none t.execute 8, flag_or_none t.user 16, flag_or_none t.write 128)
