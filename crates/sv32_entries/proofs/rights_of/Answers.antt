use Rattle.rules.specs.Entries.{rights_in}
use Rattle.sv32_entries.proofs.Flags.{flag_is_bit}
use Rattle.sv32_entries.proofs.rights_of.Goals as goal

pub returns : goal.returns
unfolding rights_in
returns c = rw (flag_is_bit c.args.e 1, flag_is_bit c.args.e 2, flag_is_bit c.args.e 3, flag_is_bit c.args.e 4)
