use Rattle.rules.specs.Entries.{pointer_entry}
use Rattle.std.proofs.Common.{rules}
use Rattle.sv32_entries.proofs.pointer_entry.Goals as goal

pub returns : goal.returns
unfolding pointer_entry
returns c = search rules
