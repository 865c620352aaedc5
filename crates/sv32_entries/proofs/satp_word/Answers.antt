use Rattle.std.proofs.Common.{rules}
use Rattle.rules.specs.Entries.{satp_of}
use Rattle.sv32_entries.proofs.satp_word.Goals as goal

pub returns : goal.returns
unfolding satp_of
returns c = search rules
