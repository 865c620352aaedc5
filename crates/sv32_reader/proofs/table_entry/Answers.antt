use Rattle.std.proofs.Common.{sym, ◌∙◌}
use Rattle.sv32_reader.proofs.Pages.{entry_found, entry_absent}
use Rattle.sv32_reader.proofs.table_entry.Goals as goal

pub returns-in-Some : goal.returns-in-Some
returns-in-Some c =
    c.decode.ensures ∙ rw c.word.ensures (entry_found _ _ _ _ c.requires (sym c.in-Some.ensures.found) c.in-Some.ensures.bytes)

pub returns-in-None : goal.returns-in-None
returns-in-None c = sym (entry_absent _ _ _ (sym c.in-None.ensures.found))
