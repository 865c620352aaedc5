use Rattle.std.proofs.Common.{◌-◌, ◌*◌, arith}
use Rattle.rules.specs.Entries.{reserved_entry}
use Rattle.sv32_tables.specs.Filled.{stack_reserved}
use Rattle.sv32_tables.proofs.Filling.{filled_between}
use Rattle.sv32_tables.proofs.reserve_stack.Goals as goal

pub returns : goal.returns
unfolding stack_reserved reserved_entry
returns c =
    filled_between _ _ _ _ _ (c.fill.ensures.after (λ y h. h)) (1024 * c.args.slot) (0x80000 - c.args.pages) 0x80000 (omega arith) (omega arith)
