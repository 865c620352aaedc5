use Rattle.std.proofs.Common.{arith}
use Rattle.stores.proofs.Written.{part_filled, filled_is}
use Rattle.stores.proofs.fill.Goals as goal

pub returns : goal.returns
returns c = filled_is _ _ _ (part_filled _ _ _ _ _ (c.fill.ensures.after (λ y h. h)) (omega arith) (omega arith)) (omega arith) (omega arith)
