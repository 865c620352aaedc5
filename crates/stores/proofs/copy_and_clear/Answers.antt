use Rattle.std.proofs.Common.{arith}
use Rattle.stores.proofs.Written.{copied_written_all}
use Rattle.stores.proofs.copy_and_clear.Goals as goal

pub returns : goal.returns
returns c = copied_written_all c.args.to.now c.args.at c.args.from.now (omega arith) c.fill.ensures c.copy_in.ensures c.fill-2.ensures
