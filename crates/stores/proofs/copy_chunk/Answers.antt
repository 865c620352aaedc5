use Rattle.std.proofs.Common.{arith}
use Rattle.stores.proofs.Written.{copied_by_way}
use Rattle.stores.proofs.copy_chunk.Goals as goal

pub returns : goal.returns
returns c = copied_by_way c.args.to.now _ c.args.at c.args.from.now (omega arith) c.copy_bytes.ensures c.copy_bytes-2.ensures
