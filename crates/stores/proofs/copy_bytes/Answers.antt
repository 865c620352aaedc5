use Rattle.std.proofs.Common.{arith}
use Rattle.stores.proofs.Written.{written_none, copied_more, copied_taken}
use Rattle.stores.proofs.copy_bytes.Goals as goal

pub loop-i-init : goal.loop-i-init
loop-i-init c = written_none _ _ _ _ (omega arith)

pub loop-i-preserved : goal.loop-i-preserved
loop-i-preserved c = copied_more c.args.from.now _ c.loop-i.invariant

pub returns : goal.returns
returns c = copied_taken c.args.n c.args.from.now c.loop-i.invariant (omega arith) (omega arith) (omega arith)
