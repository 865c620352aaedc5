use Rattle.std.proofs.Common.{arith, rules}
use Rattle.stores.proofs.Written.{written_none, copied_next, copied_is}
use Rattle.stores.proofs.copy_in.Goals as goal

pub loop-start-init : goal.loop-start-init
loop-start-init c = (search rules, written_none _ _ _ _ (omega arith))

pub loop-start-preserved : goal.loop-start-preserved
loop-start-preserved c =
    let l = c.loop-start in
    (omega arith, copied_next l.start _ c.args.from.now l.invariant.1 c.copy_chunk.ensures (omega arith) (omega arith))

pub returns : goal.returns
returns c = copied_is _ c.loop-start.invariant.1 (omega arith)
