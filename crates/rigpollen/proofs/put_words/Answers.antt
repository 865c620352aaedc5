use Rattle.std.proofs.Common.{arith, add-one}
use Rattle.rigpollen.proofs.Told.{sets_next, sets_fit}
use Rattle.rigpollen.proofs.put_words.Goals as goal

pub loop-i-preserved : goal.loop-i-preserved
loop-i-preserved c = rw (c.loop-i.invariant, add-one) (sets_next _ 0 _ c.loop-i.i _ (omega arith) (omega arith))

pub returns : goal.returns
returns c = rw c.loop-i.invariant (sets_fit c.args.to.now 0 c.args.words.now c.loop-i.i (omega arith))
