use Rattle.std.proofs.Common.{arith}
use Rattle.laws.specs.Counts.{sum_none, sum_next}
use Rattle.order_places.proofs.capped_total.Goals as goal

pub loop-i-init : goal.loop-i-init
loop-i-init g c = λ f h. omega (arith, sum_none f)

pub loop-i-preserved : goal.loop-i-preserved
loop-i-preserved g c = λ f h. omega (arith, c.loop-i.invariant f h, h _ _ c.loop-i-test.true c.part.ensures, sum_next c.loop-i.i f)
