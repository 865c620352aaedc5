use Rattle.std.proofs.Common.{arith}
use Rattle.std.proofs.lemmas.Result.{err_from_is_err_and}
use Rattle.record_lines.proofs.Lines.{numbers_count, numbers_none, numbers_next, numbers_fault, numbers_all}
use Rattle.record_lines.proofs.read_numbers.Goals as goal

pub returns-then-count : goal.returns-then-count
returns-then-count g c = numbers_count _ _ _ c.requires.2 c.if-count.true

pub loop-k-init : goal.loop-k-init
loop-k-init g c = numbers_none _ _

pub returns-in_err-number : goal.returns-in_err-number
returns-in_err-number g c =
    let p = err_from_is_err_and c.from_residual.result c.from_residual.ensures.1 in
    rw (p.1, p.2, c.in_err-number.ensures.1)
    (numbers_fault _ _ _ _ _ c.requires.2 c.if-count.false c.loop-k.invariant _ c.loop-k-test.true (omega arith) c.in_err-number.ensures.0)

pub loop-k-preserved : goal.loop-k-preserved
loop-k-preserved g c = numbers_next _ _ _ _ _ _ c.loop-k.invariant c.loop-k-test.true (omega arith) c.in_ok-number.ensures

pub returns : goal.returns
returns g c = numbers_all _ _ _ _ _ c.requires.2 c.if-count.false c.loop-k.invariant c.loop-k-test.false
