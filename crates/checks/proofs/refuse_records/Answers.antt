use Rattle.std.proofs.Common.{sym, ◌∙◌}
use Rattle.rules.specs.Refusals.{accepted}
use Rattle.accepted.specs.InOrder.{scan_end, scan_next, scan_stop}
use Rattle.refusals.specs.Answers.{verdict_of}
use Rattle.refusals.proofs.Placed.{none_at, some_at}
use Rattle.checks.proofs.refuse_records.Goals as goal

pub returns-in-Some : goal.returns-in-Some
unfolding verdict_of
returns-in-Some g c =
    λ f h.
    let told = some_at _ _ _ (c.requires.near _ _ c.loop-i-test.true c.check.ensures) (sym c.in-Some.is ∙ c.at.ensures) in
    sym told.1 ∙ scan_stop f accepted _ _ _ c.loop-i-test.true (h _ _ c.loop-i-test.true c.check.ensures) told.0 ∙ c.loop-i.invariant f h

pub loop-i-preserved : goal.loop-i-preserved
loop-i-preserved g c =
    λ f h.
    scan_next f accepted _ _ _ c.loop-i-test.true (h _ _ c.loop-i-test.true c.check.ensures) (none_at _ _ (sym c.in_default.is ∙ c.at.ensures))
    ∙ c.loop-i.invariant f h

pub returns : goal.returns
unfolding verdict_of
returns g c = λ f h. scan_end f accepted c.loop-i.i c.args.n c.loop-i-test.false ∙ c.loop-i.invariant f h
