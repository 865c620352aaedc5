use Rattle.std.proofs.Common.{◌≡◌, true, false, ◌-◌, refl, rules, tests}
use Rattle.std.proofs.lemmas.Iterator.{cases_from_any, YieldsList-from_range}
use Rattle.xip_sections.proofs.Zeros.{not_zero, zero_by_any}
use Rattle.xip_sections.proofs.zero_between.Goals as goal

pub returns : goal.returns
returns c =
    let s = c.args.s.now in
    let range = YieldsList-from_range c.args.from c.args.to (c.args.to - c.args.from) refl refl in
    zero_by_any s c.args.from c.args.to _
    (cases_from_any _ _ _ (λ i. not_zero s i ≡ true) (λ i. not_zero s i ≡ false) c.any.ensures.ran range
    (λ x q k. search (rules, tests)) (λ x q k. search (rules, tests)))
