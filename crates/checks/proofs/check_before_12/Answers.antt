use Rattle.std.proofs.Common.{sym, ap, ◌∙◌}
use Rattle.std.proofs.lemmas.Result.{err_from_is_err_and}
use Rattle.rules.specs.Answers.{Verdict}
use Rattle.rules.specs.Refusals.{refused, accepted, first_refusal, lent_checks, header_checks}
use Rattle.refusals.specs.Answers.{verdict_of}
use Rattle.checks.specs.Scan.{record_checks}
use Rattle.checks.proofs.Verdicts.{stops, goes_on, before_12_then, counted}
use Rattle.checks.proofs.check_before_12.Goals as goal

pub returns-in_err-check_lent : goal.returns-in_err-check_lent
returns-in_err-check_lent c =
    let p = err_from_is_err_and c.from_residual.result c.from_residual.ensures.1 in
    rw (p.1, p.2) (stops (first_refusal (lent_checks c.args.placed.flash c.args.placed.ram)) _ _ c.in_err-check_lent.ensures ∙ sym (before_12_then c.args.placed.block.now c.args.placed.flash c.args.placed.ram))

pub returns-in_err-check_layout : goal.returns-in_err-check_layout
returns-in_err-check_layout c =
    let p = err_from_is_err_and c.from_residual-in_err-check_layout.result c.from_residual-in_err-check_layout.ensures.1 in
    let law = before_12_then c.args.placed.block.now c.args.placed.flash c.args.placed.ram ∙ goes_on (first_refusal (lent_checks c.args.placed.flash c.args.placed.ram)) _ _ c.in_ok-check_lent.ensures in
    rw (p.1, p.2) (stops (first_refusal (header_checks c.args.placed.block.now)) _ _ c.in_err-check_layout.ensures ∙ sym law)

pub check_records-requires : goal.check_records-requires
unfolding verdict_of accepted refused
check_records-requires c = counted _ (ap (λ (v : Verdict). v.number) (sym c.in_ok-check_layout.ensures))

pub returns : goal.returns
returns c =
    let lent = goes_on (first_refusal (lent_checks c.args.placed.flash c.args.placed.ram)) _ _ c.in_ok-check_lent.ensures in
    let header = goes_on (first_refusal (header_checks c.args.placed.block.now)) (first_refusal (record_checks c.args.placed.block.now c.args.placed.flash c.args.placed.ram)) _ c.in_ok-check_layout.ensures in
    c.check_records.ensures ∙ sym (before_12_then c.args.placed.block.now c.args.placed.flash c.args.placed.ram ∙ lent ∙ header)
