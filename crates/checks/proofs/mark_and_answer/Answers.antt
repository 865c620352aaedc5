use Rattle.std.proofs.Common.{refl, arith}
use Rattle.std.proofs.lemmas.Result.{err_from_is_err_and}
use Rattle.rules.specs.Refusals.{refused, accepted}
use Rattle.lent.specs.Lent.{image}
use Rattle.refusals.specs.Answers.{verdict_of, answer_of}
use Rattle.refusals.proofs.Given.{number_given}
use Rattle.checks.proofs.Verdicts.{before_12_pass, few_pages, counted}
use Rattle.checks.proofs.Answers.{marked_refused, marked_room}
use Rattle.checks.proofs.mark_and_answer.Goals as goal

pub returns-in_err-check_before_12-clause-answer : goal.returns-in_err-check_before_12-clause-answer
unfolding verdict_of answer_of refused
returns-in_err-check_before_12-clause-answer c =
    let p = err_from_is_err_and c.from_residual.result c.from_residual.ensures.1 in
    rw (p.1, p.2) (marked_refused (image c.args.image) c.args.ram _ (rw c.from.ensures at c.in_err-check_before_12.ensures) (number_given _) c.args.xip.now).0

pub returns-in_err-check_before_12-clause-marks : goal.returns-in_err-check_before_12-clause-marks
unfolding verdict_of refused
returns-in_err-check_before_12-clause-marks c = (marked_refused (image c.args.image) c.args.ram _ (rw c.from.ensures at c.in_err-check_before_12.ensures) (number_given _) c.args.xip.now).1

pub overflow_cast-ram : goal.overflow_cast-ram
unfolding verdict_of accepted refused
overflow_cast-ram c = omega (arith, few_pages _ _ (before_12_pass _ _ _ _ c.in_ok-check_before_12.ensures refl).0)

pub room_answer-requires : goal.room_answer-requires
unfolding verdict_of accepted refused
room_answer-requires c =
    let pass = before_12_pass _ _ _ _ c.in_ok-check_before_12.ensures refl in
    (few_pages _ _ pass.0, (counted _ pass.1).few_processes)

pub returns-clause-answer : goal.returns-clause-answer
unfolding verdict_of accepted refused
returns-clause-answer c =
    (marked_room (image c.args.image) c.args.ram _ (rw c.from.ensures at c.in_ok-check_before_12.ensures) refl c.args.xip.now _ _ c.mark_sections.ensures c.room_answer.ensures).0

pub returns-clause-marks : goal.returns-clause-marks
unfolding verdict_of accepted refused
returns-clause-marks c =
    (marked_room (image c.args.image) c.args.ram _ (rw c.from.ensures at c.in_ok-check_before_12.ensures) refl c.args.xip.now _ _ c.mark_sections.ensures c.room_answer.ensures).1
