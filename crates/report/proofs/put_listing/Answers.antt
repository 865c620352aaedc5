use Rattle.rules.specs.Load.{refusal_answer}
use Rattle.rules.specs.Refusals.{refused}
use Rattle.refusals.specs.Answers.{answer_of}
use Rattle.refusals.proofs.Answered.{answer_refused, answer_booted}
use Rattle.report.proofs.Lines.{answer_is, listed_refused, listed_on}
use Rattle.report.proofs.Owned.{booted_kernel_on}
use Rattle.report.proofs.put_listing.Goals as goal

pub returns-in-Err : goal.returns-in-Err
unfolding answer_of refusal_answer refused
returns-in-Err c = λ r e.
    listed_refused _ r _ (answer_is _ r (rw c.in-Err.is at c.requires) e) (answer_refused c.in-Err.e) c.put_line.ensures

pub process_lines-requires : goal.process_lines-requires
unfolding answer_of
process_lines-requires c =
    booted_kernel_on _ _ _ _ (rw c.in-Ok.is at c.requires) (answer_booted c.in-Ok.boot) c.mark_sections.ensures c.kernel_pages-kernel.ensures

pub returns : goal.returns
unfolding answer_of
returns c = λ r e.
    listed_on _ r (rw c.in-Ok.is at c.requires) e (answer_booted c.in-Ok.boot) c.boot_line.ensures c.process_lines.ensures
