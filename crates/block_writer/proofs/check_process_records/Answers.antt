use Rattle.std.proofs.Common.{arith, sym, ap, ◌∙◌, ℕ, List, get_or}
use Rattle.std.proofs.Math.Nat.{sub-zero}
use Rattle.rules.specs.Refusals.{refused, accepted, first_refusal}
use Rattle.refusals.specs.Answers.{verdict_of}
use Rattle.accepted.specs.InOrder.{scan_end}
use Rattle.block_writer.specs.Lists.{process_refusal}
use Rattle.block_writer.proofs.Refusing.{sections_none, sections_next, offset_fits, stops, goes_on}
use Rattle.block_writer.proofs.check_process_records.Goals as goal

pub loop-i-init : goal.loop-i-init
unfolding process_refusal first_refusal
loop-i-init c = (sections_none _, omega arith, rw (sub-zero, c.counts.ensures))

pub returns-in-Some : goal.returns-in-Some
returns-in-Some c =
    (stops _ _ _ (rw c.counts.ensures) c.loop-i-test.true _ c.process_in-process.ensures c.loop-i.invariant.0 c.check_record.ensures c.in-Some.refused
    (offset_fits _ _ _ _ _ c.check_record.ensures (omega (arith, c.loop-i-test.true, ap (λ (n : List ℕ). get_or n 0 0) c.counts.ensures, c.requires.process_words_is)))
    (sym c.in-Some.is ∙ c.at.ensures)
    c.loop-i.invariant.2)
    ∙ rw c.counts.ensures

pub loop-i-preserved : goal.loop-i-preserved
loop-i-preserved c = (
  rw (sections_next, ← c.process_in-process.ensures, ← c.loop-i.invariant.0) (omega arith),
  omega arith,
  goes_on _ _ _ (rw c.counts.ensures) c.loop-i-test.true _ c.process_in-process.ensures c.loop-i.invariant.0 c.check_record.ensures
      (sym c.in_default.is ∙ c.at.ensures) c.loop-i.invariant.2,
)

pub returns : goal.returns
unfolding accepted refused verdict_of
returns c = scan_end _ _ _ _ c.loop-i-test.false ∙ c.loop-i.invariant.2 ∙ rw c.counts.ensures
