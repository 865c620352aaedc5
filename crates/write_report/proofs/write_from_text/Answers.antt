use Rattle.std.proofs.Common.{rules, arith, refl, sym, ◌∙◌}
use Rattle.text.proofs.Appended.{puts_all}
use Rattle.refusals.specs.Answers.{written_of}
use Rattle.write_report.proofs.Replies.{length_is, fault_inside, fault_is, no_fault, leaves_fault, leaves_held}
use Rattle.write_report.proofs.write_from_text.Goals as goal

pub overflow_add-read : goal.overflow_add-read
overflow_add-read c =
    let e = fault_is _ _ c.read_records-read.ensures.0 _ _ c.line_at-line.ensures (sym c.in-Some.is ∙ c.read_records-read.ensures.1) in
    omega (arith, fault_inside _ _ _ c.line_at-line.ensures (rw (← e)))

pub returns-in-Some : goal.returns-in-Some
returns-in-Some c =
    let p = puts_all c.new-out.ensures.same_bytes c.new-out.ensures.empty c.put_fault.ensures in
    let e = fault_is _ _ c.read_records-read.ensures.0 _ _ c.line_at-line.ensures (sym c.in-Some.is ∙ c.read_records-read.ensures.1) in
    leaves_fault _ _ c.read_records-read.ensures.0 _ c.line_at-line.ensures (rw (← e)) _ (search rules)

pub returns : goal.returns
returns c =
    let p = puts_all c.new-out.ensures.same_bytes c.new-out.ensures.empty c.put_written.ensures in
    let r = c.read_records-read.ensures in
    rw (c.ok.ensures.value, ← length_is c.write_block-written.result)
    (leaves_held _ _ r.0 _ refl (no_fault _ _ r.0 (sym c.in_default.is ∙ r.1)) (omega arith) (omega arith) (omega arith) r.2 r.3 r.4 _ _ (written_of c.write_block-written.result) c.write_block-written.ensures.answer c.write_block-written.ensures.buffer (search rules))
