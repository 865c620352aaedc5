use Rattle.std.proofs.Common.{arith, refl, sym, ap, ◌∙◌}
use Rattle.rules.specs.Answers.{Answer}
use Rattle.lent.specs.Lent.{image}
use Rattle.refusals.proofs.Answered.{answer_refused, answer_booted}
use Rattle.xip_sections.specs.Marks.{marked}
use Rattle.checks.proofs.Answers.{marked_answer_is, boot_marks}
use Rattle.order_roots.proofs.RootFound.{root_refused, root_below, root_above, root_at, few_pages}
use Rattle.order_roots.proofs.find_root.Goals as goal
use Rattle.order_roots.proofs.find_root.Goals.{then-q-eq0-via-then-q-eq0, then-q-eq0-via-else-q-eq0+then-process_count-q}

pub returns-in_default : goal.returns-in_default
returns-in_default c =
    let x = image c.args.image in
    root_refused x c.args.ram _ _ (c.in_default.ensures.answer ∙ marked_answer_is x c.args.ram) (answer_refused c.in_default.field-0)

pub returns-then-q-eq0 : goal.returns-then-q-eq0
returns-then-q-eq0 c = elim c.then-q-eq0.branch [
  | then-q-eq0-via-then-q-eq0 w ↦ root_below (image c.args.image) c.args.ram _ w.if-q-eq0.true
  | then-q-eq0-via-else-q-eq0+then-process_count-q w ↦ root_above (image c.args.image) c.args.ram _ _ w.process_count.ensures w.if-process_count-q.true
]

pub overflow_cast-range : goal.overflow_cast-range
overflow_cast-range c =
    let x = image c.args.image in
    omega (arith, few_pages x c.args.ram _ (c.in-Ok.ensures.answer ∙ marked_answer_is x c.args.ram) (answer_booted c.in-Ok.field-0))

pub returns : goal.returns
returns c =
    let x = image c.args.image in
    let ram = c.args.ram in
    let e = c.in-Ok.ensures.answer ∙ marked_answer_is x ram in
    let z = answer_booted c.in-Ok.field-0 in
    let right = ap marked c.in-Ok.ensures.marks ∙ boot_marks x ram _ refl (ap (λ (a : Answer). a.number) (sym e) ∙ z) in
    root_at x ram _ _ _ _ _ e z right c.if-q-eq0.false (omega (arith, c.if-process_count-q.false, c.process_count.ensures))
    c.root_place-place.ensures c.page_at.ensures
