use Rattle.std.proofs.Common.{refl, sym, ap, ◌∙◌}
use Rattle.std.proofs.lemmas.Result.{err_from_is_err_and}
use Rattle.rules.specs.Answers.{Answer}
use Rattle.rules.specs.Lent.{memory_of, memory_area}
use Rattle.lent.specs.Lent.{image}
use Rattle.refusals.proofs.Answered.{answer_refused, answer_booted, taken_of}
use Rattle.xip_sections.specs.Marks.{marked}
use Rattle.checks.proofs.Answers.{marked_answer_is, boot_marks}
use Rattle.loader.proofs.Accepted.{full_answer, ram_kept, ram_loaded, ram_accepted, flash_numbers, taken_needed}
use Rattle.loader.proofs.load.Goals as goal

pub returns-in_err-boot-clause-answer : goal.returns-in_err-boot-clause-answer
returns-in_err-boot-clause-answer c =
    let x = image c.args.image in
    let r = memory_of c.args.start c.args.ram.now in
    let p = err_from_is_err_and c.from_residual.result c.from_residual.ensures.1 in
    rw (p.1, p.2) (full_answer x r _ (c.in_err-boot.ensures.answer ∙ marked_answer_is x (memory_area r)))

pub returns-in_err-boot-clause-ram : goal.returns-in_err-boot-clause-ram
returns-in_err-boot-clause-ram c =
    let x = image c.args.image in
    let r = memory_of c.args.start c.args.ram.now in
    ram_kept x r _ (c.in_err-boot.ensures.answer ∙ marked_answer_is x (memory_area r)) (answer_refused _)

pub load_pages-requires : goal.load_pages-requires
load_pages-requires c =
    let x = image c.args.image in
    let r = memory_of c.args.start c.args.ram.now in
    let e = c.in_ok-boot.ensures.answer ∙ marked_answer_is x (memory_area r) in
    let z = answer_booted c.in_ok-boot.boot in
    let right = ap marked c.in_ok-boot.ensures.marks ∙ boot_marks x (memory_area r) _ refl (ap (λ (a : Answer). a.number) (sym e) ∙ z) in
    rw right (ram_accepted x r _ e z, flash_numbers x r _ e z, refl, sym (taken_of _) ∙ taken_needed x r _ e z)

pub returns-clause-answer : goal.returns-clause-answer
returns-clause-answer c =
    let x = image c.args.image in
    let r = memory_of c.args.start c.args.ram.now in
    full_answer x r _ (c.in_ok-boot.ensures.answer ∙ marked_answer_is x (memory_area r))

pub returns-clause-ram : goal.returns-clause-ram
returns-clause-ram c =
    let x = image c.args.image in
    let r = memory_of c.args.start c.args.ram.now in
    ram_loaded x r _ (c.in_ok-boot.ensures.answer ∙ marked_answer_is x (memory_area r)) (answer_booted _) c.load_pages.ensures
