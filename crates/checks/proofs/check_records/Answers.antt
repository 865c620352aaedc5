use Rattle.std.proofs.Common.{◌≡◌, sym, ◌∙◌, rules, arith}
use Rattle.std.proofs.lemmas.Result.{err_from_is_err_and}
use Rattle.rules.specs.Refusals.{process_check, section_check, entry_point_check, region_check}
use Rattle.refusals.specs.Answers.{check_of}
use Rattle.checks.proofs.Verdicts.{stops, of_processes, of_sections, of_entry_points, records_then, past_processes, past_sections, past_entry_points, near, process_near, section_near, entry_point_near, region_near}
use Rattle.checks.proofs.check_records.Goals as goal

pub refuse_records-requires-clause-near : goal.refuse_records-requires-clause-near
refuse_records-requires-clause-near c =
    λ i r h k.
    let said : check_of r ≡ process_check c.args.placed.block.now i = search rules in
    near r _ said (process_near c.args.placed.block.now c.requires i (omega (arith, c.process_count-processes.ensures)))

pub refuse_records-requires-2-clause-near : goal.refuse_records-requires-2-clause-near
refuse_records-requires-2-clause-near c =
    λ i r h k.
    let said : check_of r ≡ section_check c.args.placed.block.now c.args.placed.flash.length i = search rules in
    near r _ said (section_near c.args.placed.block.now c.requires i _ (omega (arith, c.section_count-sections.ensures)))

pub refuse_records-requires-3-clause-near : goal.refuse_records-requires-3-clause-near
refuse_records-requires-3-clause-near c =
    λ i r h k.
    let said : check_of r ≡ entry_point_check c.args.placed.block.now i = search rules in
    near r _ said (entry_point_near c.args.placed.block.now c.requires i (omega (arith, c.process_count-processes.ensures)))

pub refuse_records-requires-4-clause-near : goal.refuse_records-requires-4-clause-near
refuse_records-requires-4-clause-near c =
    λ i r h k.
    let said : check_of r ≡ region_check c.args.placed.block.now c.args.placed.flash c.args.placed.ram i = search rules in
    near r _ said (region_near c.args.placed.block.now c.requires i _ _ (omega (arith, c.region_count-regions.ensures)))

pub returns-in_err-refuse_records : goal.returns-in_err-refuse_records
returns-in_err-refuse_records c =
    let p = err_from_is_err_and c.from_residual.result c.from_residual.ensures.1 in
    let six = rw c.process_count-processes.ensures at (c.in_err-refuse_records.ensures (process_check c.args.placed.block.now) (λ i r h k. search rules)) in
    rw (p.1, p.2) (stops (of_processes c.args.placed.block.now c.args.placed.flash c.args.placed.ram) _ _ six ∙ sym (records_then c.args.placed.block.now c.args.placed.flash c.args.placed.ram))

pub returns-in_err-refuse_records-2 : goal.returns-in_err-refuse_records-2
returns-in_err-refuse_records-2 c =
    let p = err_from_is_err_and c.from_residual-in_err-refuse_records-2.result c.from_residual-in_err-refuse_records-2.ensures.1 in
    let six = rw c.process_count-processes.ensures at (c.in_ok-refuse_records.ensures (process_check c.args.placed.block.now) (λ i r h k. search rules)) in
    let nine = rw c.section_count-sections.ensures at (c.in_err-refuse_records-2.ensures (section_check c.args.placed.block.now c.args.placed.flash.length) (λ i r h k. search rules)) in
    rw (p.1, p.2) (stops (of_sections c.args.placed.block.now c.args.placed.flash c.args.placed.ram) _ _ nine ∙ sym (past_processes c.args.placed.block.now c.args.placed.flash c.args.placed.ram _ six))

pub returns-in_err-refuse_records-3 : goal.returns-in_err-refuse_records-3
returns-in_err-refuse_records-3 c =
    let p = err_from_is_err_and c.from_residual-in_err-refuse_records-3.result c.from_residual-in_err-refuse_records-3.ensures.1 in
    let six = rw c.process_count-processes.ensures at (c.in_ok-refuse_records.ensures (process_check c.args.placed.block.now) (λ i r h k. search rules)) in
    let nine = rw c.section_count-sections.ensures at (c.in_ok-refuse_records-2.ensures (section_check c.args.placed.block.now c.args.placed.flash.length) (λ i r h k. search rules)) in
    let ten = rw c.process_count-processes.ensures at (c.in_err-refuse_records-3.ensures (entry_point_check c.args.placed.block.now) (λ i r h k. search rules)) in
    rw (p.1, p.2) (stops (of_entry_points c.args.placed.block.now c.args.placed.flash c.args.placed.ram) _ _ ten ∙ sym (past_sections c.args.placed.block.now c.args.placed.flash c.args.placed.ram _ six nine))

pub returns : goal.returns
returns c =
    let six = rw c.process_count-processes.ensures at (c.in_ok-refuse_records.ensures (process_check c.args.placed.block.now) (λ i r h k. search rules)) in
    let nine = rw c.section_count-sections.ensures at (c.in_ok-refuse_records-2.ensures (section_check c.args.placed.block.now c.args.placed.flash.length) (λ i r h k. search rules)) in
    let ten = rw c.process_count-processes.ensures at (c.in_ok-refuse_records-3.ensures (entry_point_check c.args.placed.block.now) (λ i r h k. search rules)) in
    let eleven = rw c.region_count-regions.ensures at (c.refuse_records-4.ensures (region_check c.args.placed.block.now c.args.placed.flash c.args.placed.ram) (λ i r h k. search rules)) in
    eleven ∙ sym (past_entry_points c.args.placed.block.now c.args.placed.flash c.args.placed.ram _ six nine ten)
