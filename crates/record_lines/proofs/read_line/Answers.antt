use Rattle.std.proofs.lemmas.Result.{err_from_is_err_and}
use Rattle.record_lines.specs.Lines.{line_of}
use Rattle.record_lines.specs.declared.Kind.TheVariants.{Process, Section, Region}
use Rattle.record_lines.proofs.Lines.{said_numbers}
use Rattle.record_lines.proofs.read_line.Goals as goal

pub returns-in_err-read_numbers-in-Some-Process : goal.returns-in_err-read_numbers-in-Some-Process
unfolding line_of
returns-in_err-read_numbers-in-Some-Process c =
    let p = err_from_is_err_and c.from_residual.result c.from_residual.ensures.1 in
    rw (p.1, p.2)
    (said_numbers _ _ c.field_count-count.ensures c.if-count-eq0.false Process _ (rw (c.in-Some-Process.field-0-is, c.field.ensures) at c.in-Some-Process.ensures) c.in_err-read_numbers-in-Some-Process.ensures)

pub returns-in_ok-read_numbers-in-Some-Process : goal.returns-in_ok-read_numbers-in-Some-Process
unfolding line_of
returns-in_ok-read_numbers-in-Some-Process c =
    said_numbers _ _ c.field_count-count.ensures c.if-count-eq0.false Process _ (rw (c.in-Some-Process.field-0-is, c.field.ensures) at c.in-Some-Process.ensures) c.in_ok-read_numbers-in-Some-Process.ensures

pub returns-in_err-read_numbers-in-Some-Section : goal.returns-in_err-read_numbers-in-Some-Section
unfolding line_of
returns-in_err-read_numbers-in-Some-Section c =
    let p = err_from_is_err_and c.from_residual-in_err-read_numbers-in-Some-Section.result c.from_residual-in_err-read_numbers-in-Some-Section.ensures.1 in
    rw (p.1, p.2)
    (said_numbers _ _ c.field_count-count.ensures c.if-count-eq0.false Section _ (rw (c.in-Some-Section.field-0-is, c.field.ensures) at c.in-Some-Section.ensures) c.in_err-read_numbers-in-Some-Section.ensures)

pub returns-in_ok-read_numbers-in-Some-Section : goal.returns-in_ok-read_numbers-in-Some-Section
unfolding line_of
returns-in_ok-read_numbers-in-Some-Section c =
    said_numbers _ _ c.field_count-count.ensures c.if-count-eq0.false Section _ (rw (c.in-Some-Section.field-0-is, c.field.ensures) at c.in-Some-Section.ensures) c.in_ok-read_numbers-in-Some-Section.ensures

pub returns-in_err-read_numbers-in-Some-Region : goal.returns-in_err-read_numbers-in-Some-Region
unfolding line_of
returns-in_err-read_numbers-in-Some-Region c =
    let p = err_from_is_err_and c.from_residual-in_err-read_numbers-in-Some-Region.result c.from_residual-in_err-read_numbers-in-Some-Region.ensures.1 in
    rw (p.1, p.2)
    (said_numbers _ _ c.field_count-count.ensures c.if-count-eq0.false Region _ (rw (c.in-Some-Region.field-0-is, c.field.ensures) at c.in-Some-Region.ensures) c.in_err-read_numbers-in-Some-Region.ensures)

pub returns-in_ok-read_numbers-in-Some-Region : goal.returns-in_ok-read_numbers-in-Some-Region
unfolding line_of
returns-in_ok-read_numbers-in-Some-Region c =
    said_numbers _ _ c.field_count-count.ensures c.if-count-eq0.false Region _ (rw (c.in-Some-Region.field-0-is, c.field.ensures) at c.in-Some-Region.ensures) c.in_ok-read_numbers-in-Some-Region.ensures
