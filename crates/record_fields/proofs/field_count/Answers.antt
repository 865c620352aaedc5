use Rattle.std.proofs.Common.{sym, ◌∙◌}
use Rattle.record_fields.specs.Fields.{hash, fields}
use Rattle.record_fields.proofs.Fields.{counted_none, counted_gap, counted_inside, counted_start, counted_all}
use Rattle.record_fields.proofs.field_count.Goals as goal
use Rattle.record_fields.proofs.field_count.Goals.{then-is_separator, else-is_separator+then-not-inside, else-is_separator+else-not-inside}

pub loop-c-init : goal.loop-c-init
loop-c-init c = counted_none _

pub loop-c-preserved : goal.loop-c-preserved
loop-c-preserved c = elim c.if-is_separator.branch [
  | then-is_separator w ↦ rw (w.count-is, w.inside-is) (counted_gap _ _ _ _ c.loop-c.invariant c.loop-c-test.true (sym c.is_separator.ensures ∙ w.if-is_separator.true))
  | else-is_separator+then-not-inside w ↦ rw (w.count-is, w.inside-is) (counted_start _ _ _ _ c.loop-c.invariant c.loop-c-test.true (sym c.is_separator.ensures ∙ w.if-is_separator.false) w.if-not-inside.true)
  | else-is_separator+else-not-inside w ↦ rw (w.count-is, w.inside-is, w.if-not-inside.false) (counted_inside _ _ _ _ c.loop-c.invariant c.loop-c-test.true (sym c.is_separator.ensures ∙ w.if-is_separator.false) w.if-not-inside.false)
]

pub returns : goal.returns
unfolding fields hash
returns c = counted_all _ _ _ _ c.loop-c.invariant c.loop-c-test.false ∙ rw c.before-text.ensures
