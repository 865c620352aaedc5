use Rattle.std.proofs.lemmas.Bool.{not-true, not-false}
use Rattle.notation.specs.Choice.{choose}
use Rattle.rules.specs.Reader.{page_answer}
use Rattle.sv32_reader.proofs.page_answer.Goals as goal
use Rattle.sv32_reader.proofs.page_answer.Goals.{else-t-via-then-t+else-not-t, else-t-via-else-t}

pub returns-then-not-t : goal.returns-then-not-t
unfolding page_answer choose
returns-then-not-t c = simp (c.if-t.true, not-true _ c.if-not-t.true)

pub returns-else-t : goal.returns-else-t
unfolding page_answer choose
returns-else-t c = elim c.else-t.branch [
  | else-t-via-then-t+else-not-t w ↦ simp (w.if-t.true, not-false _ w.if-not-t.false)
  | else-t-via-else-t w ↦ simp w.if-t.false
]
