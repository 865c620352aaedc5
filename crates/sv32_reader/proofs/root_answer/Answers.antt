use Rattle.std.proofs.Common.{inl, inr, eq-eqb, ap, refl, ◌∙◌, ne_eqb}
use Rattle.notation.specs.Choice.{choose}
use Rattle.rules.specs.Reader.{leaf_answer, root_answer}
use Rattle.sv32_reader.proofs.root_answer.Goals as goal

pub returns-in-Absent : goal.returns-in-Absent
unfolding root_answer
returns-in-Absent c = elim c.in-Absent.is [ inl e ↦ rw e refl | inr e ↦ rw e refl ]

pub returns-in-Pointer : goal.returns-in-Pointer
unfolding root_answer
returns-in-Pointer c = rw c.in-Pointer.is (c.leaf_answer.ensures ∙ ap leaf_answer c.table_entry.ensures)

pub returns-in-Page : goal.returns-in-Page
unfolding root_answer choose
returns-in-Page c = rw (c.in-Page.is, eq-eqb _ _ c.if-p-eq0.true) c.page_answer.ensures

pub returns-in-Page-2 : goal.returns-in-Page-2
unfolding root_answer choose
returns-in-Page-2 c = rw (c.in-Page.is, ne_eqb _ _ c.if-p-eq0.false) refl
