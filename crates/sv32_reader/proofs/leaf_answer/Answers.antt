use Rattle.std.proofs.Common.{inl, inr, refl}
use Rattle.rules.specs.Reader.{leaf_answer}
use Rattle.sv32_reader.proofs.leaf_answer.Goals as goal

pub returns-in-Absent : goal.returns-in-Absent
unfolding leaf_answer
returns-in-Absent c = elim c.in-Absent.is [ inl e ↦ rw e refl | inr e ↦ rw e refl ]

pub returns-in-Pointer : goal.returns-in-Pointer
unfolding leaf_answer
returns-in-Pointer c = rw c.in-Pointer.is

pub returns-in-Page : goal.returns-in-Page
unfolding leaf_answer
returns-in-Page c = rw c.in-Page.is c.page_answer.ensures
