use Rattle.std.proofs.Common.{inl, inr, refl}
use Rattle.rules.specs.Sees.{shown}
use Rattle.sv32_views.proofs.shown.Goals as goal

pub returns-in-Absent : goal.returns-in-Absent
unfolding shown
returns-in-Absent c = elim c.in-Absent.is [ inl e ↦ rw e refl | inr p ↦ rw p.1 refl ]

pub returns-in-Reserved : goal.returns-in-Reserved
unfolding shown
returns-in-Reserved c = rw c.in-Reserved.is

pub returns-in-Page : goal.returns-in-Page
returns-in-Page c = rw c.in-Page.is c.page_shown.ensures
