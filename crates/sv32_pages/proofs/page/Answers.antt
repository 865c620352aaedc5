use Rattle.std.proofs.Common.{inl, inr, refl, sym, ◌∙◌}
use Rattle.rules.specs.Reader.{entry_bytes, page_at}
use Rattle.sv32_pages.proofs.page.Goals as goal

pub returns-in-Page : goal.returns-in-Page
unfolding page_at entry_bytes
returns-in-Page c = rw (sym c.walk.ensures ∙ c.in-Page.is) c.page_part.ensures

pub returns-in-Absent : goal.returns-in-Absent
unfolding page_at entry_bytes
returns-in-Absent c = rw (← c.walk.ensures) (elim c.in-Absent.is [
  | inl e ↦ rw e refl
  | inr h ↦ elim h [ inl e ↦ rw e refl | inr p ↦ rw p.1 refl ]
])
