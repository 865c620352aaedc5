-- The lines of the listing, one after the other.
use Rattle.std.proofs.Common.{◌≡◌, refl, sym, ap, subst, ◌∙◌, ◌≢◌, Bool, List, [], eq-eqb, ne_eqb, ℕ, ◌+◌}
use Rattle.notation.specs.Lists.{gather}
use Rattle.laws.specs.Lists.{gather_next}
use Rattle.laws.specs.Choice.{choose_yes, choose_no}
use Rattle.rules.specs.Answers.{Answer}
use Rattle.types.specs.declared.Area.{Area}
use Rattle.types.specs.declared.PageRange.{PageRange}
use Rattle.rules.specs.Lent.{Image, Memory, memory_area, pages_in}
use Rattle.rules.specs.Block.{process_count}
use Rattle.rules.specs.InPlace.{xip_of}
use Rattle.rules.specs.Order.{root_table, pages_of}
use Rattle.rules.specs.Load.{phys_page, answer_on, answer}
use Rattle.text.specs.declared.Out.{Out}
use Rattle.text.specs.Puts.{Puts}
use Rattle.text.proofs.Appended.{puts_then}
use Rattle.refusal_line.specs.Line.{refused_line}
use Rattle.report.specs.Lines.{boot_line, process_line}
use Rattle.report.specs.Listing.{process_lines, listing}

-- LINES
pub lines_none : (b : List ℕ) (xip : ℕ → Bool) (ram : PageRange) → process_lines b xip ram 0 ≡ []
unfolding process_lines gather
lines_none b xip ram = refl

pub lines_next : (b : List ℕ) (xip : ℕ → Bool) (ram : PageRange) (i : ℕ) {old mid new : Out} {pages root : ℕ} → Puts old (process_lines b xip ram i) mid
    → pages ≡ pages_of b xip ram.pages (i + 1)
    → root ≡ phys_page b xip ram (root_table (i + 1))
    → Puts mid (process_line (i + 1) pages root) new
    → Puts old (process_lines b xip ram (i + 1)) new
unfolding process_lines
lines_next b xip ram i p e h q = rw gather_next (puts_then p (rw (e, h) at q))

-- LISTING
pub answer_is : (x : Image) (r : Memory) {ram : Area} {a : Answer} → a ≡ answer_on x ram → memory_area r ≡ ram → a ≡ answer x r
unfolding answer
answer_is x r p e = p ∙ ap (answer_on x) (sym e)

module _ (x : Image) (r : Memory) (a : Answer) (e : a ≡ answer x r) where
  pub listed_refused : {old new : Out} → a.number ≢ 0 → Puts old (refused_line a.number a.place a.offset) new → Puts old (listing x r) new
  unfolding listing
  listed_refused n p = rw (← e) (rw (choose_no _ _ (ne_eqb _ _ n)) p)

  pub listed_booted : {old mid new : Out} → a.number ≡ 0 → Puts old (boot_line (pages_in (memory_area r)).pages a.free) mid
      → Puts mid (process_lines x.block (xip_of x) (pages_in (memory_area r)) (process_count x.block)) new → Puts old (listing x r) new
  unfolding listing
  listed_booted z p q = rw (← e) (rw (choose_yes _ _ (eq-eqb _ _ z)) (puts_then p q))

-- a boot on RAM that lies so
pub listed_on : (x : Image) (r : Memory) {ram : Area} {a : Answer} {old mid new : Out} → a ≡ answer_on x ram → memory_area r ≡ ram → a.number ≡ 0
    → Puts old (boot_line (pages_in ram).pages a.free) mid
    → Puts mid (process_lines x.block (xip_of x) (pages_in ram) (process_count x.block)) new → Puts old (listing x r) new
listed_on x r {a = a} {old} {mid} {new} p e z s t = listed_booted x r a (answer_is x r p e) {mid = mid} z
    (subst (λ y. Puts old (boot_line (pages_in y).pages a.free) mid) (sym e) s)
    (subst (λ y. Puts mid (process_lines x.block (xip_of x) (pages_in y) (process_count x.block)) new) (sym e) t)
