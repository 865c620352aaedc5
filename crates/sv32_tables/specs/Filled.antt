-- What a table of entries e holds after a write: it keeps its length, and each index has what the rule says.
use Rattle.std.specs.Prelude.{◌≡◌, refl, Bool, ◌&&◌, List, ℕ, ◌+◌, ◌-◌, ◌*◌, ◌%◌, length, get_or, leb, ltb}
use Rattle.notation.specs.Choice.{choose}
use Rattle.notation.specs.Lists.{tab}
use Rattle.types.specs.declared.Rights.{Rights}
use Rattle.rules.specs.Block.{stack_pages, stack_first}
use Rattle.rules.specs.Space.{in_stack}
use Rattle.rules.specs.Entries.{reserved_entry, page_entry}

-- the page n pages above the physical page `first`, where they rise, else below it
unfoldable pub nth_page : ℕ → Bool → ℕ → ℕ
nth_page first rises n = choose rises (first + n) (first - n)

-- the leaf table for root slot m with the virtual pages v from `from` to `to` mapped: `from` to the physical page `first`,
-- each next one to the next higher page where they rise, else to the next lower
unfoldable pub pages_mapped : List ℕ → ℕ → ℕ → ℕ → ℕ → Bool → Rights → List ℕ
pages_mapped e m from to first rises rights =
    tab (length e) (λ i. let v = 1024 * m + i in
    choose (leb from v && leb v to) (page_entry (nth_page first rises (v - from) % 0x40_0000) rights) (get_or e i 0))

-- the leaf table for root slot m with a stack reservation of so many pages, which ends at virtual page 0x80000
unfoldable pub stack_reserved : List ℕ → ℕ → ℕ → List ℕ
stack_reserved e m pages =
    tab (length e) (λ i. let v = 1024 * m + i in choose (leb (0x80000 - pages) v && ltb v 0x80000) reserved_entry (get_or e i 0))

-- with the pages of process q's stack it is the rules' reservation
pub stack_reserved_lem : (b : List ℕ) (q : ℕ) (e : List ℕ) (m : ℕ)
    → stack_reserved e m (stack_pages b q) ≡ tab (length e) (λ i. choose (in_stack b q (1024 * m + i)) reserved_entry (get_or e i 0))
unfolding stack_reserved in_stack stack_first
stack_reserved_lem b q e m = refl
