-- The entries of a leaf table, by what stands at each virtual page.
use Rattle.std.specs.Prelude.{◌≡◌, Bool, true, not, List, ℕ, ◌+◌, ◌*◌, ◌≤◌, ◌<◌, eqb}
use Rattle.notation.specs.Lists.{tab}
use Rattle.types.specs.declared.Rights.{Rights}
use Rattle.rules.specs.Block.{process_count, sections_of, section_record, page_count}
use Rattle.rules.specs.Space.{Data, Mapping}
use Rattle.rules.specs.Tables.{entry_for}
use Rattle.rules.specs.Load.{flash_page}

-- the leaf table for root slot m of a process that has `at v` at virtual page v. `page` gives the physical page of a page of data
unfoldable pub entries_of : (Data → ℕ) → (ℕ → Mapping) → ℕ → List ℕ
entries_of page at m = tab 1024 (λ i. entry_for page (at (1024 * m + i)))

-- the pages of sections that are used in place, in flash that starts at physical page F, have numbers of 20 bits
pub record FlashNumbers (b : List ℕ) (xip : ℕ → Bool) (F : ℕ) : Type 0 where
  pub number : (q j i : ℕ) → 1 ≤ q → q ≤ process_count b → j < sections_of b q → xip (section_record b q j) ≡ true → i < page_count b (section_record b q j)
      → flash_page b F (section_record b q j) i < 0x10_0000

-- the rights of a section of process q
abbrev pub rights_of : ℕ → Bool → Bool → Rights
rights_of q write execute = record { read = true; write = write; execute = execute; user = not (eqb q 1) }
