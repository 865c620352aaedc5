-- The virtual pages of a process: what stands at each. No RAM page and no table is named here.
-- 01, "Entries": the user's sections and stack, and the kernel's own mapping, which every process has.
use Rattle.std.specs.Prelude.{Bool, true, false, not, ◌&&◌, List, ℕ, ◌+◌, ◌-◌, ◌/◌, leb, ltb, eqb}
use Rattle.std.proofs.Math.Option.{Option, none, some}
use Rattle.notation.specs.Choice.{choose}
use Rattle.notation.specs.Lists.{find_last}
use Rattle.types.specs.declared.Rights.{Rights}
use Rattle.rules.specs.Block.{stack_first, sections_of, section_record, first_page_of, last_page_of, writable, executable}

-- a page of data that a process can be shown
pub data Data : Type 0 where
  -- page i of section j of process q: `section_page q j i`
  section_page : ℕ → ℕ → ℕ → Data
  -- page i of the page tracker
  tracker_page : ℕ → Data
  process_list : Data
  block_copy : Data
  deriving Discrete as Data-discrete

-- what stands at a virtual page
pub data Mapping : Type 0 where
  unmapped : Mapping
  -- a page of the stack reservation, with no RAM
  stack : Mapping
  -- a page of data, with these rights
  maps : Data → Rights → Mapping

-- RIGHTS. User page: read, write if writable, execute if executable, user. Kernel page: the same without user
unfoldable pub section_rights : List ℕ → ℕ → ℕ → Rights
section_rights b q n = record { read = true; write = writable b n; execute = executable b n; user = not (eqb q 1) }

unfoldable pub kernel_read : Rights
kernel_read = record { read = true; write = false; execute = false; user = false }

unfoldable pub kernel_write : Rights
kernel_write = record { read = true; write = true; execute = false; user = false }

-- SECTIONS: section record n has virtual page v
unfoldable pub has_page : List ℕ → ℕ → ℕ → Bool
has_page b v n = leb (first_page_of b n) v && leb v (last_page_of b n)

unfoldable pub section_mapping : List ℕ → ℕ → ℕ → Option ℕ → Mapping
section_mapping b q v none = unmapped
section_mapping b q v (some j) = let n = section_record b q j in maps (section_page q j (v - first_page_of b n)) (section_rights b q n)

-- process q's own section at virtual page v: the last found, which where a block boots is the only one (`section_seen` in
-- demands/Demand2)
unfoldable pub section_at_page : List ℕ → ℕ → ℕ → Mapping
section_at_page b q v = section_mapping b q v (find_last (λ j. has_page b v (section_record b q j)) (sections_of b q))

-- virtual page v is one of T tracker pages from 0xFFF40000 on
unfoldable pub in_tracker : ℕ → ℕ → Bool
in_tracker T v = leb 0xFFF40 v && ltb v (0xFFF40 + T)

-- the kernel's 4 MiB, from 0xFFC00000 on: the process list at 0xFFF80000 (read), the tracker at 0xFFF40000 (read, write),
-- the block copy at 0xFFF00000 (read), and the kernel's sections. Where a block boots, none of these stands over another (`sees_exactly` in
-- demands/Demand2)
unfoldable pub kernel_page : List ℕ → ℕ → ℕ → Mapping
kernel_page b T v =
    choose (eqb v 0xFFF80) (maps process_list kernel_read)
    (choose (in_tracker T v) (maps (tracker_page (v - 0xFFF40)) kernel_write)
    (choose (eqb v 0xFFF00) (maps block_copy kernel_read)
    (section_at_page b 1 v)))

-- virtual page v is one of the stack of process q, which ends at 0x7FFFFFFF
unfoldable pub in_stack : List ℕ → ℕ → ℕ → Bool
in_stack b q v = leb (stack_first b q) v && ltb v 0x80000

-- where a block boots, no section reaches into the stack (`sees_exactly` in demands/Demand2)
unfoldable pub user_page : List ℕ → ℕ → ℕ → Mapping
user_page b q v = choose (in_stack b q v) stack (section_at_page b q v)

-- what stands at virtual page v of process q, where the tracker has T pages
unfoldable pub mapping_at : List ℕ → ℕ → ℕ → ℕ → Mapping
mapping_at b T q v = choose (eqb (v / 1024) 1023) (kernel_page b T v) (choose (eqb q 1) unmapped (user_page b q v))

-- all definitions of this file, to be unfolded as one
unfoldable pub space_rules : Unit {0}
unfolding section_rights kernel_read kernel_write has_page section_mapping section_at_page in_tracker kernel_page in_stack user_page mapping_at
space_rules = tt
