-- 01, "Pages, from the top down": the one list of uses, and all that is counted from it. `xip n` says that section record n is used in place
-- (execute in place).
use Rattle.std.specs.Prelude.{Bool, true, false, ◌&&◌, List, [], ◌∷◌, ◌++◌, ℕ, ◌+◌, ◌-◌, ◌/◌, length, leb, eqb}
use Rattle.std.proofs.Math.Option.{Option, none, some}
use Rattle.std.proofs.Math.Decide.{ℕ_discrete}
use Rattle.notation.specs.Choice.{choose}
use Rattle.notation.specs.Lists.{tab, gather, some_of, lookup, count_before, count}
use Rattle.rules.specs.Block.{process_count, sections_of, section_record, first_page_of, last_page_of, page_count, io_pages}
use Rattle.rules.specs.Space.{Data, Data-discrete, section_page, tracker_page, process_list, block_copy}

-- what a RAM page is used for
pub data Use : Type 0 where
  -- one of the four pages at the top of RAM: the loader's stack and its guard (01: the lost pages)
  top : ℕ → Use
  holds : Data → Use
  -- the root table of process q
  root_table : ℕ → Use
  -- `leaf_table q m`: the leaf table of process q for root slot m. Root slot m covers the 4 MiB (01: the 4 MiB block) of the
  -- virtual pages 1,024 m to 1,024 m + 1,023
  leaf_table : ℕ → ℕ → Use
  deriving Discrete as Use-discrete

-- THE USES, IN ORDER
-- the pages that section record n takes in RAM
unfoldable pub pages_taken : List ℕ → (ℕ → Bool) → ℕ → ℕ
pages_taken b xip n = choose (xip n) 0 (page_count b n)

-- the pages of section j of process q, by rising virtual page; of its sections, by record; of all sections: process 2's, 3's and so on,
-- then the kernel's
unfoldable pub section_pages : List ℕ → (ℕ → Bool) → ℕ → ℕ → List Use
section_pages b xip q j = tab (pages_taken b xip (section_record b q j)) (λ i. holds (section_page q j i))

unfoldable pub section_uses : List ℕ → (ℕ → Bool) → ℕ → List Use
section_uses b xip q = gather (sections_of b q) (section_pages b xip q)

unfoldable pub all_sections : List ℕ → (ℕ → Bool) → List Use
all_sections b xip = gather (process_count b - 1) (λ i. section_uses b xip (i + 2)) ++ section_uses b xip 1

-- the page tracker's T pages: the lower part first
unfoldable pub tracker_uses : ℕ → List Use
tracker_uses T = tab T (λ i. holds (tracker_page i))

-- root slots `first` to `last`
pub record Slots : Type 0 where
  pub first : ℕ
  pub last : ℕ

-- those that have a page of section record n
unfoldable pub slots_of : List ℕ → ℕ → Slots
slots_of b n = record { first = first_page_of b n / 1024; last = last_page_of b n / 1024 }

unfoldable pub in_slots : ℕ → Slots → Bool
in_slots m s = leb s.first m && leb m s.last

-- process q has a leaf table for root slot m: the kernel its one, for slot 1,023; a user process for each slot that has a page of
-- one of its sections, and for slot 511, which has its stack. (`sections` has the slots of each, the same for all m)
unfoldable pub has_leaf : List ℕ → ℕ → ℕ → Bool
has_leaf b q =
    let sections = tab (sections_of b q) (λ j. slots_of b (section_record b q j)) in
    λ m. choose (eqb q 1) (eqb m 1023) (choose (eqb m 511) true (some_of (in_slots m) sections))

-- the tables of process q: its root, then its leaves, rising; and of all processes, the kernel's first
unfoldable pub table_uses : List ℕ → ℕ → List Use
table_uses b q = let leaf = has_leaf b q in root_table q ∷ gather 1024 (λ m. choose (leaf m) (leaf_table q m ∷ []) [])

unfoldable pub all_tables : List ℕ → List Use
all_tables b = gather (process_count b) (λ i. table_uses b (i + 1))

-- THE ORDER: the four at the top; all sections; the tracker's T pages; the process list; the copy of the block; all tables
unfoldable pub below_top : List ℕ → (ℕ → Bool) → ℕ → List Use
below_top b xip T = all_sections b xip ++ (tracker_uses T ++ (holds process_list ∷ holds block_copy ∷ all_tables b))

unfoldable pub order : List ℕ → (ℕ → Bool) → ℕ → List Use
order b xip T = tab 4 top ++ below_top b xip T

-- COUNTED FROM IT, for RAM of N pages
-- pages that hold n bytes
unfoldable pub pages_for : ℕ → ℕ
pages_for n = (n + 4095) / 4096

-- the tracker: as many pages as hold one byte for each RAM and I/O page
unfoldable pub tracker_pages : List ℕ → ℕ → ℕ
tracker_pages b N = pages_for (N + io_pages b)

unfoldable pub uses : List ℕ → (ℕ → Bool) → ℕ → List Use
uses b xip N = order b xip (tracker_pages b N)

-- the pages needed, which are the pages taken
unfoldable pub pages_needed : List ℕ → (ℕ → Bool) → ℕ → ℕ
pages_needed b xip N = length (uses b xip N)

unfoldable pub free_pages : List ℕ → (ℕ → Bool) → ℕ → ℕ
free_pages b xip N = N - pages_needed b xip N

-- the use of RAM page k: none where it is free
unfoldable pub use_of : List ℕ → (ℕ → Bool) → ℕ → ℕ → Option Use
use_of b xip N k = lookup (uses b xip N) (N - 1 - k)

-- the two uses are one
unfoldable pub same_use : Use → Use → Bool
same_use u v = elim (Use-discrete ℕ_discrete (Data-discrete ℕ_discrete) u v) [ yes e ↦ true | no e ↦ false ]

-- the RAM page of a use: one lower for each use before it
unfoldable pub ram_page : List ℕ → (ℕ → Bool) → ℕ → Use → ℕ
ram_page b xip N u = N - 1 - count_before (same_use u) (uses b xip N)

-- the owner of a page, 0 where it is free: section pages belong to their process, all other taken pages to process 1
unfoldable pub data_owner : Data → ℕ
data_owner (section_page q j i) = q
data_owner (tracker_page i) = 1
data_owner process_list = 1
data_owner block_copy = 1

unfoldable pub use_owner : Use → ℕ
use_owner (top i) = 1
use_owner (holds d) = data_owner d
use_owner (root_table q) = 1
use_owner (leaf_table q m) = 1

unfoldable pub owner : Option Use → ℕ
owner none = 0
owner (some u) = use_owner u

-- the pages of process q, the four at the top among the kernel's
unfoldable pub pages_of : List ℕ → (ℕ → Bool) → ℕ → ℕ → ℕ
pages_of b xip N q = count (λ u. eqb (use_owner u) q) (uses b xip N)

-- all definitions of this file, to be unfolded as one
unfoldable pub order_rules : Unit {0}
unfolding pages_taken section_pages section_uses all_sections tracker_uses slots_of in_slots has_leaf table_uses all_tables below_top order pages_for tracker_pages uses pages_needed free_pages use_of same_use ram_page data_owner use_owner owner pages_of
order_rules = tt
