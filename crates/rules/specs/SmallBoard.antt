-- 01, "The small board, whole": its figures, as one claim. (The owner of a user process's tables and the words of the process list stand
-- in no demand.) 02, A1: the flags of page entries, as another.
use Rattle.std.specs.Prelude.{◌≡◌, refl, Bool, true, false, [], ◌∷◌, map, ℕ, ◌*◌}
use Rattle.std.proofs.Math.Decide.{ℕ_discrete}
use Rattle.notation.specs.Choice.{choices}
use Rattle.notation.specs.Lists.{tab, lists}
use Rattle.notation.specs.Words.{word, words}
use Rattle.types.specs.declared.PageRange.{PageRange}
use Rattle.types.specs.declared.Rights.{Rights}
use Rattle.rules.specs.Block.{block_rules}
use Rattle.rules.specs.Space.{Data, section_page, tracker_page, process_list, block_copy, section_rights, kernel_read, kernel_write, space_rules}
use Rattle.rules.specs.InPlace.{in_place, in_place_rules}
use Rattle.rules.specs.Order.{Use, holds, root_table, leaf_table, tracker_pages, pages_needed, free_pages, ram_page, pages_of, order_rules}
use Rattle.rules.specs.Entries.{page_entry, entry_rules}
use Rattle.rules.specs.Tables.{root_entry, leaf_entry, table_rules}
use Rattle.rules.specs.Contents.{tracker, process_list_byte, content_rules}
use Rattle.rules.specs.Load.{phys_page, data_page, satp_word, load_rules}
use Rattle.rules.specs.Examples.{small_board, example_rules}

-- RAM of 16 pages at 0x40000000, flash of 320 bytes at 0x20000000: the RAM page and the physical page of a use, and the physical page of
-- data
unfoldable pub ram : PageRange
ram = record { base = 0x40000; pages = 16 }

unfoldable pub xip : ℕ → Bool
xip n = in_place small_board (tab 320 (λ k. 0)) n

unfoldable pub page : Use → ℕ
page u = ram_page small_board xip 16 u

unfoldable pub phys : Use → ℕ
phys u = phys_page small_board xip ram u

unfoldable pub phys_data : Data → ℕ
phys_data d = data_page small_board xip 0x20000 ram d

pub record SmallBoard : Type 0 where
  -- A 11, B 10, kernel section 9, tracker 8, list 7, block copy 6
  pub data_pages : page (holds (section_page 2 0 0)) ∷ page (holds (section_page 2 1 0)) ∷ page (holds (section_page 1 0 0))
      ∷ page (holds (tracker_page 0)) ∷ page (holds process_list) ∷ page (holds block_copy) ∷ [] ≡ 11 ∷ 10 ∷ 9 ∷ 8 ∷ 7 ∷ 6 ∷ []
  -- kernel root 5, kernel leaf 4, process 2 root 3, its leaves 2 (root slot 0) and 1 (root slot 511)
  pub table_pages : page (root_table 1) ∷ page (leaf_table 1 1023) ∷ page (root_table 2) ∷ page (leaf_table 2 0) ∷ page (leaf_table 2 511) ∷ []
      ≡ 5 ∷ 4 ∷ 3 ∷ 2 ∷ 1 ∷ []
  -- A at entry 16 of page 2, B at 32
  pub leaf_entries : leaf_entry small_board 1 phys_data 2 0 16 ∷ leaf_entry small_board 1 phys_data 2 0 32 ∷ [] ≡ 0x1000_2C5B ∷ 0x1000_28D7 ∷ []
  -- the root's entries at 0, 511, 1,023
  pub root_entries : root_entry small_board phys 2 0 ∷ root_entry small_board phys 2 511 ∷ root_entry small_board phys 2 1023 ∷ []
      ≡ 0x1000_0801 ∷ 0x1000_0401 ∷ 0x1000_1001 ∷ []
  -- the process list: satp, entry point and stack pointer of the kernel, then of process 2
  pub process_list_is : tab 6 (λ w. word (tab 24 (process_list_byte small_board (satp_word small_board xip ram))) (4 * w))
      ≡ 0x8044_0005 ∷ 0xFFC0_0010 ∷ 0 ∷ 0x8084_0003 ∷ 0x0001_0020 ∷ 0x8000_0000 ∷ []
  -- page 0 free, then the kernel's, A and B of process 2, the four at the top, and two I/O pages
  pub tracker_bytes : tracker small_board xip 16 ≡ 0 ∷ 1 ∷ 1 ∷ 1 ∷ 1 ∷ 1 ∷ 1 ∷ 1 ∷ 1 ∷ 1 ∷ 2 ∷ 2 ∷ 1 ∷ 1 ∷ 1 ∷ 1 ∷ 0 ∷ 0 ∷ []
  -- 15 pages taken, one free; one is the tracker's
  pub page_counts : pages_needed small_board xip 16 ∷ free_pages small_board xip 16 ∷ tracker_pages small_board 16 ∷ [] ≡ 15 ∷ 1 ∷ 1 ∷ []
  -- the listing's pid 1 pages 13, pid 2 pages 2
  pub owners_pages : pages_of small_board xip 16 1 ∷ pages_of small_board xip 16 2 ∷ [] ≡ 13 ∷ 2 ∷ []

pub small_board_lem : SmallBoard
unfolding ℕ_discrete ram xip page phys phys_data example_rules load_rules content_rules table_rules entry_rules order_rules in_place_rules space_rules block_rules words lists choices
small_board_lem = record {
  data_pages = refl;
  table_pages = refl;
  leaf_entries = refl;
  root_entries = refl;
  process_list_is = refl;
  tracker_bytes = refl;
  page_counts = refl;
  owners_pages = refl;
}

-- a user page that can only be read; the small board has none
unfoldable pub user_read_only : Rights
user_read_only = record { read = true; write = false; execute = false; user = true }

-- user code (A), user read-only, user data (B); kernel code, block copy and process list, tracker
pub page_flags : map (page_entry 0) (section_rights small_board 2 1 ∷ user_read_only ∷ section_rights small_board 2 2
    ∷ section_rights small_board 1 0 ∷ kernel_read ∷ kernel_write ∷ []) ≡ 0x5B ∷ 0x53 ∷ 0xD7 ∷ 0x4B ∷ 0x43 ∷ 0xC7 ∷ []
unfolding ℕ_discrete user_read_only example_rules entry_rules space_rules block_rules words lists choices
page_flags = refl
