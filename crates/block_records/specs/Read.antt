-- What is read of a record: its words, and what 01's definitions draw from them.
use Rattle.std.specs.Prelude.{◌≡◌, List, ℕ, ◌≤◌}
use Rattle.types.specs.declared.Process.{Process}
use Rattle.rules.specs.Block.{entry_point_of, first_section_of, sections_of, kind_word_of}
use Rattle.rules.specs.Block.{address, size, flash_offset_of, flags, is_no_copy, writable, executable, section_end, first_page_of, last_page_of, page_count}
use Rattle.rules.specs.Block.{region_start, region_pages, region_area}
use Rattle.rules.specs.Lent.{end_of}
use Rattle.block_records.specs.declared.Section.{Section}
use Rattle.block_records.specs.declared.Region.{Region}

-- r is the record of process q
pub record IsProcess (b : List ℕ) (q : ℕ) (r : Process) : Type 0 where
  pub entry_point : r.entry_point ≡ entry_point_of b q
  pub first_section : r.first_section ≡ first_section_of b q
  pub sections_of_is : r.sections ≡ sections_of b q
  pub kind_word : r.kind_word ≡ kind_word_of b q

-- r is section record n, which has at most 0x200000 pages
pub record IsSection (b : List ℕ) (n : ℕ) (r : Section) : Type 0 where
  pub address_is : r.address ≡ address b n
  pub size_is : r.size ≡ size b n
  pub flash_offset : r.flash_offset ≡ flash_offset_of b n
  pub flags_are : r.flags ≡ flags b n
  pub no_copy_is : r.no_copy ≡ is_no_copy b n
  pub is_writable : r.writable ≡ writable b n
  pub is_executable : r.executable ≡ executable b n
  pub first_page : r.first_page.0 ≡ first_page_of b n
  pub last_page : r.last_page.0 ≡ last_page_of b n
  pub page_count_is : r.pages ≡ page_count b n
  pub pages_few : r.pages ≤ 0x20_0000
  pub end_is : r.end ≡ section_end b n

-- r is region record i
pub record IsRegion (b : List ℕ) (i : ℕ) (r : Region) : Type 0 where
  pub start_is : r.start ≡ region_start b i
  pub pages_are : r.pages ≡ region_pages b i
  pub end_is : r.end ≡ end_of (region_area b i)
