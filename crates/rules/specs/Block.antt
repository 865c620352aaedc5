-- 01, "The boot block". `b` is the block's bytes.
use Rattle.std.specs.Prelude.{Bool, ◌&&◌, List, ℕ, ◌+◌, ◌-◌, ◌*◌, ◌/◌, ◌%◌, leb, ltb, eqb}
use Rattle.std.proofs.Math.Option.{none, some}
use Rattle.notation.specs.Choice.{choose}
use Rattle.notation.specs.Lists.{sum, find_last}
use Rattle.notation.specs.Words.{word, bit}
use Rattle.types.specs.declared.Area.{Area}
use Rattle.types.specs.declared.Process.{Process}
use Rattle.rules.specs.Lent.{area_of}

-- THE HEADER: eight words
unfoldable pub format : List ℕ → ℕ
format b = word b 0

unfoldable pub length_field : List ℕ → ℕ
length_field b = word b 4

-- p
unfoldable pub process_count : List ℕ → ℕ
process_count b = word b 8

unfoldable pub process_offset : List ℕ → ℕ
process_offset b = word b 12

-- s
unfoldable pub section_count : List ℕ → ℕ
section_count b = word b 16

unfoldable pub section_offset : List ℕ → ℕ
section_offset b = word b 20

-- r
unfoldable pub region_count : List ℕ → ℕ
region_count b = word b 24

unfoldable pub region_offset : List ℕ → ℕ
region_offset b = word b 28

-- RECORDS LIE TIGHT: process records from byte 32 on, section records after them, region records after those. For p, s and r of
-- them: where the section records start, where the region records start, and the length
abbrev pub sections_from : ℕ → ℕ
sections_from p = 32 + 16 * p

abbrev pub regions_from : ℕ → ℕ → ℕ
regions_from p s = sections_from p + 16 * s

abbrev pub length_for : ℕ → ℕ → ℕ → ℕ
length_for p s r = regions_from p s + 8 * r

-- for the counts of a block
unfoldable pub sections_at : List ℕ → ℕ
sections_at b = sections_from (process_count b)

unfoldable pub regions_at : List ℕ → ℕ
regions_at b = regions_from (process_count b) (section_count b)

unfoldable pub tight_length : List ℕ → ℕ
tight_length b = length_for (process_count b) (section_count b) (region_count b)

-- A PROCESS RECORD: four words. Record i is process i + 1, so process q is record q - 1; process 1 is the kernel
unfoldable pub process_at : ℕ → ℕ
process_at q = 32 + 16 * (q - 1)

unfoldable pub entry_point_of : List ℕ → ℕ → ℕ
entry_point_of b q = word b (process_at q)

unfoldable pub first_section_of : List ℕ → ℕ → ℕ
first_section_of b q = word b (process_at q + 4)

unfoldable pub sections_of : List ℕ → ℕ → ℕ
sections_of b q = word b (process_at q + 8)

unfoldable pub kind_word_of : List ℕ → ℕ → ℕ
kind_word_of b q = word b (process_at q + 12)

-- the four together
unfoldable pub process_record : List ℕ → ℕ → Process
process_record b q = record { entry_point = entry_point_of b q; first_section = first_section_of b q; sections = sections_of b q; kind_word = kind_word_of b q }

-- THE KIND WORD (02, A7): the kind is its bits 0 to 7; its bits 8 to 15 are for the stack pages
unfoldable pub kind_of : ℕ → ℕ
kind_of w = w % 256

unfoldable pub stack_bits : ℕ → ℕ
stack_bits w = w / 256 % 256

unfoldable pub kind : List ℕ → ℕ → ℕ
kind b q = kind_of (kind_word_of b q)

-- the pages of process q's stack: those bits of a user process, 0 meaning sixteen; the kernel has none
unfoldable pub stack_pages : List ℕ → ℕ → ℕ
stack_pages b q = let n = stack_bits (kind_word_of b q) in choose (eqb q 1) 0 (choose (eqb n 0) 16 n)

-- its first virtual page: every stack ends at 0x80000000
unfoldable pub stack_first : List ℕ → ℕ → ℕ
stack_first b q = 0x80000 - stack_pages b q

-- the record of section j, counted from 0, of process q
unfoldable pub section_record : List ℕ → ℕ → ℕ → ℕ
section_record b q j = first_section_of b q + j

-- section record n is one of the sections of process record i
unfoldable pub has_section : List ℕ → ℕ → ℕ → Bool
has_section b n i = leb (first_section_of b (i + 1)) n && ltb n (first_section_of b (i + 1) + sections_of b (i + 1))

-- the process that owns section record n, 0 where none does: where 6 is not given, each n below s has one owner (`section_owner` in
-- accepted/Sections)
unfoldable pub owner_of : List ℕ → ℕ → ℕ
owner_of b n = elim (find_last (has_section b n) (process_count b)) [ none ↦ 0 | some i ↦ i + 1 ]

-- A SECTION RECORD: four words
unfoldable pub section_at : List ℕ → ℕ → ℕ
section_at b n = sections_at b + 16 * n

unfoldable pub address : List ℕ → ℕ → ℕ
address b n = word b (section_at b n)

unfoldable pub size : List ℕ → ℕ → ℕ
size b n = word b (section_at b n + 4)

unfoldable pub flash_offset_of : List ℕ → ℕ → ℕ
flash_offset_of b n = word b (section_at b n + 8)

unfoldable pub flags : List ℕ → ℕ → ℕ
flags b n = word b (section_at b n + 12)

-- 01's NOCOPY: the section has no bytes in flash, only zeros
unfoldable pub is_no_copy : List ℕ → ℕ → Bool
is_no_copy b n = bit (flags b n) 1

unfoldable pub writable : List ℕ → ℕ → Bool
writable b n = bit (flags b n) 2

unfoldable pub executable : List ℕ → ℕ → Bool
executable b n = bit (flags b n) 4

-- where the section ends: the address after its last byte
unfoldable pub section_end : List ℕ → ℕ → ℕ
section_end b n = address b n + size b n

-- its first and last virtual page, and how many it has
unfoldable pub first_page_of : List ℕ → ℕ → ℕ
first_page_of b n = address b n / 4096

unfoldable pub last_page_of : List ℕ → ℕ → ℕ
last_page_of b n = (section_end b n - 1) / 4096

unfoldable pub page_count : List ℕ → ℕ → ℕ
page_count b n = last_page_of b n + 1 - first_page_of b n

-- A REGION RECORD: two words
unfoldable pub region_at : List ℕ → ℕ → ℕ
region_at b i = regions_at b + 8 * i

unfoldable pub region_start : List ℕ → ℕ → ℕ
region_start b i = word b (region_at b i)

unfoldable pub region_pages : List ℕ → ℕ → ℕ
region_pages b i = word b (region_at b i + 4)

unfoldable pub region_area : List ℕ → ℕ → Area
region_area b i = area_of (region_start b i) (4096 * region_pages b i)

-- the I/O pages of the first n regions, and of all
unfoldable pub io_pages_of : List ℕ → ℕ → ℕ
io_pages_of b n = sum n (region_pages b)

unfoldable pub io_pages : List ℕ → ℕ
io_pages b = io_pages_of b (region_count b)

-- all definitions of this file, to be unfolded as one
unfoldable pub block_rules : Unit {0}
unfolding format length_field process_count process_offset section_count section_offset region_count region_offset sections_at regions_at tight_length process_at entry_point_of first_section_of sections_of kind_word_of process_record kind_of stack_bits kind stack_pages stack_first section_record has_section owner_of section_at address size flash_offset_of flags is_no_copy writable executable section_end first_page_of last_page_of page_count region_at region_start region_pages region_area io_pages_of io_pages
block_rules = tt
