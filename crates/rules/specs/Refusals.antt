-- 01, "When it says no", and 02, A6 and A7: each refusal's cause, and the first in their order. Ends are whole-number sums; nothing wraps.
use Rattle.std.specs.Prelude.{Bool, not, ◌&&◌, List, [], ◌∷◌, ◌++◌, ℕ, zero, suc, ◌+◌, ◌-◌, ◌*◌, ◌/◌, ◌%◌, length, leb, ltb, eqb}
use Rattle.notation.specs.Choice.{choose, any}
use Rattle.notation.specs.Lists.{sum, exists}
use Rattle.types.specs.declared.Area.{Area}
use Rattle.types.specs.declared.Process.{Process}
use Rattle.rules.specs.Answers.{RecordCheck, Verdict}
use Rattle.rules.specs.Lent.{Image, memory_area, end_of, pages_in, share_address}
use Rattle.rules.specs.Block.{format, length_field, process_count, process_offset, section_count, section_offset, region_count, region_offset, sections_at, regions_at, tight_length}
use Rattle.rules.specs.Block.{process_at, entry_point_of, first_section_of, sections_of, process_record, kind_of, stack_bits, stack_first, section_record, owner_of, section_at, address, size, flash_offset_of, flags, is_no_copy, writable, executable, section_end, first_page_of, last_page_of}
use Rattle.rules.specs.Block.{region_at, region_start, region_pages, region_area, io_pages_of}
use Rattle.rules.specs.InPlace.{xip_of}
use Rattle.rules.specs.Order.{pages_needed}

-- 1: RAM is not whole pages or over 4,096 pages, its start is not a multiple of 4,096, or its end passes 2^32
unfoldable pub ram_unfit : Area → Bool
ram_unfit ram = any
    (not (eqb (ram.length % 4096) 0)
    ∷ ltb 4096 (ram.length / 4096)
    ∷ not (eqb (ram.start % 4096) 0)
    ∷ ltb 0x1_0000_0000 (end_of ram)
    ∷ [])

-- 13: flash's start is not a multiple of 4,096, its end passes 2^32, or it shares an address with RAM
unfoldable pub flash_unfit : Area → Area → Bool
flash_unfit flash ram = any
    (not (eqb (flash.start % 4096) 0)
    ∷ ltb 0x1_0000_0000 (end_of flash)
    ∷ share_address flash ram
    ∷ [])

-- 2
unfoldable pub block_too_short : List ℕ → Bool
block_too_short b = ltb (length b) 32

-- 3
unfoldable pub format_unknown : List ℕ → Bool
format_unknown b = not (eqb (format b) 1)

-- n is outside the bounds lo to hi
unfoldable pub outside : ℕ → ℕ → ℕ → Bool
outside lo hi n = any (ltb n lo ∷ ltb hi n ∷ [])

-- p, s or r is outside its bounds
unfoldable pub counts_outside : ℕ → ℕ → ℕ → Bool
counts_outside p s r = any (outside 1 16 p ∷ outside 1 64 s ∷ outside 0 32 r ∷ [])

-- 4
unfoldable pub counts_out_of_bounds : List ℕ → Bool
counts_out_of_bounds b = counts_outside (process_count b) (section_count b) (region_count b)

-- 5: an offset is not the tight one, or the length field or the true length is not the tight length
unfoldable pub layout_not_tight : List ℕ → Bool
layout_not_tight b = any
    (not (eqb (process_offset b) 32)
    ∷ not (eqb (section_offset b) (sections_at b))
    ∷ not (eqb (region_offset b) (regions_at b))
    ∷ not (eqb (length_field b) (tight_length b))
    ∷ not (eqb (length b) (tight_length b))
    ∷ [])

-- the sum of the section counts of the first n process records
unfoldable pub sections_before : List ℕ → ℕ → ℕ
sections_before b n = sum n (λ i. sections_of b (i + 1))

-- 6, for the kind word w of process record i: the kind is 2 or more, or 1 on the kernel, a bit above 15 is set, or any of bits 8 to 15 on
-- the kernel
unfoldable pub kind_unfit : ℕ → ℕ → Bool
kind_unfit w i = any
    (ltb 1 (kind_of w)
    ∷ (eqb i 0 && eqb (kind_of w) 1)
    ∷ ltb 0xFFFF w
    ∷ (eqb i 0 && not (eqb (stack_bits w) 0))
    ∷ [])

-- 6, for a process record, number i of p, where `before` is the sum of the section counts before it: its kind word is unfit, its section
-- count is 0, its first section is not that sum, with its own count the sum passes s, or it is the last record and that sum is not s
unfoldable pub record_unfit : Process → ℕ → ℕ → ℕ → ℕ → Bool
record_unfit r i p before s = any
    (kind_unfit r.kind_word i
    ∷ eqb r.sections 0
    ∷ not (eqb r.first_section before)
    ∷ ltb s (before + r.sections)
    ∷ (eqb (i + 1) p && not (eqb (before + r.sections) s))
    ∷ [])

-- 6, for process record i of a block
unfoldable pub process_unfit : List ℕ → ℕ → Bool
process_unfit b i = record_unfit (process_record b (i + 1)) i (process_count b) (sections_before b i) (section_count b)

-- 7, for section record n: its size is 0, a flag above 4 is set, writable and executable are both set, or NOCOPY has a flash offset
-- other than 0
unfoldable pub section_unfit : List ℕ → ℕ → Bool
section_unfit b n = any
    (eqb (size b n) 0
    ∷ ltb 7 (flags b n)
    ∷ (writable b n && executable b n)
    ∷ (is_no_copy b n && not (eqb (flash_offset_of b n) 0))
    ∷ [])

-- the range for the sections of process q: its first and its last address. For a user process it ends just below its stack
unfoldable pub range_first : ℕ → ℕ
range_first q = choose (eqb q 1) 0xFFC0_0000 0x0000_1000

unfoldable pub range_last : List ℕ → ℕ → ℕ
range_last b q = choose (eqb q 1) 0xFFEF_FFFF (4096 * stack_first b q - 1)

-- 8, for section record n: it is not wholly in its owner's range, or its first page is not above the last page of the same process's
-- previous section
unfoldable pub section_misplaced : List ℕ → ℕ → Bool
section_misplaced b n = any
    (ltb (address b n) (range_first (owner_of b n))
    ∷ ltb (range_last b (owner_of b n) + 1) (section_end b n)
    ∷ (not (eqb n (first_section_of b (owner_of b n))) && leb (first_page_of b n) (last_page_of b (n - 1)))
    ∷ [])

-- 9, for section record n and an image of `flash` bytes: without NOCOPY, it runs past the end of flash
unfoldable pub section_past_flash : List ℕ → ℕ → ℕ → Bool
section_past_flash b flash n = not (is_no_copy b n) && ltb flash (flash_offset_of b n + size b n)

-- 10, for process record i: its entry point is in none of its executable sections
unfoldable pub entry_point_outside : List ℕ → ℕ → Bool
entry_point_outside b i = not (exists (λ j.
    let n = section_record b (i + 1) j in
    executable b n && (leb (address b n) (entry_point_of b (i + 1)) && ltb (entry_point_of b (i + 1)) (section_end b n)))
    (sections_of b (i + 1)))

-- 11, for region record i: its start is not a multiple of 4,096, its pages are 0, it ends past 2^32, starts below the end of the
-- region before, shares an address with RAM or with flash, or brings the I/O total over 4,096
unfoldable pub region_unfit : List ℕ → Area → Area → ℕ → Bool
region_unfit b flash ram i = any
    (not (eqb (region_start b i % 4096) 0)
    ∷ eqb (region_pages b i) 0
    ∷ ltb 0x1_0000_0000 (end_of (region_area b i))
    ∷ (ltb 0 i && ltb (region_start b i) (end_of (region_area b (i - 1))))
    ∷ share_address ram (region_area b i)
    ∷ share_address flash (region_area b i)
    ∷ ltb 4096 (io_pages_of b (i + 1))
    ∷ [])

-- 12: the pages needed exceed the N pages of RAM
unfoldable pub ram_too_small : Image → ℕ → Bool
ram_too_small x N = ltb N (pages_needed x.block (xip_of x) N)

-- THE CHECK OF ONE RECORD: the number of the refusal, or 0, and the record's byte offset in the block
abbrev pub record_check : ℕ → ℕ → RecordCheck
record_check n offset = record { number = n; offset = offset }

-- 6, of a process record, number i of p, with `before` and s as in `record_unfit`; and of process record i of a block
unfoldable pub process_record_check : Process → ℕ → ℕ → ℕ → ℕ → RecordCheck
process_record_check r i p before s = record_check (choose (record_unfit r i p before s) 6 0) (process_at (i + 1))

unfoldable pub process_check : List ℕ → ℕ → RecordCheck
process_check b i = process_record_check (process_record b (i + 1)) i (process_count b) (sections_before b i) (section_count b)

-- 7, 8 and 9 together, of section record n
unfoldable pub section_refusal : List ℕ → ℕ → ℕ → ℕ
section_refusal b flash n =
    choose (section_unfit b n) 7 (choose (section_misplaced b n) 8 (choose (section_past_flash b flash n) 9 0))

unfoldable pub section_check : List ℕ → ℕ → ℕ → RecordCheck
section_check b flash n = record_check (section_refusal b flash n) (section_at b n)

-- 10, of process record i
unfoldable pub entry_point_check : List ℕ → ℕ → RecordCheck
entry_point_check b i = record_check (choose (entry_point_outside b i) 10 0) (process_at (i + 1))

-- 11, of region record i
unfoldable pub region_check : List ℕ → Area → Area → ℕ → RecordCheck
region_check b flash ram i = record_check (choose (region_unfit b flash ram i) 11 0) (region_at b i)

-- THE FIRST REFUSAL
-- one step of the checks
pub data Check : Type 0 where
  -- `whole n c`: refusal n, place and offset 0, where c
  whole : ℕ → Bool → Check
  -- `records n f`: records 0 to n - 1 in order; f i is the check of record i
  records : ℕ → (ℕ → RecordCheck) → Check

unfoldable pub refused : ℕ → ℕ → ℕ → Verdict
refused n place offset = record { number = n; place = place; offset = offset }

-- number, place and offset 0
unfoldable pub accepted : Verdict
accepted = refused 0 0 0

-- the first refusal among records k, k + 1, .. k + n - 1, else what follows
unfoldable pub first_record : (ℕ → RecordCheck) → ℕ → ℕ → Verdict → Verdict
first_record f k zero rest = rest
first_record f k (suc n) rest =
    let later = first_record f (suc k) n rest in
    choose (eqb (f k).number 0) later (refused (f k).number k (f k).offset)

unfoldable pub first_refusal : List Check → Verdict
first_refusal [] = accepted
first_refusal (whole n c ∷ cs) = let later = first_refusal cs in choose c (refused n 0 0) later
first_refusal (records n f ∷ cs) = let later = first_refusal cs in first_record f 0 n later

-- ALL CHECKS, in 01's order, 13 after 1: of what is lent, of the block alone, of what its records ask for and the room for it
unfoldable pub lent_checks : Area → Area → List Check
lent_checks flash ram = whole 1 (ram_unfit ram) ∷ whole 13 (flash_unfit flash ram) ∷ []

unfoldable pub header_checks : List ℕ → List Check
header_checks b =
    whole 2 (block_too_short b)
    ∷ whole 3 (format_unknown b)
    ∷ whole 4 (counts_out_of_bounds b)
    ∷ whole 5 (layout_not_tight b)
    ∷ []

unfoldable pub process_checks : List ℕ → List Check
process_checks b = records (process_count b) (process_check b) ∷ []

-- 2 to 6
unfoldable pub block_checks : List ℕ → List Check
block_checks b = header_checks b ++ process_checks b

-- 7 to 12
unfoldable pub content_checks : Image → Area → List Check
content_checks x ram =
    let b = x.block in
    records (section_count b) (section_check b (length x.flash.bytes))
    ∷ records (process_count b) (entry_point_check b)
    ∷ records (region_count b) (region_check b (memory_area x.flash) ram)
    ∷ whole 12 (ram_too_small x (pages_in ram).pages)
    ∷ []

unfoldable pub checks : Image → Area → List Check
checks x ram = lent_checks (memory_area x.flash) ram ++ (block_checks x.block ++ content_checks x ram)

-- the first in this order wins
unfoldable pub verdict : Image → Area → Verdict
verdict x ram = first_refusal (checks x ram)

-- a block draws none of 2 to 6
unfoldable pub well_formed : List ℕ → Bool
well_formed b = eqb (first_refusal (block_checks b)).number 0

-- all definitions of this file, to be unfolded as one
unfoldable pub refusal_rules : Unit {0}
unfolding ram_unfit flash_unfit block_too_short format_unknown outside counts_outside counts_out_of_bounds layout_not_tight sections_before kind_unfit record_unfit process_unfit section_unfit range_first range_last section_misplaced section_past_flash entry_point_outside region_unfit ram_too_small process_record_check process_check section_refusal section_check entry_point_check region_check refused accepted first_record first_refusal lent_checks header_checks process_checks block_checks content_checks checks verdict well_formed
refusal_rules = tt
