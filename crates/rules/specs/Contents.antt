-- The bytes of every page of data. 01, "Pages, from the top down" (a section's bytes), and "Entries" (tracker and process list).
use Rattle.std.specs.Prelude.{Bool, ◌&&◌, List, ◌++◌, ℕ, zero, suc, ◌+◌, ◌-◌, ◌*◌, ◌/◌, ◌%◌, get_or, leb, ltb, eqb}
use Rattle.notation.specs.Choice.{choose}
use Rattle.notation.specs.Lists.{tab}
use Rattle.notation.specs.Words.{byte_of}
use Rattle.rules.specs.Lent.{Image}
use Rattle.rules.specs.Block.{process_count, entry_point_of, section_record, address, size, flash_offset_of, is_no_copy, io_pages}
use Rattle.rules.specs.Space.{Data, section_page, tracker_page, process_list, block_copy}
use Rattle.rules.specs.Order.{owner, use_of}

-- byte k of page i of section record n. The sub-page offset of the virtual address is kept: the section's bytes begin there in
-- its first page; zero before them, after them, and throughout where NOCOPY is set
unfoldable pub section_page_byte : Image → ℕ → ℕ → ℕ → ℕ
section_page_byte x n i k =
    let b = x.block in
    let at = 4096 * i + k in
    let offset = address b n % 4096 in
    choose (is_no_copy b n) 0
    (choose (leb offset at && ltb at (offset + size b n)) (get_or x.flash.bytes (flash_offset_of b n + (at - offset)) 0) 0)

-- the tracker's bytes for RAM of N pages: RAM pages rising, then the I/O pages, which are 0
unfoldable pub tracker : List ℕ → (ℕ → Bool) → ℕ → List ℕ
tracker b xip N = tab N (λ k. owner (use_of b xip N k)) ++ tab (io_pages b) (λ k. 0)

-- the stack pointer of process q
unfoldable pub stack_pointer : ℕ → ℕ
stack_pointer q = choose (eqb q 1) 0 0x8000_0000

-- word w of process q's three in the process list; `satp q` is its satp word
unfoldable pub process_word : List ℕ → (ℕ → ℕ) → ℕ → ℕ → ℕ
process_word b satp q zero = satp q
process_word b satp q (suc zero) = entry_point_of b q
process_word b satp q (suc (suc w)) = stack_pointer q

-- byte k of the process list: three words for each process
unfoldable pub process_list_byte : List ℕ → (ℕ → ℕ) → ℕ → ℕ
process_list_byte b satp k =
    choose (ltb k (12 * process_count b)) (byte_of (process_word b satp (k / 12 + 1) (k / 4 % 3)) (k % 4)) 0

-- byte k of a page of data, where `track` is the tracker's bytes
unfoldable pub data_byte : Image → List ℕ → (ℕ → ℕ) → Data → ℕ → ℕ
data_byte x track satp (section_page q j i) k = section_page_byte x (section_record x.block q j) i k
data_byte x track satp (tracker_page i) k = get_or track (4096 * i + k) 0
data_byte x track satp process_list k = process_list_byte x.block satp k
data_byte x track satp block_copy k = get_or x.block k 0

-- all definitions of this file, to be unfolded as one
unfoldable pub content_rules : Unit {0}
unfolding section_page_byte tracker stack_pointer process_word process_list_byte data_byte
content_rules = tt
