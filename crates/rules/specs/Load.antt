-- The loader as a whole: its answer, and RAM after it from RAM before it.
use Rattle.std.specs.Prelude.{Bool, List, ℕ, ◌+◌, ◌/◌, ◌%◌, length, get_or, eqb}
use Rattle.std.proofs.Math.Option.{Option, none, some}
use Rattle.notation.specs.Choice.{choose}
use Rattle.notation.specs.Lists.{tab}
use Rattle.notation.specs.Words.{byte_of}
use Rattle.types.specs.declared.Area.{Area}
use Rattle.types.specs.declared.PageRange.{PageRange}
use Rattle.rules.specs.Answers.{Verdict, Answer}
use Rattle.rules.specs.Lent.{Image, Memory, memory_of, memory_area, pages_in}
use Rattle.rules.specs.Block.{section_record, flash_offset_of}
use Rattle.rules.specs.Space.{Data, section_page, tracker_page, process_list, block_copy}
use Rattle.rules.specs.InPlace.{xip_of}
use Rattle.rules.specs.Order.{Use, top, holds, root_table, leaf_table, tracker_pages, pages_needed, free_pages, use_of, ram_page}
use Rattle.rules.specs.Refusals.{verdict}
use Rattle.rules.specs.Entries.{satp_of}
use Rattle.rules.specs.Tables.{root_entry, leaf_entry}
use Rattle.rules.specs.Contents.{tracker, data_byte}

-- WHERE PAGES ARE, RAM having these pages, and flash starting at physical page F; `xip n` says that section record n is used in place
-- the physical page number of a use
unfoldable pub phys_page : List ℕ → (ℕ → Bool) → PageRange → Use → ℕ
phys_page b xip ram u = ram.base + ram_page b xip ram.pages u

-- of page i of section record n, used in place: the flash page that holds its bytes
unfoldable pub flash_page : List ℕ → ℕ → ℕ → ℕ → ℕ
flash_page b F n i = F + flash_offset_of b n / 4096 + i

-- of a page of data
unfoldable pub data_page : List ℕ → (ℕ → Bool) → ℕ → PageRange → Data → ℕ
data_page b xip F ram (section_page q j i) =
    let n = section_record b q j in choose (xip n) (flash_page b F n i) (phys_page b xip ram (holds (section_page q j i)))
data_page b xip F ram (tracker_page i) = phys_page b xip ram (holds (tracker_page i))
data_page b xip F ram process_list = phys_page b xip ram (holds process_list)
data_page b xip F ram block_copy = phys_page b xip ram (holds block_copy)

-- the satp word of process q
unfoldable pub satp_word : List ℕ → (ℕ → Bool) → PageRange → ℕ → ℕ
satp_word b xip ram q = satp_of q (phys_page b xip ram (root_table q))

-- byte k of a table: 1,024 entries of four bytes
unfoldable pub table_byte : (ℕ → ℕ) → ℕ → ℕ
table_byte entry k = byte_of (entry (k / 4)) (k % 4)

-- byte k of a RAM page with this use, `old` before the load: a free page and the four at the top keep their bytes
unfoldable pub page_byte : Image → (ℕ → Bool) → PageRange → Option Use → ℕ → ℕ → ℕ
page_byte x xip ram none old k = old
page_byte x xip ram (some (top i)) old k = old
page_byte x xip ram (some (holds d)) old k = data_byte x (tracker x.block xip ram.pages) (satp_word x.block xip ram) d k
page_byte x xip ram (some (root_table q)) old k = table_byte (root_entry x.block (phys_page x.block xip ram) q) k
page_byte x xip ram (some (leaf_table q m)) old k =
    table_byte (leaf_entry x.block (tracker_pages x.block ram.pages) (data_page x.block xip (x.flash.start / 4096) ram) q m) k

-- RAM's bytes with all pages loaded
unfoldable pub loaded : Image → Memory → List ℕ
loaded x r =
    let ram = pages_in (memory_area r) in
    tab (length r.bytes) (λ k. page_byte x (xip_of x) ram (use_of x.block (xip_of x) ram.pages (k / 4096)) (get_or r.bytes k 0) (k % 4096))

-- block and flash boot on this RAM
unfoldable pub boots : Image → Memory → Bool
boots x r = eqb (verdict x (memory_area r)).number 0

-- RAM after the call: its bytes, which in a refusal are as they came; and it
unfoldable pub ram_after : Image → Memory → List ℕ
ram_after x r = choose (boots x r) (loaded x r) r.bytes

abbrev pub after : Image → Memory → Memory
after x r = memory_of r.start (ram_after x r)

-- THE FULL ANSWER to a refusal: number, place, offset, and the three counts 0
unfoldable pub refusal_answer : Verdict → Answer
refusal_answer v = record { number = v.number; place = v.place; taken = 0; free = 0; tracker = 0; offset = v.offset }

-- to a boot on RAM of N pages
unfoldable pub boot_answer : List ℕ → (ℕ → Bool) → ℕ → Answer
boot_answer b xip N =
    record { number = 0; place = 0; taken = pages_needed b xip N; free = free_pages b xip N; tracker = tracker_pages b N; offset = 0 }

-- for RAM that lies here; it depends on nothing else of RAM
unfoldable pub answer_on : Image → Area → Answer
answer_on x ram =
    let v = verdict x ram in choose (eqb v.number 0) (boot_answer x.block (xip_of x) (pages_in ram).pages) (refusal_answer v)

unfoldable pub answer : Image → Memory → Answer
answer x r = answer_on x (memory_area r)

-- all definitions of this file, to be unfolded as one
unfoldable pub load_rules : Unit {0}
unfolding phys_page flash_page data_page satp_word table_byte page_byte loaded boots ram_after refusal_answer boot_answer answer_on answer
load_rules = tt
