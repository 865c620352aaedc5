-- 02, A6: worked figures. Which sections are used in place, where flash may lie, the answers, the entries, and the bytes of a page.
use Rattle.std.specs.Prelude.{◌≡◌, refl, Bool, true, false, List, [], ◌∷◌, ◌++◌, map, ℕ, ◌*◌, length, get_or, eqb}
use Rattle.std.proofs.Math.Decide.{ℕ_discrete}
use Rattle.notation.specs.Choice.{choose, choices}
use Rattle.notation.specs.Lists.{tab, lists}
use Rattle.notation.specs.Words.{bytes_of, words}
use Rattle.types.specs.declared.Area.{Area}
use Rattle.types.specs.declared.Entry.{Entry}
use Rattle.types.specs.declared.Entry.TheVariants.{Absent, Reserved, Page}
use Rattle.rules.specs.Lent.{Memory, memory_of, image_of, area_of, area_rules}
use Rattle.rules.specs.Block.{block_rules}
use Rattle.rules.specs.Space.{Data, kernel_read, space_rules}
use Rattle.rules.specs.InPlace.{in_place, in_place_rules}
use Rattle.rules.specs.Order.{order_rules}
use Rattle.rules.specs.Refusals.{flash_unfit, region_unfit, refusal_rules}
use Rattle.rules.specs.Entries.{entry_rules}
use Rattle.rules.specs.Tables.{leaf_entry, table_rules}
use Rattle.rules.specs.Load.{data_page, answer_on, load_rules}
use Rattle.rules.specs.Reader.{page_in, page_bytes, entry_bytes}

-- the small board's block, with the kind word of process 2, the four words of A, the address of B and the start of the region as given. B is
-- executable, and process 2 is entered there
unfoldable pub board : ℕ → List ℕ → ℕ → ℕ → List ℕ
board kind_word_of A B region = bytes_of
    (1 ∷ 120 ∷ 2 ∷ 32 ∷ 3 ∷ 64 ∷ 1 ∷ 112
    ∷ 0xFFC0_0010 ∷ 0 ∷ 1 ∷ 0
    ∷ B ∷ 1 ∷ 2 ∷ kind_word_of
    ∷ 0xFFC0_0000 ∷ 256 ∷ 0 ∷ 4
    ∷ (A
    ++ (B ∷ 4096 ∷ 0 ∷ 5
    ∷ region ∷ 2
    ∷ [])))

-- an image of n bytes, which are 0 but for the one at index `at`
unfoldable pub image : ℕ → ℕ → List ℕ
image n at = tab n (λ k. choose (eqb k at) 1 0)

-- WHICH SECTIONS ARE USED IN PLACE: the kind word of process 2, the four words of A, the image, and whether A is
pub record Section : Type 0 where
  pub kind_word_of : ℕ
  pub words : List ℕ
  pub flash : List ℕ
  pub used : Bool

unfoldable pub is_used : Section → Bool
is_used x = in_place (board x.kind_word_of x.words 0x0002_0000 0xF000_0000) x.flash 1

-- code at bytes 2 to 4,093 of flash, and of its page
unfoldable pub code : List ℕ
code = 0x0001_0002 ∷ 4092 ∷ 2 ∷ 4 ∷ []

unfoldable pub sections : List Section
sections =
    -- code, and what can only be read, whatever its first and its last byte are; a whole page
    record { kind_word_of = 1; words = code; flash = image 4096 2; used = true }
    ∷ record { kind_word_of = 1; words = 0x0001_0002 ∷ 4092 ∷ 2 ∷ 0 ∷ []; flash = image 4096 4093; used = true }
    ∷ record { kind_word_of = 1; words = 0x0001_0000 ∷ 4096 ∷ 0 ∷ 4 ∷ []; flash = image 4096 0; used = true }
    -- kind 1 with stack bits
    ∷ record { kind_word_of = 0x0401; words = code; flash = image 4096 2; used = true }
    -- kind 0, with and without stack bits; NOCOPY; writable; offset and address that do not agree
    ∷ record { kind_word_of = 0x0100; words = code; flash = image 4096 2; used = false }
    ∷ record { kind_word_of = 0; words = code; flash = image 4096 2; used = false }
    ∷ record { kind_word_of = 1; words = 0x0001_0000 ∷ 4096 ∷ 0 ∷ 1 ∷ []; flash = image 4096 0; used = false }
    ∷ record { kind_word_of = 1; words = 0x0001_0002 ∷ 4092 ∷ 2 ∷ 2 ∷ []; flash = image 4096 2; used = false }
    ∷ record { kind_word_of = 1; words = 0x0001_0003 ∷ 4092 ∷ 2 ∷ 4 ∷ []; flash = image 4096 2; used = false }
    -- the image ends a byte before the page, and a byte after it
    ∷ record { kind_word_of = 1; words = code; flash = image 4095 2; used = false }
    ∷ record { kind_word_of = 1; words = code; flash = image 4097 4096; used = true }
    -- a byte beside it: the page's first, the one before it, the one after it, the page's last
    ∷ record { kind_word_of = 1; words = code; flash = image 4096 0; used = false }
    ∷ record { kind_word_of = 1; words = code; flash = image 4096 1; used = false }
    ∷ record { kind_word_of = 1; words = code; flash = image 4096 4094; used = false }
    ∷ record { kind_word_of = 1; words = code; flash = image 4096 4095; used = false }
    ∷ []

pub in_place_sections : map is_used sections ≡ map (λ (x : Section). x.used) sections
unfolding board image is_used code sections in_place_rules block_rules words lists choices
in_place_sections = refl

-- WHERE FLASH MAY LIE, RAM being 16 pages from 0x40000000 on: flash's start and length, and whether it draws 13; and whether a region of two
-- pages from `region` on draws 11
pub record Place : Type 0 where
  pub start : ℕ
  pub length : ℕ
  pub region : ℕ
  pub draws13 : Bool
  pub draws11 : Bool

unfoldable pub ram : Area
ram = area_of 0x4000_0000 0x1_0000

unfoldable pub places : List Place
places =
    -- a start that is no multiple of 4,096, with an empty image too
    record { start = 0x2000_0001; length = 4096; region = 0xF000_0000; draws13 = true; draws11 = false }
    ∷ record { start = 0x2000_0001; length = 0; region = 0xF000_0000; draws13 = true; draws11 = false }
    -- flash up to 2^32, and a byte past it
    ∷ record { start = 0xFFFF_F000; length = 4096; region = 0xF000_0000; draws13 = false; draws11 = false }
    ∷ record { start = 0xFFFF_F000; length = 4097; region = 0xF000_0000; draws13 = true; draws11 = false }
    -- it touches RAM from below, and shares its first byte; shares its last page, and touches it from above; an empty image in RAM
    ∷ record { start = 0x3FFF_F000; length = 4096; region = 0xF000_0000; draws13 = false; draws11 = false }
    ∷ record { start = 0x3FFF_F000; length = 4097; region = 0xF000_0000; draws13 = true; draws11 = false }
    ∷ record { start = 0x4000_F000; length = 1; region = 0xF000_0000; draws13 = true; draws11 = false }
    ∷ record { start = 0x4001_0000; length = 1; region = 0xF000_0000; draws13 = false; draws11 = false }
    ∷ record { start = 0x4000_8000; length = 0; region = 0xF000_0000; draws13 = false; draws11 = false }
    -- a region that ends where flash starts, and one that ends a page further
    ∷ record { start = 0x2000_0000; length = 4096; region = 0x1FFF_E000; draws13 = false; draws11 = false }
    ∷ record { start = 0x2000_0000; length = 4096; region = 0x1FFF_F000; draws13 = false; draws11 = true }
    -- one on the page after the image's last byte, and one on the same page; one around an empty image
    ∷ record { start = 0x2000_0000; length = 4096; region = 0x2000_1000; draws13 = false; draws11 = false }
    ∷ record { start = 0x2000_0000; length = 4097; region = 0x2000_1000; draws13 = false; draws11 = true }
    ∷ record { start = 0x2000_0000; length = 0; region = 0x1FFF_F000; draws13 = false; draws11 = false }
    ∷ []

pub flash_places : map (λ (x : Place). flash_unfit (area_of x.start x.length) ram) places ≡ map (λ (x : Place). x.draws13) places
unfolding ram places refusal_rules area_rules choices
flash_places = refl

pub region_places : map (λ (x : Place). region_unfit (board 1 code 0x0002_0000 x.region) (area_of x.start x.length) ram 0) places ≡ map (λ (x : Place). x.draws11) places
unfolding board code ram places refusal_rules block_rules area_rules words lists choices
region_places = refl

-- THE ANSWERS: the block, the image, the address at which flash starts, the pages of RAM from 0x40000000 on, and the answer's number, place,
-- free pages and offset
pub record Load : Type 0 where
  pub block : List ℕ
  pub flash : List ℕ
  pub start : ℕ
  pub pages : ℕ
  pub number : ℕ
  pub place : ℕ
  pub free : ℕ
  pub offset : ℕ

unfoldable pub told : Load → List ℕ
told x =
    let a = answer_on (image_of x.block x.start x.flash) (area_of 0x4000_0000 (4096 * x.pages)) in
    a.number ∷ a.place ∷ a.free ∷ a.offset ∷ []

unfoldable pub loads : List Load
loads =
    -- A in flash: of 15 pages one is free, where P2 has none; 13 are too few
    record { block = board 1 code 0x0002_0000 0xF000_0000; flash = image 4096 2; start = 0x2000_0000; pages = 15; number = 0; place = 0; free = 1; offset = 0 }
    ∷ record { block = board 1 code 0x0002_0000 0xF000_0000; flash = image 4096 2; start = 0x2000_0000; pages = 13; number = 12; place = 0; free = 0; offset = 0 }
    -- with B in the next 4 MiB: a leaf table for A alone
    ∷ record { block = board 1 code 0x0040_0000 0xF000_0000; flash = image 4096 2; start = 0x2000_0000; pages = 15; number = 0; place = 0; free = 0; offset = 0 }
    -- 13 after 1, and before 2
    ∷ record { block = []; flash = []; start = 0x2000_0001; pages = 4097; number = 1; place = 0; free = 0; offset = 0 }
    ∷ record { block = []; flash = []; start = 0x2000_0001; pages = 16; number = 13; place = 0; free = 0; offset = 0 }
    -- 9 in a process of kind 1
    ∷ record { block = board 1 (0x0001_0100 ∷ 64 ∷ 256 ∷ 4 ∷ []) 0x0002_0000 0xF000_0000; flash = image 319 0; start = 0x2000_0000; pages = 16; number = 9; place = 1; free = 0; offset = 80 }
    ∷ []

pub in_place_loads : map told loads ≡ map (λ (x : Load). x.number ∷ x.place ∷ x.free ∷ x.offset ∷ []) loads
unfolding board image code told loads load_rules refusal_rules order_rules in_place_rules block_rules area_rules words lists choices
in_place_loads = refl

-- THE ENTRIES of code of two pages in flash: physical pages 0x20000 and 0x20001
unfoldable pub two_pages : List ℕ
two_pages = board 1 (0x0001_0000 ∷ 8192 ∷ 0 ∷ 4 ∷ []) 0x0002_0000 0xF000_0000

unfoldable pub page_of : Data → ℕ
page_of d = data_page two_pages (in_place two_pages (image 8192 0)) 0x20000 (record { base = 0x40000; pages = 16 }) d

pub in_place_entries : leaf_entry two_pages 1 page_of 2 0 16 ∷ leaf_entry two_pages 1 page_of 2 0 17 ∷ [] ≡ 0x0800_005B ∷ 0x0800_045B ∷ []
unfolding ℕ_discrete board image two_pages page_of load_rules table_rules entry_rules order_rules in_place_rules space_rules block_rules words lists choices
in_place_entries = refl

-- THE BYTES OF A PAGE: RAM, flash, an answer of the walk, and of the part that comes back its length, its first and its last byte
pub record Part : Type 0 where
  pub ram : Memory
  pub flash : Memory
  pub entry : Entry
  pub part : List ℕ

-- n bytes from `start` on: 9, and then this byte
unfoldable pub memory : ℕ → ℕ → ℕ → Memory
memory start n byte = memory_of start (tab n (λ k. choose (eqb k 0) 9 byte))

-- page 1, which has the addresses 0x1000 to 0x1FFF
unfoldable pub page_one : Entry
page_one = Page kernel_read (record { 0 = 1 })

unfoldable pub part_told : Part → List ℕ
part_told x = let l = entry_bytes x.ram x.flash x.entry in length l ∷ get_or l 0 0 ∷ get_or l 4095 0 ∷ []

unfoldable pub parts : List Part
parts =
    -- in both: RAM's; RAM may start anywhere
    record { ram = memory 0x1000 4096 1; flash = memory 0x1000 4096 2; entry = page_one; part = 4096 ∷ 9 ∷ 1 ∷ [] }
    ∷ record { ram = memory 0x0FFF 4097 1; flash = memory 0x1000 4096 2; entry = page_one; part = 4096 ∷ 1 ∷ 1 ∷ [] }
    -- but for one byte in RAM, and wholly in flash
    ∷ record { ram = memory 0x1000 4095 1; flash = memory 0x0FFF 4097 2; entry = page_one; part = 4096 ∷ 2 ∷ 2 ∷ [] }
    ∷ record { ram = memory 0x1001 4096 1; flash = memory 0x1000 4097 2; entry = page_one; part = 4096 ∷ 9 ∷ 2 ∷ [] }
    -- but for one byte in flash; no page
    ∷ record { ram = memory 0x2000 1 1; flash = memory 0x1000 4095 2; entry = page_one; part = 0 ∷ 0 ∷ 0 ∷ [] }
    ∷ record { ram = memory 0x1000 1 1; flash = memory 0x1001 4096 2; entry = page_one; part = 0 ∷ 0 ∷ 0 ∷ [] }
    ∷ record { ram = memory 0 4096 1; flash = memory 0 4096 2; entry = Reserved; part = 0 ∷ 0 ∷ 0 ∷ [] }
    ∷ record { ram = memory 0 4096 1; flash = memory 0 4096 2; entry = Absent; part = 0 ∷ 0 ∷ 0 ∷ [] }
    ∷ []

pub page_parts : map part_told parts ≡ map (λ (x : Part). x.part) parts
unfolding memory page_one part_told parts page_in page_bytes entry_bytes area_rules lists choices
page_parts = refl
