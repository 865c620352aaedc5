-- 01, "What the promises have to decide": what a process sees at a 32-bit address, by the rules alone and drawn from the reader.
use Rattle.std.specs.Prelude.{◌&&◌, List, ℕ, ◌+◌, ◌-◌, ◌/◌, ◌%◌, length, get_or, leb, ltb, eqb}
use Rattle.notation.specs.Choice.{choose}
use Rattle.types.specs.declared.PageRange.{PageRange}
use Rattle.types.specs.declared.Entry.{Entry}
use Rattle.types.specs.declared.Entry.TheVariants as E
use Rattle.types.specs.declared.View.{View}
use Rattle.types.specs.declared.View.TheVariants.{Absent, Reserved, Page, Outside}
use Rattle.rules.specs.Lent.{Image, Memory, memory_area, pages_in}
use Rattle.rules.specs.Block.{section_record, address, section_end, flash_offset_of, is_no_copy}
use Rattle.rules.specs.Space.{Data, section_page, tracker_page, process_list, block_copy, Mapping, unmapped, stack, maps, section_rights, mapping_at}
use Rattle.rules.specs.InPlace.{xip_of}
use Rattle.rules.specs.Order.{root_table, pages_for}
use Rattle.rules.specs.Contents.{tracker, process_list_byte}
use Rattle.rules.specs.Load.{phys_page, satp_word, after}
use Rattle.rules.specs.Reader.{walk, page_bytes}

-- BY THE RULES ALONE: no RAM and no table is named here
-- the byte at address a of section record n: byte j of a section stands at its virtual address + j, zero around it
unfoldable pub section_byte : Image → ℕ → ℕ → ℕ
section_byte x n a =
    let b = x.block in
    choose (is_no_copy b n) 0
    (choose (leb (address b n) a && ltb a (section_end b n)) (get_or x.flash.bytes (flash_offset_of b n + (a - address b n)) 0) 0)

-- the byte at address a, where a page of this data stands there
unfoldable pub byte_at : Image → List ℕ → (ℕ → ℕ) → ℕ → Data → ℕ
byte_at x track satp a (section_page q j i) = section_byte x (section_record x.block q j) a
byte_at x track satp a (tracker_page i) = get_or track (a - 0xFFF4_0000) 0
byte_at x track satp a process_list = process_list_byte x.block satp (a - 0xFFF8_0000)
byte_at x track satp a block_copy = get_or x.block (a - 0xFFF0_0000) 0

unfoldable pub view_of : (Data → ℕ) → Mapping → View
view_of byte unmapped = Absent
view_of byte stack = Reserved
view_of byte (maps d t) = Page t (byte d)

-- what the rules give process q at address a. The tracker's bytes `track` and the satp words are all that may differ between boards
unfoldable pub sees : Image → List ℕ → (ℕ → ℕ) → ℕ → ℕ → View
sees x track satp q a = view_of (byte_at x track satp a) (mapping_at x.block (pages_for (length track)) q (a / 4096))

-- the same where RAM has these pages
unfoldable pub sees_on : Image → PageRange → ℕ → ℕ → View
sees_on x ram = sees x (tracker x.block (xip_of x) ram.pages) (satp_word x.block (xip_of x) ram)

-- what process q is to see of byte k of one of its sections, record n: a page with the section's rights, and the byte at its flash
-- offset + k, or 0 with NOCOPY
unfoldable pub section_view : Image → ℕ → ℕ → ℕ → View
section_view x q n k = let b = x.block in Page (section_rights b q n) (choose (is_no_copy b n) 0 (get_or x.flash.bytes (flash_offset_of b n + k) 0))

-- DRAWN FROM THE READER
-- what the reader's answer at address a shows: of a page its rights, and byte a modulo 4,096 of the page's part of RAM or flash.
-- (The walk never answers a pointer.)
unfoldable pub shown : Memory → Memory → ℕ → Entry → View
shown ram flash a E.Absent = Absent
shown ram flash a E.Reserved = Reserved
shown ram flash a (E.Pointer P) = Absent
shown ram flash a (E.Page t P) =
    let bytes = page_bytes ram flash P.0 in choose (eqb (length bytes) 0) (Outside t) (Page t (get_or bytes (a % 4096) 0))

-- what is seen at address a by way of the root table at physical page number `root`
unfoldable pub seen_from : Memory → Memory → ℕ → ℕ → View
seen_from ram flash root a = shown ram flash a (walk ram root a)

-- the physical page number of process q's root, by the order of pages
unfoldable pub root_of : Image → Memory → ℕ → ℕ
root_of x r q = phys_page x.block (xip_of x) (pages_in (memory_area r)) (root_table q)

-- what process q sees after the call
unfoldable pub process_sees : Image → Memory → ℕ → ℕ → View
process_sees x r q a = seen_from (after x r) x.flash (root_of x r q) a

-- all definitions of this file, to be unfolded as one
unfoldable pub view_rules : Unit {0}
unfolding section_byte byte_at view_of sees sees_on section_view shown seen_from root_of process_sees
view_rules = tt
