-- What a plan puts on its pages, and where.
use Rattle.std.specs.Prelude.{Bool, List, ℕ, ◌+◌, ◌-◌, ◌*◌, ◌/◌, get_or}
use Rattle.rules.specs.Space.{Data}
use Rattle.rules.specs.Order.{Use, tracker_pages}
use Rattle.rules.specs.Tables.{root_entry, leaf_entry}
use Rattle.rules.specs.Contents.{tracker, process_list_byte}
use Rattle.rules.specs.Load.{phys_page, data_page, satp_word, table_byte}
use Rattle.order_laws.specs.Places.{tracker_place, root_place}
use Rattle.writing.specs.Loaded.{WroteAny}
use Rattle.xip_sections.specs.Marks.{marked}
use Rattle.loader.specs.declared.plan.Plan.{Plan}

-- which sections are used in place
abbrev pub in_flash : Plan → ℕ → Bool
in_flash p = marked p.block.xip.now

-- the pages of the tracker
abbrev pub tracker_size : Plan → ℕ
tracker_size p = tracker_pages p.block.bytes.now p.range.pages

-- the places of the tracker, and of the root table of process q
abbrev pub tracker_at : Plan → ℕ
tracker_at p = tracker_place p.block.bytes.now (in_flash p)

abbrev pub root_at : Plan → ℕ → ℕ
root_at p q = root_place p.block.bytes.now (in_flash p) (tracker_size p) q

-- the pages left once the tracker is written, and when process q's root table is next
abbrev pub left_at_list : Plan → ℕ
left_at_list p = p.range.pages - (tracker_at p + tracker_size p)

abbrev pub left_at_root : Plan → ℕ → ℕ
left_at_root p q = p.range.pages - root_at p q

-- the physical page of a use, and of a page of data
abbrev pub page_of_use : Plan → Use → ℕ
page_of_use p = phys_page p.block.bytes.now (in_flash p) p.range

abbrev pub page_of_data : Plan → Data → ℕ
page_of_data p = data_page p.block.bytes.now (in_flash p) (p.flash_start / 4096) p.range

-- bytes: of page i of the tracker, of the process list, and of the root table of process q
abbrev pub tracker_bytes : Plan → ℕ → ℕ → ℕ
tracker_bytes p i o = get_or (tracker p.block.bytes.now (in_flash p) p.range.pages) (4096 * i + o) 0

abbrev pub list_bytes : Plan → ℕ → ℕ
list_bytes p = process_list_byte p.block.bytes.now (satp_word p.block.bytes.now (in_flash p) p.range)

abbrev pub root_bytes : Plan → ℕ → ℕ → ℕ
root_bytes p q = table_byte (root_entry p.block.bytes.now (page_of_use p) q)

-- the entries of the leaf table of process q for root slot m
abbrev pub leaf_entries_of : Plan → ℕ → ℕ → ℕ → ℕ
leaf_entries_of p q m = leaf_entry p.block.bytes.now (tracker_size p) (page_of_data p) q m

-- the pages of these uses are written: RAM's bytes and the pages left, before and after
abbrev pub Loads : Plan → List Use → List ℕ → ℕ → List ℕ → ℕ → Type 0
Loads p = WroteAny p.block.bytes.now (in_flash p) p.flash_start p.range
