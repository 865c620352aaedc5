-- 01, "Entries": the reader, which walks the tables by the Sv32 rules over any RAM `r`, any physical page number of a root table, any
-- 32-bit address. 02, A6: the bytes of the page that it finds.
use Rattle.std.specs.Prelude.{List, [], ℕ, ◌+◌, ◌-◌, ◌*◌, ◌/◌, ◌%◌, get_or, eqb}
use Rattle.notation.specs.Choice.{choose}
use Rattle.notation.specs.Lists.{tab}
use Rattle.notation.specs.Words.{word}
use Rattle.types.specs.declared.Rights.{Rights}
use Rattle.types.specs.declared.Entry.{Entry}
use Rattle.types.specs.declared.Entry.TheVariants.{Absent, Reserved, Pointer, Page}
use Rattle.rules.specs.Lent.{Memory, memory_area, page_area, lies_in}
use Rattle.rules.specs.Entries.{decode}

-- entry i of the table at physical page number P: absent where the table is not wholly inside RAM
unfoldable pub table_entry : Memory → ℕ → ℕ → Entry
table_entry r P i = choose (lies_in (page_area P) (memory_area r)) (decode (word r.bytes (4096 * P - r.start + 4 * i))) Absent

-- the answer for a page: absent for write without read
unfoldable pub page_answer : Rights → ℕ → Entry
page_answer t P = choose t.write (choose t.read (Page t (record { 0 = P })) Absent) (Page t (record { 0 = P }))

-- the answer at an entry of a leaf table: absent for a pointer there
unfoldable pub leaf_answer : Entry → Entry
leaf_answer Absent = Absent
leaf_answer Reserved = Reserved
leaf_answer (Pointer P) = Absent
leaf_answer (Page t P) = page_answer t P.0

-- the answer at an entry of a root table, for index i of the next level. A page there has 4 MiB, and is absent where the low ten bits
-- of its number are not zero
unfoldable pub root_answer : Memory → ℕ → Entry → Entry
root_answer r i Absent = Absent
root_answer r i Reserved = Reserved
root_answer r i (Pointer P) = leaf_answer (table_entry r P.0 i)
root_answer r i (Page t P) = choose (eqb (P.0 % 1024) 0) (page_answer t (P.0 + i)) Absent

-- the walk from the root table at physical page number `root` at an address: absent, reserved, or a page by its rights and the
-- physical number of the 4,096-byte page that holds the address, inside RAM or not
unfoldable pub walk : Memory → ℕ → ℕ → Entry
walk r root a = root_answer r (a / 4096 % 1024) (table_entry r root (a / 4_194_304))

-- THE BYTES OF A PAGE
-- physical page P, as a part of a memory: empty where it does not lie wholly in it
unfoldable pub page_in : Memory → ℕ → List ℕ
page_in m P = choose (lies_in (page_area P) (memory_area m)) (tab 4096 (λ k. get_or m.bytes (4096 * P - m.start + k) 0)) []

-- as a part of RAM or of flash: RAM goes first if both hold it
unfoldable pub page_bytes : Memory → Memory → ℕ → List ℕ
page_bytes ram flash P = choose (lies_in (page_area P) (memory_area ram)) (page_in ram P) (page_in flash P)

-- the part for an answer of the walk: empty where it found no page
unfoldable pub entry_bytes : Memory → Memory → Entry → List ℕ
entry_bytes ram flash Absent = []
entry_bytes ram flash Reserved = []
entry_bytes ram flash (Pointer P) = []
entry_bytes ram flash (Page t P) = page_bytes ram flash P.0

-- the part for the page at an address; the tables are looked for in RAM alone
unfoldable pub page_at : Memory → Memory → ℕ → ℕ → List ℕ
page_at ram flash root a = entry_bytes ram flash (walk ram root a)
