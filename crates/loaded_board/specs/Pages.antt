-- Pages by their numbers, and the words in them.
use Rattle.std.specs.Prelude.{ℕ, ◌+◌, ◌-◌, ◌*◌, ◌/◌, Option, Some, None}
use Rattle.types.specs.declared.PhysPage.{PhysPage}
use Rattle.types.specs.declared.Entry.{Entry}
use Rattle.types.specs.declared.Entry.TheVariants.{Absent, Reserved, Pointer, Page}
use Rattle.notation.specs.Words.{word}
use Rattle.rules.specs.Lent.{Memory}

-- the physical page of a page entry, and the leaf table that a pointer leads to; none of any other entry
abbrev pub page_of : Entry → Option PhysPage
page_of Absent = None
page_of Reserved = None
page_of (Pointer P) = None
page_of (Page t P) = Some P

abbrev pub leaf_of : Entry → Option PhysPage
leaf_of Absent = None
leaf_of Reserved = None
leaf_of (Pointer P) = Some P
leaf_of (Page t P) = None

-- word i of physical page P of a memory, whose first page P is below its start too
abbrev pub page_word : Memory → ℕ → ℕ → ℕ
page_word m P i = word m.bytes (4096 * (P - m.start / 4096) + 4 * i)
