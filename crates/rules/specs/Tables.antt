-- 01, "Entries": the entries of every root and leaf table. `phys` gives the physical page number of a use, `page` that of a page of data.
use Rattle.std.specs.Prelude.{List, ℕ, ◌+◌, ◌*◌, eqb}
use Rattle.notation.specs.Choice.{choose}
use Rattle.rules.specs.Space.{Data, Mapping, unmapped, stack, maps, mapping_at}
use Rattle.rules.specs.Order.{Use, leaf_table, has_leaf}
use Rattle.rules.specs.Entries.{absent_entry, reserved_entry, pointer_entry, page_entry}

-- entry m of the root of process q: entry 1,023 of every root points to the kernel's leaf table
unfoldable pub root_entry : List ℕ → (Use → ℕ) → ℕ → ℕ → ℕ
root_entry b phys q m =
    choose (eqb m 1023) (pointer_entry (phys (leaf_table 1 1023)))
    (choose (has_leaf b q m) (pointer_entry (phys (leaf_table q m))) absent_entry)

unfoldable pub entry_for : (Data → ℕ) → Mapping → ℕ
entry_for page unmapped = absent_entry
entry_for page stack = reserved_entry
entry_for page (maps d t) = page_entry (page d) t

-- entry i of the leaf table of process q for root slot m, where the tracker has T pages
unfoldable pub leaf_entry : List ℕ → ℕ → (Data → ℕ) → ℕ → ℕ → ℕ → ℕ
leaf_entry b T page q m i = entry_for page (mapping_at b T q (1024 * m + i))

-- all definitions of this file, to be unfolded as one
unfoldable pub table_rules : Unit {0}
unfolding root_entry entry_for leaf_entry
table_rules = tt
