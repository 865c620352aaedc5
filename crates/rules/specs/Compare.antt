-- 01, "What the promises have to decide": what demand 3 compares at an address, on a RAM with T tracker pages and a new RAM, with as
-- many pages or more, with T'.
use Rattle.std.specs.Prelude.{◌≡◌, Bool, ◌&&◌, List, ℕ, ◌-◌, ◌*◌, ◌/◌, ◌%◌, ltb, eqb}
use Rattle.notation.specs.Choice.{choose}
use Rattle.types.specs.declared.View.{View}
use Rattle.types.specs.declared.View.TheVariants.{Absent, Reserved, Page, Outside}
use Rattle.rules.specs.Block.{process_count}
use Rattle.rules.specs.Space.{in_tracker}

pub data Compared : Type 0 where
  everything : Compared
  rights_only : Compared
  nothing : Compared

-- address a is a byte of a satp word on the process list's page
unfoldable pub at_satp : List ℕ → ℕ → Bool
at_satp b a =
    let k = a - 0xFFF8_0000 in
    eqb (a / 4096) 0xFFF80 && (ltb k (12 * process_count b) && eqb (k / 4 % 3) 0)

-- on the tracker pages that both have only the rights, on a page that only the new RAM's tracker has nothing, at the satp words only
-- the rights, everywhere else everything
unfoldable pub compared : List ℕ → ℕ → ℕ → ℕ → Compared
compared b T T' a =
    choose (in_tracker T (a / 4096)) rights_only
    (choose (in_tracker T' (a / 4096)) nothing
    (choose (at_satp b a) rights_only everything))

-- a view with its byte left out
unfoldable pub without_byte : View → View
without_byte Absent = Absent
without_byte Reserved = Reserved
without_byte (Page t x) = Page t 0
without_byte (Outside t) = Outside t

-- the two views agree in what is compared
abbrev pub Agree : Compared → View → View → Type 0
Agree everything v v' = v ≡ v'
Agree rights_only v v' = without_byte v ≡ without_byte v'
Agree nothing v v' = Unit {0}
