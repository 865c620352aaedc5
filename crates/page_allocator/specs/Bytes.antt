-- The bytes of a page in RAM: as many of them as RAM has.
use Rattle.std.specs.Prelude.{ℕ, List, ◌+◌, ◌-◌, ◌*◌, min, length}
use borrow.Rule.Slice.PartMut.{mid_of, put_mid}

-- where page k begins, and where it ends
abbrev pub page_start : List ℕ → ℕ → ℕ
page_start ram k = min (k * 4096) (length ram)

abbrev pub page_size : List ℕ → ℕ → ℕ
page_size ram k = min (page_start ram k + 4096) (length ram) - page_start ram k

-- the bytes of page k
abbrev pub page_bytes : List ℕ → ℕ → List ℕ
page_bytes ram k = mid_of (page_start ram k) (page_size ram k) ram

-- RAM with other bytes in their place
abbrev pub with_page : List ℕ → ℕ → List ℕ → List ℕ
with_page ram k page = put_mid (page_start ram k) (page_size ram k) ram page
