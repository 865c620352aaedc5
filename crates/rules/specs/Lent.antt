-- 01, "The job and its edges": what the loader is lent, and where it lies.
use Rattle.std.specs.Prelude.{Bool, ◌&&◌, List, ℕ, ◌+◌, ◌*◌, ◌/◌, min, max, length, leb, ltb}
use Rattle.types.specs.declared.Area.{Area}
use Rattle.types.specs.declared.PageRange.{PageRange}

-- a memory, RAM or flash: the physical address where it starts, and its bytes
pub record Memory : Type 0 where
  pub start : ℕ
  pub bytes : List ℕ

-- what is to be loaded: the bytes of the boot block, and flash, whose bytes are the image
pub record Image : Type 0 where
  pub block : List ℕ
  pub flash : Memory

-- the same, from what a call is lent
abbrev pub memory_of : ℕ → List ℕ → Memory
memory_of start bytes = record { start = start; bytes = bytes }

abbrev pub image_of : List ℕ → ℕ → List ℕ → Image
image_of b start flash = record { block = b; flash = memory_of start flash }

-- AREAS of physical addresses
abbrev pub area_of : ℕ → ℕ → Area
area_of start len = record { start = start; length = len }

abbrev pub memory_area : Memory → Area
memory_area m = area_of m.start (length m.bytes)

-- the 4,096 bytes of physical page P
abbrev pub page_area : ℕ → Area
page_area P = area_of (4096 * P) 4096

-- the address after the last, a whole number
abbrev pub end_of : Area → ℕ
end_of a = a.start + a.length

-- the pages of an area, counted from its start
abbrev pub pages_in : Area → PageRange
pages_in a = record { base = a.start / 4096; pages = a.length / 4096 }

-- the first area lies wholly in the second
unfoldable pub lies_in : Area → Area → Bool
lies_in a c = leb c.start a.start && leb (end_of a) (end_of c)

-- some address is in both
unfoldable pub share_address : Area → Area → Bool
share_address a c = ltb (max a.start c.start) (min (end_of a) (end_of c))

-- all definitions of this file, to be unfolded as one
unfoldable pub area_rules : Unit {0}
unfolding lies_in share_address
area_rules = tt
