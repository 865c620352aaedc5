-- The leaf tables of a process, one after the other.
use Rattle.std.specs.Prelude.{◌≡◌, Bool, true, false, List, ℕ, ◌+◌, ◌/◌, ◌≤◌, ◌<◌, min}
use Rattle.rules.specs.Block.{process_count, sections_of, section_record, last_page_of}
use Rattle.order_laws.specs.Places.{pages_before, process_pages, section_place}
use Rattle.accepted.specs.Sections.{Rising}

-- r is the first root slot from m on that passes the test, or 1,024 where none does
pub record First (t : ℕ → Bool) (m r : ℕ) : Type 0 where
  pub low : min m 1024 ≤ r
  pub high : r ≤ 1024
  pub before : (k : ℕ) → m ≤ k → k < r → t k ≡ false
  pub here : r < 1024 → t r ≡ true

-- a process of an accepted block: its sections rise, and their pages have places
pub record Walkable (b : List ℕ) (xip : ℕ → Bool) (q : ℕ) : Type 0 where
  pub low : 1 ≤ q
  pub high : q ≤ process_count b
  pub rising : Rising b
  pub room : section_place b xip q + process_pages b xip q ≤ 4096

-- the sections of process q before section j end below root slot m, and `place` is the place of section j's first page
pub record Passed (b : List ℕ) (xip : ℕ → Bool) (q m j place : ℕ) : Type 0 where
  pub inside : j ≤ sections_of b q
  pub below : (k : ℕ) → k < j → last_page_of b (section_record b q k) / 1024 < m
  pub at_place : place ≡ section_place b xip q + pages_before b xip q j
