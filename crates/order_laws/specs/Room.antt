-- Room for the order of pages, in RAM that has the pages needed.
use Rattle.std.specs.Prelude.{◌≡◌, List, Bool, ℕ, ◌+◌, ◌-◌, ◌≤◌}
use Rattle.std.proofs.Common.{arith}
use Rattle.rules.specs.Block.{process_count}
use Rattle.rules.specs.Order.{uses, tracker_pages, pages_needed}
use Rattle.laws.specs.Counts.{sum_le}
use Rattle.order_laws.specs.Places.{tracker_place, table_count, tables_before, root_place, tables_before_next, order_count}

pub needed_parts : (b : List ℕ) (xip : ℕ → Bool) (N : ℕ) → pages_needed b xip N ≡ tracker_place b xip + tracker_pages b N + 2 + tables_before b (process_count b)
unfolding pages_needed uses
needed_parts b xip N = order_count b xip (tracker_pages b N)

-- the place after all tables
pub needed_place : (b : List ℕ) (xip : ℕ → Bool) (N : ℕ) → pages_needed b xip N ≡ root_place b xip (tracker_pages b N) (process_count b + 1)
unfolding root_place
needed_place b xip N = let s : process_count b + 1 - 1 ≡ process_count b = omega arith in rw s (needed_parts b xip N)

tables_before_le : (b : List ℕ) (m n : ℕ) → m ≤ n → tables_before b m ≤ tables_before b n
unfolding tables_before
tables_before_le b m n h = sum_le m n _ h

-- the tables of process q end inside RAM
pub tables_room : (b : List ℕ) (xip : ℕ → Bool) (N q : ℕ) → pages_needed b xip N ≤ N → 1 ≤ q → q ≤ process_count b → root_place b xip (tracker_pages b N) q + table_count b q ≤ N
unfolding root_place
tables_room b xip N q enough lo hi =
    let s : q - 1 + 1 ≡ q = omega arith in
    let t : tables_before b q ≡ tables_before b (q - 1) + table_count b q = rw s at (tables_before_next b (q - 1)) in
    omega (arith, needed_parts b xip N, tables_before_le b q (process_count b) hi)
