-- The root slots that have a page of some sections, counted.
use Rattle.std.specs.Prelude.{◌≡◌, Bool, true, false, ◌&&◌, List, ℕ, ◌+◌, ◌≤◌, ◌<◌, leb}
use Rattle.notation.specs.Choice.{choose}
use Rattle.notation.specs.Lists.{exists, sum}
use Rattle.rules.specs.Order.{slots_of, in_slots}
use Rattle.laws.specs.Counts.{one}
use Rattle.order_leaves.specs.declared.Taken.{Taken}

-- one of the k section records from `first` on has a page in root slot m
unfoldable pub slot_taken : List ℕ → ℕ → ℕ → ℕ → Bool
slot_taken b first k m = exists (λ j. in_slots m (slots_of b (first + j))) k

-- the slots from a to z pass too
unfoldable pub with_slots : ℕ → ℕ → (ℕ → Bool) → ℕ → Bool
with_slots a z t m = choose (leb a m && leb m z) true (t m)

-- r counts the root slots that pass the test
pub record IsTaken (t : ℕ → Bool) (r : Taken) : Type 0 where
  pub slots_are : r.slots ≡ sum 1024 (λ m. one (t m))
  pub end_low : r.end ≤ 1024
  pub none_after : (m : ℕ) → r.end ≤ m → m < 1024 → t m ≡ false
