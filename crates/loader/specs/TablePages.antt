-- What the code of the table pages has to know.
use Rattle.std.specs.Prelude.{◌≡◌, Bool, true, List, [], ◌∷◌, ℕ, ◌-◌, ◌%◌, ◌<◌}
use Rattle.notation.specs.Choice.{choose}
use Rattle.types.specs.declared.PageRange.{PageRange}
use Rattle.rules.specs.Order.{Use, leaf_table, has_leaf}
use Rattle.rules.specs.Entries.{pointer_entry}
use Rattle.rules.specs.Load.{phys_page}
use Rattle.order_laws.specs.Places.{leaves_below}

-- the leaf table of process q for root slot m, if it has one
unfoldable pub leaf_uses : List ℕ → ℕ → ℕ → List Use
leaf_uses b q m = choose (has_leaf b q m) (leaf_table q m ∷ []) []

-- entry m of a root table that points to the leaf tables of process q alone: they lie from physical page `first` downwards
unfoldable pub leaf_pointer : List ℕ → ℕ → ℕ → ℕ → ℕ
leaf_pointer b q first m = choose (has_leaf b q m) (pointer_entry ((first - leaves_below b q m) % 0x40_0000)) 0

-- the leaf tables of process q lie from physical page `first` downwards, and the kernel's is at `kernel`
pub record LeavesAt (b : List ℕ) (xip : ℕ → Bool) (ram : PageRange) (q first kernel : ℕ) : Type 0 where
  pub leaf : (m : ℕ) → m < 1024 → has_leaf b q m ≡ true → phys_page b xip ram (leaf_table q m) ≡ first - leaves_below b q m
  pub small : first < 0x40_0000
  pub kernel_leaf : kernel ≡ phys_page b xip ram (leaf_table 1 1023)
  pub kernel_small : kernel < 0x40_0000
