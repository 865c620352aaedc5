-- Pages written one after the other, whatever they are used for.
use Rattle.std.specs.Prelude.{◌≡◌, List, ℕ, ◌-◌, ◌<◌, length}
use Rattle.notation.specs.Lists.{tab}
use Rattle.rules.specs.Order.{Use}
use Rattle.writing.specs.Uses.{Wrote}

-- RAM r₀ with n₀ pages left became r with n pages left when `count` pages were written, page i with the bytes `f i`. For any uses that
-- have these bytes they are written
pub record WrotePages (f : ℕ → ℕ → ℕ) (count : ℕ) (r₀ : List ℕ) (n₀ : ℕ) (r : List ℕ) (n : ℕ) : Type 0 where
  pub long : length r ≡ length r₀
  pub left : n ≡ n₀ - count
  pub uses : (c : Use → ℕ → ℕ) (u : ℕ → Use) → ((i o : ℕ) → o < 4096 → f i o ≡ c (u i) o) → Wrote c (tab count u) r₀ n₀ r n
