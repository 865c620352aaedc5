-- Words that were read.
use Rattle.std.specs.Prelude.{◌≡◌, List, ℕ, ◌+◌, get_or}
use Rattle.notation.specs.Words.{word}

-- r has the four words of l from index k on
pub record AreWords (l : List ℕ) (k : ℕ) (r : List ℕ) : Type 0 where
  pub first : get_or r 0 0 ≡ word l k
  pub second : get_or r 1 0 ≡ word l (k + 4)
  pub third : get_or r 2 0 ≡ word l (k + 8)
  pub fourth : get_or r 3 0 ≡ word l (k + 12)
