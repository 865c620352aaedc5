-- What a list holds after a write: it keeps its length, and index k has what the rule says.
use Rattle.std.specs.Prelude.{◌&&◌, List, ℕ, ◌+◌, ◌-◌, length, get_or, leb, ltb}
use Rattle.notation.specs.Choice.{choose}
use Rattle.notation.specs.Lists.{tab}

-- d with s from index `at` on, as much of s as d has room for
unfoldable pub copied : List ℕ → ℕ → List ℕ → List ℕ
copied d at s = tab (length d) (λ k. choose (leb at k && ltb k (at + length s)) (get_or s (k - at) 0) (get_or d k 0))

-- d with v at each index from `from` up to and without `to`
unfoldable pub filled : List ℕ → ℕ → ℕ → ℕ → List ℕ
filled d from to v = tab (length d) (λ k. choose (leb from k && ltb k to) v (get_or d k 0))
