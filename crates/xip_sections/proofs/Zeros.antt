-- Bytes that are all zero.
use Rattle.std.specs.List.{range_with_len}
use Rattle.std.proofs.Common.{◌≡◌, ap, Bool, not, List, ℕ, ◌-◌, get_or, eqb}
use Rattle.laws.specs.Searches.{Any, rising, exists_by_any}
use Rattle.rules.specs.InPlace.{zero_between}

-- byte i is not 0
abbrev pub not_zero : List ℕ → ℕ → Bool
not_zero l i = not (eqb (get_or l i 0) 0)

pub zero_by_any : (l : List ℕ) (from to : ℕ) (r : Bool) → Any (not_zero l) (range_with_len from (to - from)) r → not r ≡ zero_between l from to
unfolding zero_between
zero_by_any l from to r h = ap not (exists_by_any (not_zero l) r (rising from (to - from)) h)
