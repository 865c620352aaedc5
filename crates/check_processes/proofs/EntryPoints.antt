-- The search for the section of an entry point.
use Rattle.std.proofs.Common.{◌≡◌, ap, Bool, not, ◌&&◌, leb, ltb, List, ℕ, ◌+◌}
use Rattle.std.specs.List.{range_with_len}
use Rattle.laws.specs.Searches.{Any, rising, exists_by_any_below}
use Rattle.rules.specs.Block.{sections_of, section_record, entry_point_of, address, executable, section_end}
use Rattle.rules.specs.Refusals.{entry_point_outside}

-- section j of process record i is executable and has its entry point
abbrev pub enters : List ℕ → ℕ → ℕ → Bool
enters b i j =
    let n = section_record b (i + 1) j in
    executable b n && (leb (address b n) (entry_point_of b (i + 1)) && ltb (entry_point_of b (i + 1)) (section_end b n))

pub outside_by_any : (b : List ℕ) (i : ℕ) (r : Bool) → Any (enters b i) (range_with_len 0 (sections_of b (i + 1))) r → not r ≡ entry_point_outside b i
unfolding entry_point_outside
outside_by_any b i r h = ap not (exists_by_any_below (enters b i) r (rising 0 (sections_of b (i + 1))) h)
