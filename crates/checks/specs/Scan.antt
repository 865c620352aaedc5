-- The checks in their order, all but 12.
use Rattle.std.specs.Prelude.{List, [], ◌∷◌, ◌++◌, ℕ, ◌≤◌}
use Rattle.types.specs.declared.Area.{Area}
use Rattle.rules.specs.Block.{process_count, section_count, region_count}
use Rattle.rules.specs.Refusals.{Check, records, lent_checks, header_checks, process_check, section_check, entry_point_check, region_check}

-- no count is over 01's bound: what 4 leaves, as far as an offset needs it
pub record Counted (b : List ℕ) : Type 0 where
  pub few_processes : process_count b ≤ 16
  pub few_sections : section_count b ≤ 64
  pub few_regions : region_count b ≤ 32

-- 6 to 11
unfoldable pub record_checks : List ℕ → Area → Area → List Check
record_checks b flash ram =
    records (process_count b) (process_check b)
    ∷ records (section_count b) (section_check b flash.length)
    ∷ records (process_count b) (entry_point_check b)
    ∷ records (region_count b) (region_check b flash ram)
    ∷ []

-- all but 12
unfoldable pub checks_before12 : List ℕ → Area → Area → List Check
checks_before12 b flash ram = lent_checks flash ram ++ (header_checks b ++ record_checks b flash ram)
