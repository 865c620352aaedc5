-- The page at a place.
use Rattle.std.proofs.Common.{◌≡◌, ℕ, ◌+◌, ◌-◌, ◌%◌, ◌≤◌, arith}
use Rattle.types.specs.declared.PageRange.{PageRange}

-- where RAM ends within 32 bits it is told as it is
pub page_inside : (ram : PageRange) (place P : ℕ) → P ≡ (ram.base + (ram.pages - 1 - place)) % 0x1_0000_0000 → ram.base + ram.pages ≤ 0x10_0000
    → P ≡ ram.base + (ram.pages - 1 - place)
page_inside ram place P e h = omega arith
