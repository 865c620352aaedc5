-- A refusal's number is not 0.
use Rattle.std.proofs.Common.{◌≢◌, ◌≤◌, arith}
use Rattle.refusals.specs.declared.Refusal.{Refusal}
use Rattle.refusals.specs.declared.Refusal.TheVariants.{RamUnfit, BlockTooShort, FormatUnknown, CountsOutOfBounds, LayoutNotTight, ProcessUnfit, SectionUnfit, SectionMisplaced, SectionPastFlash, EntryPointOutside, RegionUnfit, RamTooSmall, FlashUnfit, ListsUnfit, BufferTooShort}
use Rattle.refusals.specs.Numbers.{number_of}

some_number : (r : Refusal) → 1 ≤ number_of r
some_number RamUnfit = omega arith
some_number BlockTooShort = omega arith
some_number FormatUnknown = omega arith
some_number CountsOutOfBounds = omega arith
some_number LayoutNotTight = omega arith
some_number ProcessUnfit = omega arith
some_number SectionUnfit = omega arith
some_number SectionMisplaced = omega arith
some_number SectionPastFlash = omega arith
some_number EntryPointOutside = omega arith
some_number RegionUnfit = omega arith
some_number RamTooSmall = omega arith
some_number FlashUnfit = omega arith
some_number ListsUnfit = omega arith
some_number BufferTooShort = omega arith

pub number_given : (r : Refusal) → number_of r ≢ 0
number_given r e = omega (arith, some_number r)
