-- The number that 01 and 02 give each refusal.
use Rattle.std.specs.Prelude.{ℕ}
use Rattle.refusals.specs.declared.Refusal.{Refusal}
use Rattle.refusals.specs.declared.Refusal.TheVariants.{RamUnfit, BlockTooShort, FormatUnknown, CountsOutOfBounds, LayoutNotTight, ProcessUnfit, SectionUnfit, SectionMisplaced, SectionPastFlash, EntryPointOutside, RegionUnfit, RamTooSmall, FlashUnfit, ListsUnfit, BufferTooShort}

abbrev pub number_of : Refusal → ℕ
number_of RamUnfit = 1
number_of BlockTooShort = 2
number_of FormatUnknown = 3
number_of CountsOutOfBounds = 4
number_of LayoutNotTight = 5
number_of ProcessUnfit = 6
number_of SectionUnfit = 7
number_of SectionMisplaced = 8
number_of SectionPastFlash = 9
number_of EntryPointOutside = 10
number_of RegionUnfit = 11
number_of RamTooSmall = 12
number_of FlashUnfit = 13
number_of ListsUnfit = 21
number_of BufferTooShort = 22
