-- 02, A2: the block writer, from lists of records to a boot block in a lent buffer.
use Rattle.std.specs.Prelude.{Bool, not, List, [], ◌∷◌, ◌++◌, ℕ, ◌+◌, ◌/◌, ◌%◌, length, drop, ltb, eqb}
use Rattle.notation.specs.Choice.{choose, any}
use Rattle.notation.specs.Lists.{gather}
use Rattle.notation.specs.Words.{bytes_of}
use Rattle.rules.specs.Answers.{Verdict, Written}
use Rattle.rules.specs.Block.{process_count, section_count, region_count, sections_from, regions_from, length_for}
use Rattle.rules.specs.Block.{entry_point_of, first_section_of, sections_of, kind_word_of, address, size, flash_offset_of, flags, region_start, region_pages}
use Rattle.rules.specs.Refusals.{counts_outside, Check, whole, first_refusal, process_checks}

-- LISTS OF RECORDS: their words one after the other, as in the block: four for a process, four for a section, two for a region
pub record Records : Type 0 where
  pub processes : List ℕ
  pub sections : List ℕ
  pub regions : List ℕ

-- the same, from what a call is lent
abbrev pub records_in : List ℕ → List ℕ → List ℕ → Records
records_in processes sections regions = record { processes = processes; sections = sections; regions = regions }

-- the records of a block
unfoldable pub records_of : List ℕ → Records
records_of b = records_in
    (gather (process_count b) (λ i. entry_point_of b (i + 1) ∷ first_section_of b (i + 1) ∷ sections_of b (i + 1) ∷ kind_word_of b (i + 1) ∷ []))
    (gather (section_count b) (λ n. address b n ∷ size b n ∷ flash_offset_of b n ∷ flags b n ∷ []))
    (gather (region_count b) (λ i. region_start b i ∷ region_pages b i ∷ []))

-- p, s and r. Where 21 is not given the lists are whole records (`bounded` in round_trips/WrittenBlock)
abbrev pub processes_in : Records → ℕ
processes_in l = length l.processes / 4

abbrev pub sections_in : Records → ℕ
sections_in l = length l.sections / 4

abbrev pub regions_in : Records → ℕ
regions_in l = length l.regions / 2

-- THE BLOCK of these records: the header, then the records. Where 21 is not given it has the tight length (`block_length` in
-- round_trips/WrittenBlock)
unfoldable pub header_words : ℕ → ℕ → ℕ → List ℕ
header_words p s r = 1 ∷ length_for p s r ∷ p ∷ 32 ∷ s ∷ sections_from p ∷ r ∷ regions_from p s ∷ []

unfoldable pub block_words : Records → List ℕ
block_words l = header_words (processes_in l) (sections_in l) (regions_in l) ++ (l.processes ++ (l.sections ++ l.regions))

unfoldable pub block_of : Records → List ℕ
block_of l = bytes_of (block_words l)

-- 21: a list is not whole records, or a count is outside 01's bounds
unfoldable pub lists_unfit : Records → Bool
lists_unfit l = any
    (not (eqb (length l.processes % 4) 0)
    ∷ not (eqb (length l.sections % 4) 0)
    ∷ not (eqb (length l.regions % 2) 0)
    ∷ counts_outside (processes_in l) (sections_in l) (regions_in l)
    ∷ [])

-- 22: a buffer of `room` bytes is under the tight length
unfoldable pub buffer_too_short : Records → ℕ → Bool
buffer_too_short l room = ltb room (length_for (processes_in l) (sections_in l) (regions_in l))

-- ALL CHECKS of the writer, in order: 21, 22, and 6 as in 01, of the block to be written
unfoldable pub writer_checks : Records → ℕ → List Check
writer_checks l room = whole 21 (lists_unfit l) ∷ whole 22 (buffer_too_short l room) ∷ process_checks (block_of l)

unfoldable pub writer_verdict : Records → ℕ → Verdict
writer_verdict l room = first_refusal (writer_checks l room)

-- the writer's answer: on success the length is the tight length, in a refusal 0; the offset is that in the block to be written
unfoldable pub written : Records → ℕ → Written
written l room =
    let v = writer_verdict l room in
    let n = length_for (processes_in l) (sections_in l) (regions_in l) in
    record { number = v.number; place = v.place; length = choose (eqb v.number 0) n 0; offset = v.offset }

-- the buffer after the call: on success the block, and beyond it the bytes that were there; in a refusal all bytes as they came
unfoldable pub buffer_after : Records → List ℕ → List ℕ
buffer_after l buffer = choose (eqb (writer_verdict l (length buffer)).number 0) (block_of l ++ drop (length (block_of l)) buffer) buffer

-- all definitions of this file, to be unfolded as one
unfoldable pub writer_rules : Unit {0}
unfolding records_of header_words block_words block_of lists_unfit buffer_too_short writer_checks writer_verdict written buffer_after
writer_rules = tt
