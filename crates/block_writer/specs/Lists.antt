-- What the writer's parts do: the lists that a call is lent, what 21 leaves of them, process records in a list of words, refusal 6 of them, and the block at the start of a buffer.
use Rattle.std.specs.Prelude.{List, [], ◌∷◌, ◌++◌, ℕ, ◌+◌, ◌*◌, ◌/◌, length, get_or, drop, ◌≡◌, ◌≤◌}
use Rattle.notation.specs.Lists.{sum}
use Rattle.types.specs.declared.Process.{Process}
use Rattle.rules.specs.Answers.{RecordCheck, Verdict}
use Rattle.rules.specs.Refusals.{process_record_check, records, first_refusal}
use Rattle.rules.specs.Block.{length_for}
use Rattle.rules.specs.Writer.{Records, records_in, processes_in, sections_in, regions_in, block_of}
use Rattle.block_writer.specs.declared.Lists.{Lists}

-- the lists that a call is lent
abbrev pub records_lent : Lists → Records
records_lent l = records_in l.processes.now l.sections.now l.regions.now

-- the length of their block
abbrev pub block_length : Records → ℕ
block_length l = length_for (processes_in l) (sections_in l) (regions_in l)

-- what 21 leaves, in words; the length is 32 bytes and four for each word
pub record Few (l : Records) : Type 0 where
  pub process_words_is : length l.processes ≤ 64
  pub section_words_is : length l.sections ≤ 256
  pub region_words_is : length l.regions ≤ 64
  pub length_is : block_length l ≡ 32 + 4 * (length l.processes + length l.sections + length l.regions)

-- process record i of the list
unfoldable pub process_in : List ℕ → ℕ → Process
process_in ws i = record {
  entry_point = get_or ws (4 * i) 0;
  first_section = get_or ws (4 * i + 1) 0;
  sections = get_or ws (4 * i + 2) 0;
  kind_word = get_or ws (4 * i + 3) 0;
}

-- the sum of the section counts of the first n process records
unfoldable pub sections_before_in : List ℕ → ℕ → ℕ
sections_before_in ws n = sum n (λ i. (process_in ws i).sections)

-- the check for 6 of process record i, where there are s sections
unfoldable pub check_in : List ℕ → ℕ → ℕ → RecordCheck
check_in ws s i = process_record_check (process_in ws i) i (length ws / 4) (sections_before_in ws i) s

-- the first refusal 6
unfoldable pub process_refusal : List ℕ → ℕ → Verdict
process_refusal ws s = first_refusal (records (length ws / 4) (check_in ws s) ∷ [])

-- the buffer with the block of l at its start
unfoldable pub block_at_start : Records → List ℕ → List ℕ
block_at_start l buffer = block_of l ++ drop (length (block_of l)) buffer
