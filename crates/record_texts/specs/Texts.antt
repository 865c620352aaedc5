-- The records of a text, a line for each.
use Rattle.std.specs.Prelude.{Bool, ◌&&◌, List, [], ◌∷◌, ◌++◌, map, ℕ, eqb, length, get_or, drop, Option, Some, None, Result, Ok, Err}
use Rattle.std.specs.Result.{result_err}
use Rattle.notation.specs.Choice.{choose}
use Rattle.record_fields.specs.Fields.{before, pieces}
use Rattle.record_lines.specs.declared.Record.{Record}
use Rattle.record_lines.specs.declared.Record.TheVariants.{Process, Section, Region}
use Rattle.record_lines.specs.declared.Fault.{Fault}
use Rattle.record_lines.specs.Lines.{line_of, faulty}

-- LINES
-- a line feed ends a line
unfoldable pub line_feed : ℕ → Bool
line_feed c = eqb c 10

-- the bytes of a byte order mark (EF BB BF) at the very start
unfoldable pub mark_length : List ℕ → ℕ
mark_length t = choose (eqb (get_or t 0 0) 239 && (eqb (get_or t 1 0) 187 && eqb (get_or t 2 0) 191)) 3 0

-- the lines of a text
unfoldable pub lines : List ℕ → List (List ℕ)
lines t = pieces line_feed (drop (mark_length t) t)

-- what a line says: a record or none, or its fault
abbrev pub Line : Type 0
Line = Result (Option Record) Fault

-- what the lines say, up to and without the first that is at fault
unfoldable pub sound_lines : List ℕ → List Line
sound_lines t = before faulty (map line_of (lines t))

-- what is wrong with the first line that is at fault; none where none is
unfoldable pub fault_in : List ℕ → Option Fault
fault_in t = result_err (line_of (get_or (lines t) (length (sound_lines t)) []))

-- RECORDS
-- the words of a line's record, where it is of that kind
abbrev pub process_words : Line → List ℕ
process_words (Ok (Some (Process words))) = words
process_words (Ok (Some (Section words))) = []
process_words (Ok (Some (Region words))) = []
process_words (Ok None) = []
process_words (Err f) = []

abbrev pub section_words : Line → List ℕ
section_words (Ok (Some (Process words))) = []
section_words (Ok (Some (Section words))) = words
section_words (Ok (Some (Region words))) = []
section_words (Ok None) = []
section_words (Err f) = []

abbrev pub region_words : Line → List ℕ
region_words (Ok (Some (Process words))) = []
region_words (Ok (Some (Section words))) = []
region_words (Ok (Some (Region words))) = words
region_words (Ok None) = []
region_words (Err f) = []

-- the words of all lines, one after the other
unfoldable pub words_of : (Line → List ℕ) → List Line → List ℕ
words_of words [] = []
words_of words (l ∷ ls) = words l ++ words_of words ls
