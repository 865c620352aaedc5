-- The block that is written from a text of records, and the reply.
use Rattle.std.specs.Prelude.{Bool, List, [], ℕ, ◌+◌, ◌/◌, eqb, length, get_or, Option, Some, None}
use Rattle.notation.specs.Choice.{choose}
use Rattle.rules.specs.Answers.{Written}
use Rattle.rules.specs.Writer.{Records, records_in, processes_in, sections_in, regions_in, written, buffer_after}
use Rattle.record_lines.specs.Lines.{line_of, faulty}
use Rattle.record_texts.specs.declared.Read.{Read}
use Rattle.record_texts.specs.Texts.{lines, sound_lines, process_words, section_words, region_words, words_of}
use Rattle.refusal_line.specs.Line.{refused_line}
use Rattle.write_report.specs.Lines.{fault_line, block_line}

-- the first line that is at fault; no bytes where none is
unfoldable pub faulty_line : List ℕ → List ℕ
faulty_line t = get_or (lines t) (length (sound_lines t)) []

-- a line is at fault
unfoldable pub at_fault : List ℕ → Bool
at_fault t = faulty (line_of (faulty_line t))

-- the records of a text, where no line is at fault
unfoldable pub records_from : List ℕ → Records
records_from t =
    let ls = sound_lines t in
    records_in (words_of process_words ls) (words_of section_words ls) (words_of region_words ls)

-- the writer's answer as a line
unfoldable pub written_line : Records → Written → List ℕ
written_line l w =
    choose (eqb w.number 0)
    (block_line w.length (processes_in l) (sections_in l) (regions_in l))
    (refused_line w.number w.place w.offset)

-- the same, where so many words of records of each kind are held
abbrev pub held_line : Read → Written → List ℕ
held_line read w =
    choose (eqb w.number 0)
    (block_line w.length (read.processes / 4) (read.sections / 4) (read.regions / 2))
    (refused_line w.number w.place w.offset)

-- the reply, where the block's buffer has `room` bytes
unfoldable pub reply_to : List ℕ → ℕ → List ℕ
reply_to t room =
    choose (at_fault t)
    (fault_line (length (sound_lines t) + 1) (faulty_line t))
    (written_line (records_from t) (written (records_from t) room))

-- the block's length, none where none is written
unfoldable pub length_from : List ℕ → ℕ → Option ℕ
length_from t room =
    let w = written (records_from t) room in
    choose (at_fault t) None (choose (eqb w.number 0) (Some w.length) None)

-- the block's buffer after the call: as it came where a line is at fault
unfoldable pub buffer_from : List ℕ → List ℕ → List ℕ
buffer_from t buffer = choose (at_fault t) buffer (buffer_after (records_from t) buffer)
