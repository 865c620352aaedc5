-- Reading a process record.
use Rattle.std.specs.Prelude.{◌≡◌, List, ℕ, ◌+◌, ◌-◌}
use Rattle.std.proofs.Common.{arith}
use Rattle.rules.specs.Block.{entry_point_of, first_section_of, sections_of, kind_word_of, process_at}
use Rattle.types.specs.declared.Process.{Process}
use Rattle.block_records.specs.Read.{IsProcess}

-- process q has record q - 1; process 0 would have that of process 1
pub process_of_record : (b : List ℕ) (q i : ℕ) (r : Process) → i ≡ q - 1 → IsProcess b (i + 1) r → IsProcess b q r
unfolding entry_point_of first_section_of sections_of kind_word_of process_at
process_of_record b q i r e is =
    let s : i + 1 - 1 ≡ q - 1 = omega arith in
    record {
      entry_point = rw s at is.entry_point;
      first_section = rw s at is.first_section;
      sections_of_is = rw s at is.sections_of_is;
      kind_word = rw s at is.kind_word;
    }
