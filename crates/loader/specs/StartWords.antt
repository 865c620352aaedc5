-- What a process starts with.
use Rattle.std.specs.Prelude.{List, [], ◌∷◌, ℕ, ◌%◌}
use Rattle.rules.specs.Block.{entry_point_of}
use Rattle.rules.specs.Entries.{satp_of}
use Rattle.rules.specs.Contents.{stack_pointer}

-- the words of process q with its root at physical page P: satp, entry point, stack pointer
unfoldable pub start_words : List ℕ → ℕ → ℕ → List ℕ
start_words b q P = satp_of q P % 0x1_0000_0000 ∷ entry_point_of b q ∷ stack_pointer q ∷ []
