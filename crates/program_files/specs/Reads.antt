-- What a reader gives, where its bytes are known.
use Rattle.std.specs.Prelude.{◌≡◌, ◌<◌, ◌≤◌, List, ℕ, length, take, ⊤, Option, None, Some}
use Rattle.std.specs.Io.KnownBytes.{Consumes, IsAtEnd}
use Rattle.program_files.specs.declared.Contents.{Contents}
use Rattle.program_files.specs.declared.Contents.TheVariants.{Whole, Start}

-- buf begins with the n bytes that were read, and there were no more where it is not full
pub record Filled (old new : Option (List ℕ)) (buf : List ℕ) (n : ℕ) : Type 0 where
  pub consumed : Consumes old new (take n buf)
  pub ended : n < length buf → IsAtEnd new

-- all bytes; or there are more than there is room for, and it is the first of them
abbrev pub Holds : Option (List ℕ) → ℕ → Contents → Type 0
Holds None room c = ⊤
Holds (Some xs) room (Whole bytes) = bytes.now ≡ xs
Holds (Some xs) room (Start bytes) = (bytes.now ≡ take room xs) × (room < length xs)

-- no more bytes than there is room for
abbrev pub Within : ℕ → Contents → Type 0
Within room (Whole bytes) = length bytes.now ≤ room
Within room (Start bytes) = length bytes.now ≤ room
