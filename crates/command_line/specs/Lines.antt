-- The line that a program says on standard error, and its parts.
use Rattle.std.specs.Prelude.{◌==◌, ◌≡◌, ◌≤◌, ◌⊎◌, List, ◌++◌, ℕ, codes, length, if◌then◌else◌, Option, Some, None, Result, Ok, Err}
use Rattle.std.specs.Borrow.{Bor}
use Rattle.std.specs.Str.{IsUtf8}

-- `PROGRAM: OF: WRONG`
abbrev pub complaint : List ℕ → List ℕ → List ℕ → List ℕ
complaint program of wrong = program ++ (codes ": " ++ (of ++ (codes ": " ++ wrong)))

-- a file name as it is shown: the empty one in quotes
abbrev pub shown_name : List ℕ → List ℕ
shown_name name = if length name == 0 then codes "''" else name

-- the words of a line are what stands before its first mark; all of the line where there is none
pub record IsBefore (mark line words : List ℕ) : Type 0 where
  pub cut : (line ≡ words) ⊎ ((rest : List ℕ) × (line ≡ words ++ (mark ++ rest)))
  pub first : (xs ys : List ℕ) → line ≡ xs ++ (mark ++ ys) → length words ≤ length xs

-- an argument that asks for help
abbrev pub AsksHelp : List ℕ → Type 0
AsksHelp argument = (argument ≡ codes "-h") ⊎ (argument ≡ codes "--help")

-- the file name in an argument; of none it is said that it is too long, and of one that is no text, that it is not in UTF-8
abbrev pub IsNameIn : Option (Bor (List ℕ)) → Result (Bor (List ℕ)) (Bor (List ℕ)) → Type 0
IsNameIn None (Ok name) = ⊥
IsNameIn None (Err wrong) = wrong.now ≡ codes "File name too long"
IsNameIn (Some text) (Ok name) = name.now ≡ text.now
IsNameIn (Some text) (Err wrong) = (¬ IsUtf8 text.now) × (wrong.now ≡ codes "File name not in UTF-8")
