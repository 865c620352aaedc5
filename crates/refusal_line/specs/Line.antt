-- The line of a refusal.
use Rattle.std.specs.Prelude.{List, [], ◌∷◌, ◌++◌, ℕ}
use Rattle.text.specs.Text.{numeral, two_numbers}

-- `refused N at P, byte B`
unfoldable pub refused_line : ℕ → ℕ → ℕ → List ℕ
refused_line number place offset = two_numbers
    (114 ∷ 101 ∷ 102 ∷ 117 ∷ 115 ∷ 101 ∷ 100 ∷ 32 ∷ []) number
    (32 ∷ 97 ∷ 116 ∷ 32 ∷ []) place
    (44 ∷ 32 ∷ 98 ∷ 121 ∷ 116 ∷ 101 ∷ 32 ∷ [])
    ++ (numeral 10 offset ++ (10 ∷ []))
