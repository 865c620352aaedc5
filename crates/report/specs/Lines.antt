-- The lines of the listing.
use Rattle.std.specs.Prelude.{List, [], ◌∷◌, ◌++◌, ℕ}
use Rattle.text.specs.Text.{numeral, two_numbers}

-- `boot N pages, F free`
unfoldable pub boot_line : ℕ → ℕ → List ℕ
boot_line N free = two_numbers
    (98 ∷ 111 ∷ 111 ∷ 116 ∷ 32 ∷ []) N
    (32 ∷ 112 ∷ 97 ∷ 103 ∷ 101 ∷ 115 ∷ 44 ∷ 32 ∷ []) free
    (32 ∷ 102 ∷ 114 ∷ 101 ∷ 101 ∷ 10 ∷ [])

-- `pid Q pages M root HEX`
unfoldable pub process_line : ℕ → ℕ → ℕ → List ℕ
process_line q m root = two_numbers
    (112 ∷ 105 ∷ 100 ∷ 32 ∷ []) q
    (32 ∷ 112 ∷ 97 ∷ 103 ∷ 101 ∷ 115 ∷ 32 ∷ []) m
    (32 ∷ 114 ∷ 111 ∷ 111 ∷ 116 ∷ 32 ∷ [])
    ++ (numeral 16 root ++ (10 ∷ []))
