-- What a list holds after words are stored: it keeps its length, and index k has what the rule says.
use Rattle.std.specs.Prelude.{◌&&◌, List, ℕ, ◌+◌, ◌-◌, ◌*◌, ◌/◌, ◌%◌, length, get_or, leb, ltb}
use Rattle.notation.specs.Choice.{choose}
use Rattle.notation.specs.Lists.{tab}
use Rattle.notation.specs.Words.{byte_of}

-- d with the word w at index `at`, little-endian; d itself where there is no room for all four bytes
unfoldable pub with_word : List ℕ → ℕ → ℕ → List ℕ
with_word d at w = tab (length d) (λ k. choose (leb (at + 4) (length d) && (leb at k && ltb k (at + 4))) (byte_of w (k - at)) (get_or d k 0))

-- d with the words ws from its start on, little-endian, as many bytes of them as d has room for
unfoldable pub with_words : List ℕ → List ℕ → List ℕ
with_words d ws = tab (length d) (λ k. choose (ltb k (4 * length ws)) (byte_of (get_or ws (k / 4) 0) (k % 4)) (get_or d k 0))
