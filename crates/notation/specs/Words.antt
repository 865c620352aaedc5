-- Words of 32 bits, little-endian.
use Rattle.std.specs.Prelude.{Bool, List, [], ◌∷◌, ℕ, ◌+◌, ◌*◌, ◌/◌, ◌%◌, ◌^◌, get_or, eqb}

-- the word whose first byte is byte k of the list; a byte past the list's end counts as 0
unfoldable pub word : List ℕ → ℕ → ℕ
word l k = get_or l k 0 + 256 * get_or l (k + 1) 0 + 65536 * get_or l (k + 2) 0 + 16777216 * get_or l (k + 3) 0

-- byte c of the word n, c from 0 to 3
unfoldable pub byte_of : ℕ → ℕ → ℕ
byte_of n c = n / 256 ^ c % 256

-- the bytes of words, one word after the other
unfoldable pub bytes_of : List ℕ → List ℕ
bytes_of [] = []
bytes_of (w ∷ ws) = byte_of w 0 ∷ byte_of w 1 ∷ byte_of w 2 ∷ byte_of w 3 ∷ bytes_of ws

-- the bit of weight k of the word n is set
abbrev pub bit : ℕ → ℕ → Bool
bit n k = eqb (n / k % 2) 1

-- all definitions of this file, to be unfolded as one
unfoldable pub words : Unit {0}
unfolding word byte_of bytes_of
words = tt
