-- Text in a lent buffer, and numbers as text.
use Rattle.std.specs.Prelude.{◌≡◌, List, ◌++◌, ℕ, ◌+◌, ◌^◌, min, length, ltb}
use Rattle.io.specs.Digits.{last_digits}
use Rattle.notation.specs.Lists.{tab, count_before}
use Rattle.stores.specs.Writes.{copied}

-- ys is xs with the text t from index `at` on, as much of it as there is room for; r is the index after it, the end of xs where
-- it does not all fit
pub record Appended (xs : List ℕ) (at : ℕ) (t ys : List ℕ) (r : ℕ) : Type 0 where
  pub bytes_are : ys ≡ copied xs at t
  pub end_is : r ≡ min (at + length t) (length xs)

-- NUMBERS
-- how many digits n has in base b: 0 has one. A number of 64 bits has at most 20
unfoldable pub places : ℕ → ℕ → ℕ
places b n = 1 + count_before (λ k. ltb n (b ^ (k + 1))) (tab 20 (λ k. k))

-- n in base b, small letters, no leading zeros
unfoldable pub numeral : ℕ → ℕ → List ℕ
numeral b n = last_digits b (places b n) n

-- two numbers in a text: before, between and after them
unfoldable pub two_numbers : List ℕ → ℕ → List ℕ → ℕ → List ℕ → List ℕ
two_numbers before n between m after = before ++ (numeral 10 n ++ (between ++ (numeral 10 m ++ after)))
