-- A number that a text spells.
use Rattle.std.specs.Prelude.{Bool, false, ◌&&◌, List, [], ◌∷◌, ℕ, ◌+◌, ◌*◌, ◌-◌, eqb, leb, ltb, length, get_or, drop, Result, Ok, Err}
use Rattle.notation.specs.Choice.{choose, any}
use Rattle.notation.specs.Lists.{some_of}
use Rattle.numerals.specs.declared.Base.{Base}
use Rattle.numerals.specs.declared.Base.TheVariants.{Decimal, Hexadecimal}
use Rattle.numerals.specs.declared.NumberError.{NumberError}
use Rattle.numerals.specs.declared.NumberError.TheVariants.{TooLarge, NotNumber}

abbrev pub radix_of : Base → ℕ
radix_of Decimal = 10
radix_of Hexadecimal = 16

-- c is one of the bytes from a to b
unfoldable pub between : ℕ → ℕ → ℕ → Bool
between a b c = leb a c && leb c b

-- a digit's value: 0 to 9, A to F, a to f. Any other byte has 16, which is none in any base here
unfoldable pub digit : ℕ → ℕ
digit c =
    choose (between 48 57 c) (c - 48)
    (choose (between 65 70 c) (c - 55)
    (choose (between 97 102 c) (c - 87)
    16))

-- each byte is a digit in base b, and there is one
unfoldable pub spelled : ℕ → List ℕ → Bool
spelled b t = choose (some_of (λ c. leb b (digit c)) t) false (ltb 0 (length t))

-- v's digits in base b, and then those of the text
unfoldable pub value_from : ℕ → ℕ → List ℕ → ℕ
value_from b v [] = v
value_from b v (c ∷ t) = value_from b (v * b + digit c) t

-- the text as a number in base b
unfoldable pub in_base : ℕ → List ℕ → Result ℕ NumberError
in_base b t =
    let v = value_from b 0 t in
    choose (spelled b t) (choose (ltb v 4294967296) (Ok v) (Err TooLarge)) (Err NotNumber)

-- it starts with 0x or 0X
unfoldable pub marked : List ℕ → Bool
marked t = eqb (get_or t 0 0) 48 && any (eqb (get_or t 1 0) 120 ∷ eqb (get_or t 1 0) 88 ∷ [])

-- hexadecimal after 0x or 0X, else decimal
unfoldable pub number_of : List ℕ → Result ℕ NumberError
number_of t = choose (marked t) (in_base 16 (drop 2 t)) (in_base 10 t)
