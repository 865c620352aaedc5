-- Digits read one after the other.
use Rattle.std.proofs.Common.{◌≡◌, refl, ◌∙◌, List, [], ◌∷◌, Bool, true, false, not, ℕ, ◌+◌, ◌*◌, ◌≤◌, ◌<◌, leb, eqb, length, get_or, drop, Err, arith, add-one, drop-cons, Option, Some, None, le-leb, lt-ltb, le-ltb, eqb-true}
use Rattle.std.specs.Option.{SomeIff, ok_or}
use Rattle.std.proofs.Math.Decide.{dec_lt}
use Rattle.std.proofs.Math.ListN.{drop_of_length-le}
use Rattle.std.proofs.Math.Nat.{mul-le-mul_left}
use Rattle.std.specs.List.{list_all}
use Rattle.std.specs.Char.{digit_value, is_digit}
use Rattle.std.proofs.lemmas.Bool.Decides.{nat_tests}
use Rattle.std.proofs.lemmas.Bool.{lt-leb, eqb-false, ltb-true}
use Rattle.std.proofs.lemmas.List.{nil_from_length}
use Rattle.std.proofs.lemmas.List.Sums.{AllPass-from_list_all}
use Rattle.notation.specs.Choice.{choose}
use Rattle.notation.specs.Lists.{some_of}
use Rattle.numerals.specs.declared.Base.{Base}
use Rattle.numerals.specs.declared.Base.TheVariants.{Decimal, Hexadecimal}
use Rattle.numerals.specs.Numerals.{radix_of, between, digit, spelled, value_from, in_base}
use Rattle.numerals.specs.declared.NumberError.TheVariants.{TooLarge, NotNumber}

pub radix_in : (b : Base) (r : ℕ) → r ≡ radix_of b → (2 ≤ r) × (r ≤ 16)
radix_in Decimal r e = (omega arith, omega arith)
radix_in Hexadecimal r e = (omega arith, omega arith)

-- DIGIT, in a base of at most 16
digit_in : (b c : ℕ) → b ≤ 16 → digit_value c < b → digit_value c ≡ digit c
unfolding digit between choose
digit_in b c l h = grind (arith, nat_tests)

digit_is : (b c : ℕ) → b ≤ 16 → is_digit c b ≡ not (leb b (digit c))
unfolding digit between choose
digit_is b c l = grind (arith, nat_tests)

-- SPELLED
digits_are : (b : ℕ) (t : List ℕ) → b ≤ 16 → list_all (λ c. is_digit c b) t ≡ not (some_of (λ c. leb b (digit c)) t)
unfolding some_of choose
digits_are b [] l = refl
digits_are b (c ∷ t) l = elim (dec_lt (digit c) b) [
  | yes h ↦ rw (digit_is b c l, lt-leb b (digit c) h) (digits_are b t l)
  | no h ↦ rw (digit_is b c l, le-leb b (digit c) (omega arith))
]

choose_not : (a : Bool) → not a ≡ choose a false true
unfolding choose
choose_not true = refl
choose_not false = refl

pub spelled_some : (b : ℕ) (t : List ℕ) → b ≤ 16 → eqb (length t) 0 ≡ false → list_all (λ c. is_digit c b) t ≡ spelled b t
unfolding spelled
spelled_some b t l h = digits_are b t l ∙ rw (lt-ltb 0 (length t) (omega (arith, eqb-false (length t) 0 h))) (choose_not _)

pub spelled_none : (b : ℕ) (t : List ℕ) → eqb (length t) 0 ≡ true → false ≡ spelled b t
unfolding spelled some_of choose
spelled_none b t h = rw (nil_from_length t (eqb-true (length t) 0 h))

-- each element of a spelled text is a digit
pub spelled_at : (b : ℕ) (t : List ℕ) (i : ℕ) → b ≤ 16 → spelled b t ≡ true → i < length t → (digit_value (get_or t i 0) < b) × (digit_value (get_or t i 0) ≡ digit (get_or t i 0))
unfolding spelled choose
spelled_at b t i l e h =
    let one : digit_value (get_or t i 0) < b = ltb-true _ _ (AllPass-from_list_all (λ c. is_digit c b) t (digits_are b t l ∙ spelled_all _ _ e) i 0 h) in
    (one, digit_in b _ l one)
  where
    spelled_all : (a c : Bool) → choose a false c ≡ true → not a ≡ true
    spelled_all true c e = e
    spelled_all false c e = refl

-- VALUE-FROM: a number is no smaller for more digits
value_le : (b v : ℕ) (l : List ℕ) → 1 ≤ b → v ≤ value_from b v l
unfolding value_from
value_le b v [] h = omega arith
value_le b v (c ∷ l) h = omega (arith, value_le b (v * b + digit c) l h, mul-le-mul_left v h)

-- v is the number of the first i digits
module _ (b : ℕ) (l : List ℕ) where
  abbrev pub Valued : ℕ → ℕ → Type 0
  Valued v i = value_from b v (drop i l) ≡ value_from b 0 l

  -- one digit more, of a spelled text
  module _ (v i d : ℕ) (s : b ≤ 16) (t : spelled b l ≡ true) (p : Valued v i) (h : i < length l) (e : d ≡ digit_value (get_or l i 0)) where
    pub value_step : Valued (v * b + d) (i + 1)
    unfolding value_from
    value_step = rw (e, (spelled_at b l i s t h).1, add-one) (rw (drop-cons l i 0 h) at p)

    -- what is reached next is no larger than the number
    pub value_next : 1 ≤ b → v * b + d ≤ value_from b 0 l
    value_next o = omega (arith, value_le b (v * b + d) (drop (i + 1) l) o, value_step)

  pub value_all : (v i : ℕ) → Valued v i → length l ≤ i → v ≡ value_from b 0 l
  unfolding value_from
  value_all v i p h = rw (drop_of_length-le l {i = i} h) at p

-- IN-BASE
pub in_base_none : (b : ℕ) (t : List ℕ) → spelled b t ≡ false → Err NotNumber ≡ in_base b t
unfolding in_base choose
in_base_none b t e = rw e

pub in_base_value : (b : ℕ) (t : List ℕ) (o : Option ℕ) → spelled b t ≡ true → SomeIff o (value_from b 0 t < 4294967296) (value_from b 0 t) → ok_or o TooLarge ≡ in_base b t
unfolding in_base choose
in_base_value b t None e p = rw (e, le-ltb (value_from b 0 t) 4294967296 (omega arith))
in_base_value b t (Some v) e p = rw (e, lt-ltb (value_from b 0 t) 4294967296 p.0, p.1)
