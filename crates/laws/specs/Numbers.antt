-- Laws of numbers that `omega` does not find by itself.
use Rattle.std.specs.Prelude.{◌≡◌, ◌&&◌, ℕ, ◌+◌, ◌*◌, ◌/◌, ◌%◌, ◌<◌, leb, eqb}
use Rattle.std.proofs.Common.{sym, ap, ◌∙◌, mod-eq_of_lt, arith, eq-eqb, ne_eqb, le-leb}
use Rattle.std.proofs.Math.Nat.{div-div-eq-div-mul, mod-add-div}
use Rattle.std.proofs.Math.Decide.{dec_lt, ℕ_discrete}
use Rattle.std.proofs.lemmas.Bool.{lt-leb}

-- a word of four bytes, put together again
pub four_bytes : (n : ℕ)
    → n < 0x1_0000_0000
    → n % 256 + 256 * (n / 256 % 256) + 65536 * (n / 65536 % 256) + 16777216 * (n / 16777216 % 256) ≡ n
four_bytes n h =
    let d₀ : n % 256 + 256 * (n / 256) ≡ n = mod-add-div n 256 in
    let d₁ : n / 256 % 256 + 256 * (n / 65536) ≡ n / 256 = rw (div-div-eq-div-mul n 256 256) at (mod-add-div (n / 256) 256) in
    let d₂ : n / 65536 % 256 + 256 * (n / 16777216) ≡ n / 65536 = rw (div-div-eq-div-mul n 65536 256) at (mod-add-div (n / 65536) 256) in
    let d₃ : n / 16777216 % 256 ≡ n / 16777216 = mod-eq_of_lt (omega arith) in
    digits
    (n % 256)
    (n / 256 % 256)
    (n / 65536 % 256)
    (n / 16777216 % 256)
    (n / 256)
    (n / 65536)
    n
    d₀
    d₁
    (ap (λ (c : ℕ). n / 65536 % 256 + 256 * c) d₃ ∙ d₂)
  where
    digits : (x y z c a b n : ℕ) → x + 256 * a ≡ n → y + 256 * b ≡ a → z + 256 * c ≡ b → x + 256 * y + 65536 * z + 16777216 * c ≡ n
    digits x y z c a b n p q s = omega arith

-- four bytes put together, each taken out again
pub byte_0 : (a b c d : ℕ) → a < 256 → (a + 256 * b + 65536 * c + 16777216 * d) % 256 ≡ a
byte_0 a b c d h = omega arith

pub byte_1 : (a b c d : ℕ) → a < 256 → b < 256 → (a + 256 * b + 65536 * c + 16777216 * d) / 256 % 256 ≡ b
byte_1 a b c d h₀ h₁ = omega arith

pub byte_2 : (a b c d : ℕ) → a < 256 → b < 256 → c < 256 → (a + 256 * b + 65536 * c + 16777216 * d) / 65536 % 256 ≡ c
byte_2 a b c d h₀ h₁ h₂ = omega arith

pub byte_3 : (a b c d : ℕ) → a < 256 → b < 256 → c < 256 → d < 256 → (a + 256 * b + 65536 * c + 16777216 * d) / 16777216 % 256 ≡ d
byte_3 a b c d h₀ h₁ h₂ h₃ = omega arith

-- two pairs of numbers with the same distance are ordered alike
pub leb_shift : (x y x' y' : ℕ) → x + y' ≡ x' + y → leb x y ≡ leb x' y'
leb_shift x y x' y' e = elim (dec_lt y x) [
  | yes l ↦ lt-leb x y l ∙ sym (lt-leb x' y' (omega arith))
  | no l ↦ le-leb x y (omega arith) ∙ sym (le-leb x' y' (omega arith))
]

-- from k to k is k alone
pub leb_one : (k m : ℕ) → (leb k m && leb m k) ≡ eqb m k
leb_one k m = elim (ℕ_discrete m k) [
  | yes e ↦ rw (eq-eqb m k e, le-leb k m (omega arith), le-leb m k (omega arith))
  | no e ↦ elim (dec_lt m k) [
    | yes l ↦ rw (ne_eqb m k e, lt-leb k m l)
    | no l ↦ rw (ne_eqb m k e, le-leb k m (omega arith), lt-leb m k (omega arith))
  ]
]
