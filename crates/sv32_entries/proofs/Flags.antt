-- The flags of an entry, by the rules' arithmetic.
use Rattle.std.proofs.Math.Decide.{ℕ_discrete}
use Rattle.std.proofs.Common.{◌≡◌, ℕ, ◌*◌, ◌/◌, ◌%◌, ◌^◌, Bool, true, false, bit_and, arith, refl, ◌∙◌, not, eqb, eq-eqb, ne_eqb}
use Rattle.std.proofs.lemmas.Nat.Bits.{and_high, and_pow}
use Rattle.std.proofs.lemmas.Nat.{pow_pos}
use Rattle.std.specs.Int.{from_bool}
use Rattle.notation.specs.Choice.{choose}

-- written
pub flag_or_none : (set : Bool) (weight : ℕ) → weight * from_bool set ≡ choose set weight 0
unfolding choose
flag_or_none true w = omega arith
flag_or_none false w = omega arith

-- read: the flag of weight 2 to the i
pub flag_is_bit : (e i : ℕ) → not (eqb (bit_and e (2 ^ i)) 0) ≡ eqb (e / 2 ^ i % 2) 1
flag_is_bit e i = let p = pow_pos i in rw and_pow (elim (ℕ_discrete (e / 2 ^ i % 2) 1) [
  | yes h ↦ rw (h, ne_eqb (1 * 2 ^ i) 0 (λ z. omega arith)) refl
  | no h ↦ let z : e / 2 ^ i % 2 ≡ 0 = omega arith in rw (z, eq-eqb (0 * 2 ^ i) 0 (omega arith)) refl
])

-- valid
pub valid_is_odd : (e : ℕ) → bit_and e 1 ≡ e % 2
valid_is_odd e = and_pow e 0 ∙ omega arith

-- read, write and execute
pub access_is : (e : ℕ) → bit_and e 14 ≡ e / 2 % 8 * 2
access_is e = and_high e 3 1
