-- What a record draws, told at its place.
use Rattle.std.proofs.Common.{◌≡◌, ◌≢◌, ℕ, ◌<◌, ◌%◌, refl, sym, arith, Option, Some, None}
use Rattle.rules.specs.Refusals.{refused}
use Rattle.refusals.specs.declared.Refusal.{Refusal}
use Rattle.refusals.specs.declared.Refused.{Refused}
use Rattle.refusals.specs.declared.RecordRefusal.{RecordRefusal}
use Rattle.refusals.specs.Answers.{check_of, number_or_0, refused_at, refused_of}
use Rattle.refusals.proofs.Given.{number_given}

none_of : (x : Option Refusal) (o i : ℕ) → refused_at (record { refusal = x; offset = o }) i ≡ None → number_or_0 x ≡ 0
unfolding refused_at number_or_0
none_of None o i k = refl
none_of (Some y) o i k = cc

some_of : (x : Option Refusal) (o i : ℕ) (e : Refused) → o < 0x1_0000_0000 → refused_at (record { refusal = x; offset = o }) i ≡ Some e
    → (number_or_0 x ≢ 0) × (refused (number_or_0 x) i o ≡ refused_of e)
unfolding refused_at number_or_0
some_of None o i e h k = cc
some_of (Some y) o i e h k =
    let m : o % 0x1_0000_0000 ≡ o = omega arith in
    let s : record { refusal = y; place = i; offset = o % 0x1_0000_0000 } ≡ e = cc in
    (number_given y, rw (← s, m))

module _ (r : RecordRefusal) (i : ℕ) where
  pub none_at : None ≡ refused_at r i → (check_of r).number ≡ 0
  none_at k = none_of r.refusal r.offset i (sym k)

  -- an offset below 2^32 is told as it is
  pub some_at : (e : Refused) → r.offset < 0x1_0000_0000 → Some e ≡ refused_at r i
      → ((check_of r).number ≢ 0) × (refused (check_of r).number i r.offset ≡ refused_of e)
  some_at e h k = some_of r.refusal r.offset i e h (sym k)
