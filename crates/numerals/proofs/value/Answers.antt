use Rattle.std.proofs.Common.{arith, refl, ap, ◌∙◌}
use Rattle.std.specs.Char.{digit_value}
use Rattle.numerals.proofs.Digits.{radix_in, spelled_at, value_step, value_next, value_all}
use Rattle.numerals.proofs.value.Goals as goal

pub loop-c-init : goal.loop-c-init
loop-c-init c = (omega arith, refl)

pub returns-in_err-digit : goal.returns-in_err-digit
returns-in_err-digit c = absurd (c.in_err-digit.ensures.value (rw c.from.ensures (spelled_at _ _ _ (radix_in _ _ c.radix-radix.ensures).1 (rw c.radix-radix.ensures c.requires) c.loop-c-test.true).0))

pub returns-in_err-checked_mul : goal.returns-in_err-checked_mul
returns-in_err-checked_mul c = rw (c.from_residual-in_err-checked_mul.ensures, ← c.radix-radix.ensures)
    (λ h. c.in_err-checked_mul.ensures (omega (arith, value_next _ _ _ _ _ (radix_in _ _ c.radix-radix.ensures).1 (rw c.radix-radix.ensures c.requires) c.loop-c.invariant.1 c.loop-c-test.true refl (omega (arith, radix_in _ _ c.radix-radix.ensures)))))

pub returns-in_err-v : goal.returns-in_err-v
returns-in_err-v c = rw (c.from_residual-in_err-v.ensures, ← c.radix-radix.ensures)
    (λ h. c.in_err-v.ensures (omega (arith, value_next _ _ _ _ _ (radix_in _ _ c.radix-radix.ensures).1 (rw c.radix-radix.ensures c.requires) c.loop-c.invariant.1 c.loop-c-test.true (c.in_ok-digit.ensures.value.1 ∙ ap digit_value c.from.ensures) (omega (arith, radix_in _ _ c.radix-radix.ensures)), c.in_ok-checked_mul.ensures.1)))

pub loop-c-preserved : goal.loop-c-preserved
loop-c-preserved c = (
  omega (arith, c.in_ok-v.ensures),
  rw (c.in_ok-v.ensures.1, c.in_ok-checked_mul.ensures.1)
      (value_step _ _ _ _ _ (radix_in _ _ c.radix-radix.ensures).1 (rw c.radix-radix.ensures c.requires) c.loop-c.invariant.1 c.loop-c-test.true (c.in_ok-digit.ensures.value.1 ∙ ap digit_value c.from.ensures)),
)

pub returns : goal.returns
returns c =
    let e = value_all _ _ _ _ c.loop-c.invariant.1 c.loop-c-test.false in
    rw (← c.radix-radix.ensures) (omega (arith, e), e)
