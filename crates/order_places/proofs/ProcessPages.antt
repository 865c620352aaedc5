-- The pages of a process's sections.
use Rattle.std.proofs.Common.{ℕ, zero, suc, ◌*◌, ◌≤◌, min, arith}
use Rattle.notation.specs.Lists.{sum}

-- no section has more than 2^21 pages
pub sum_few : (f : ℕ → ℕ) (n : ℕ) → sum n (λ j. min (f j) 0x20_0000) ≤ 0x20_0000 * n
unfolding sum
sum_few f zero = omega arith
sum_few f (suc n) = omega (arith, sum_few f n)
