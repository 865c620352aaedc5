-- Sums of a number of 32 bits in each record, as a chain over the records' numbers makes them.
use Rattle.std.proofs.Common.{◌≡◌, ℕ, zero, suc, ◌+◌, ◌*◌, ◌≤◌, ◌<◌, map, refl, sym, ap, ◌∙◌, arith, add-one, zero-add}
use Rattle.std.specs.List.{range_with_len, sum as list_sum}
use Rattle.std.proofs.lemmas.List.FromFn.{sum_by-map-range_with_len_more}
use Rattle.notation.specs.Lists.{sum}

pub sum_of_range : (f : ℕ → ℕ) (n : ℕ) → list_sum (map f (range_with_len 0 n)) ≡ sum n f
unfolding sum
sum_of_range f zero = refl
sum_of_range f (suc n) =
    ap (λ m. list_sum (map f (range_with_len 0 m))) (sym (add-one n)) ∙ sum_by-map-range_with_len_more (λ x. x) f 0 n n (zero-add n)
    ∙ ap (λ m. m + f n) (sum_of_range f n)

pub sum_at_most : (f : ℕ → ℕ) → ((i : ℕ) → f i < 0x1_0000_0000) → (n : ℕ) → sum n f ≤ 4294967295 * n
unfolding sum
sum_at_most f h zero = omega arith
sum_at_most f h (suc n) = omega (arith, sum_at_most f h n, h n)
