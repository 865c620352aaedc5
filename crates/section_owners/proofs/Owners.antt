-- The search for a section's owner, from the last process record down.
use Rattle.std.specs.Prelude.{◌≡◌, Bool, cond, List, ℕ, zero, suc, ◌+◌, Option, Some, None, MatchOption}
use Rattle.std.proofs.Common.{subst, ◌∙◌, zero-add}
use Rattle.std.proofs.Math.Option.{none, some}
use Rattle.std.specs.List.{find}
use Rattle.std.specs.Option.{option_map}
use Rattle.notation.specs.Choice.{choose}
use Rattle.notation.specs.Lists.{find_last}
use Rattle.laws.specs.Choice.{by_test}
use Rattle.laws.specs.Searches.{counted_down}
use Rattle.rules.specs.Block.{process_count, has_section, owner_of}

module _ (t : ℕ → Bool) {Q : ℕ → Type 0} (q : ℕ) (next : (i : ℕ) → Q i → q ≡ i + 1) where
  hit : (p : ℕ) (r : Option ℕ) → option_map (λ x. x) r ≡ Some p → MatchOption r (q ≡ 0) Q → q ≡ p + 1
  hit p None e m = cc
  hit p (Some i) e m = let is : i ≡ p = cc in next i m ∙ rw is

  -- the first found from p down is the last below p
  pub found : (p : ℕ) (r : Option ℕ) → option_map (λ x. x) r ≡ find t (counted_down 0 p) → MatchOption r (q ≡ 0) Q
      → q ≡ elim (find_last t p) [ none ↦ 0 | some i ↦ i + 1 ]
  unfolding find_last choose
  found zero None e m = m
  found zero (Some i) e m = cc
  found (suc p) r e m = by_test
      (λ c. option_map (λ x. x) r ≡ cond c (Some p) (find t (counted_down 0 p)) → q ≡ elim (choose c (some p) (find_last t p)) [ none ↦ 0 | some i ↦ i + 1 ])
      (t p)
      (λ _ k. hit p r k m)
      (λ _ k. found p r k m)
      (rw (zero-add p) at e)

pub owner_found : (b : List ℕ) (n p q : ℕ) (r : Option ℕ) {Q : ℕ → Type 0} → p ≡ process_count b → option_map (λ x. x) r ≡ find (has_section b n) (counted_down 0 p)
    → MatchOption r (q ≡ 0) Q → ((i : ℕ) → Q i → q ≡ i + 1) → q ≡ owner_of b n
unfolding owner_of
owner_found b n p q r c e m next =
    subst (λ k. q ≡ elim (find_last (has_section b n) k) [ none ↦ 0 | some i ↦ i + 1 ]) c (found (has_section b n) q next p r e m)
