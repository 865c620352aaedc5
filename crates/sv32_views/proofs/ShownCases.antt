-- What a page shows, by whether its part has the byte.
use Rattle.std.proofs.Common.{◌≡◌, ℕ, ◌<◌, ◌≤◌, ◌%◌, List, length, get_or, refl, arith, eq-eqb, ne_eqb}
use Rattle.notation.specs.Choice.{choose}
use Rattle.laws.specs.Choice.{by_choose}
use Rattle.laws.specs.Lists.{tab_length}
use Rattle.types.specs.declared.PhysPage.{PhysPage}
use Rattle.types.specs.declared.Rights.{Rights}
use Rattle.types.specs.declared.Entry.TheVariants.{Page}
use Rattle.types.specs.declared.View.TheVariants as View
use Rattle.rules.specs.Lent.{Memory, memory_area, page_area, lies_in}
use Rattle.rules.specs.Reader.{page_in, page_bytes}
use Rattle.rules.specs.Sees.{shown}

-- a page's part is 4,096 bytes or none
whole_in : (m : Memory) (P k : ℕ) → k < 4096 → length (page_in m P) ≤ k → length (page_in m P) ≡ 0
unfolding page_in
whole_in m P k h =
    by_choose (λ (l : List ℕ). length l ≤ k → length l ≡ 0) (lies_in (page_area P) (memory_area m)) _ _
    (λ _ n. absurd (omega (arith, simp tab_length at n))) (λ _ _. refl)

whole : (ram flash : Memory) (P k : ℕ) → k < 4096 → length (page_bytes ram flash P) ≤ k → length (page_bytes ram flash P) ≡ 0
unfolding page_bytes
whole ram flash P k h =
    by_choose (λ (l : List ℕ). length l ≤ k → length l ≡ 0) (lies_in (page_area P) (memory_area ram)) _ _
    (λ _. whole_in ram P k h) (λ _. whole_in flash P k h)

module _ (ram flash : Memory) (a : ℕ) (t : Rights) (P : PhysPage) (part : List ℕ) (e : part ≡ page_bytes ram flash P.0) where
  pub shown_outside : length part ≤ a % 4096 → shown ram flash a (Page t P) ≡ View.Outside t
  unfolding shown choose
  shown_outside n = let z : length part ≡ 0 = rw e (whole ram flash P.0 (a % 4096) (omega arith) (rw e at n)) in rw (← e, eq-eqb (length part) 0 z)

  pub shown_inside : a % 4096 < length part → shown ram flash a (Page t P) ≡ View.Page t (get_or part (a % 4096) 0)
  unfolding shown choose
  shown_inside n = rw (← e, ne_eqb (length part) 0 (λ z. omega arith))
