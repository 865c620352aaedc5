-- Lists given by a rule, and counting in lists.
use Rattle.std.specs.Prelude.{Bool, true, false, List, [], ◌∷◌, ◌++◌, ℕ, zero, suc, ◌+◌}
use Rattle.std.proofs.Math.Option.{Option, none, some}
use Rattle.notation.specs.Choice.{choose}

module _ {A : Type 0} where
  -- f 0, f 1, .. f (n - 1)
  unfoldable pub tab : ℕ → (ℕ → A) → List A
  tab zero f = []
  tab (suc n) f = let h = f zero in h ∷ tab n (λ k. f (suc k))

  -- f 0 ++ f 1 ++ .. ++ f (n - 1)
  unfoldable pub gather : ℕ → (ℕ → List A) → List A
  gather zero f = []
  gather (suc n) f = gather n f ++ f n

  -- element i, or none past the end
  unfoldable pub lookup : List A → ℕ → Option A
  lookup [] i = none
  lookup (x ∷ xs) zero = some x
  lookup (x ∷ xs) (suc i) = lookup xs i

  -- how many elements stand before the first that passes the test
  unfoldable pub count_before : (A → Bool) → List A → ℕ
  count_before t [] = 0
  count_before t (x ∷ xs) = let n = count_before t xs in choose (t x) 0 (suc n)

  -- how many elements pass the test
  unfoldable pub count : (A → Bool) → List A → ℕ
  count t [] = 0
  count t (x ∷ xs) = let n = count t xs in choose (t x) (suc n) n

  -- one of the elements passes the test
  unfoldable pub some_of : (A → Bool) → List A → Bool
  some_of t [] = false
  some_of t (x ∷ xs) = let m = some_of t xs in choose (t x) true m

-- f 0 + f 1 + .. + f (n - 1)
unfoldable pub sum : ℕ → (ℕ → ℕ) → ℕ
sum zero f = 0
sum (suc n) f = sum n f + f n

-- the last of 0, 1, .. n - 1 that passes the test, or none
unfoldable pub find_last : (ℕ → Bool) → ℕ → Option ℕ
find_last t zero = none
find_last t (suc n) = let m = find_last t n in choose (t n) (some n) m

-- one of 0, 1, .. n - 1 passes the test
unfoldable pub exists : (ℕ → Bool) → ℕ → Bool
exists t zero = false
exists t (suc n) = let m = exists t n in choose (t n) true m

-- all definitions of this file, to be unfolded as one
unfoldable pub lists : Unit {0}
unfolding tab gather lookup count_before count some_of sum find_last exists
lists = tt
