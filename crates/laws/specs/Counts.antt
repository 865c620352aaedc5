-- Laws of counting and of sums.
use Rattle.std.specs.Prelude.{◌≡◌, ◌≢◌, Bool, eqb}
use Rattle.std.proofs.Math.Path.{refl, sym}
use Rattle.std.proofs.Common.{◌∙◌, not-suc-le-zero, le_of_suc-le-suc, zero-add, add-one, eq-eqb, ne_eqb}
use mathlib.Core.List.{List, [], ◌∷◌, ◌++◌}
use Rattle.std.proofs.Math.Bool.{true, false}
use Rattle.std.proofs.Math.Option.{Option, none, some}
use Prim.Native.Nat.{ℕ, zero, suc, ◌+◌, ◌-◌, ◌*◌, ◌≤◌, ◌<◌}
use Rattle.std.proofs.Math.Decide.{dec_lt, ℕ_discrete}
use native.Mathlib.Omega.{arith}
use Rattle.std.proofs.Math.ListN.{length, length-append}
use Rattle.notation.specs.Choice.{choose}
use Rattle.notation.specs.Lists.{tab, gather, count, sum, lookup}
use Rattle.laws.specs.Choice.{by_choose, choose_yes, choose_no}
use Rattle.laws.specs.Lists.{Every, every_gather}

-- 1 where the test passes
abbrev pub one : Bool → ℕ
one c = choose c 1 0

pub one_yes : {c : Bool} → c ≡ true → one c ≡ 1
one_yes e = choose_yes 1 0 e

pub one_no : {c : Bool} → c ≡ false → one c ≡ 0
one_no e = choose_no 1 0 e

-- SUMS
pub sum_none : (f : ℕ → ℕ) → sum 0 f ≡ 0
unfolding sum
sum_none f = refl

pub sum_next : (n : ℕ) (f : ℕ → ℕ) → sum (n + 1) f ≡ sum n f + f n
unfolding sum
sum_next n f = rw add-one

pub sum_same : (n : ℕ) (f g : ℕ → ℕ) → ((i : ℕ) → i < n → f i ≡ g i) → sum n f ≡ sum n g
unfolding sum
sum_same zero f g h = refl
sum_same (suc n) f g h = rw (sum_same n f g (λ i l. h i (omega arith)), h n (omega arith))

pub sum_add : (n : ℕ) (f g : ℕ → ℕ) → sum n (λ i. f i + g i) ≡ sum n f + sum n g
unfolding sum
sum_add zero f g = refl
sum_add (suc n) f g = omega (arith, sum_add n f g)

pub sum_zero : (n : ℕ) (f : ℕ → ℕ) → ((i : ℕ) → i < n → f i ≡ 0) → sum n f ≡ 0
unfolding sum
sum_zero zero f h = refl
sum_zero (suc n) f h = omega (arith, sum_zero n f (λ i l. h i (omega arith)), h n (omega arith))

pub sum_le : (m n : ℕ) (f : ℕ → ℕ) → m ≤ n → sum m f ≤ sum n f
unfolding sum
sum_le m zero f h = let e : m ≡ 0 = omega arith in rw e (omega arith)
sum_le m (suc n) f h = elim (dec_lt m (suc n)) [
  | yes l ↦ omega (arith, sum_le m n f (omega arith))
  | no l ↦ let e : m ≡ suc n = omega arith in rw e (omega arith)
]

-- the first term in front
-- an element is part of the sum
pub sum_at : (n k : ℕ) (f : ℕ → ℕ) → k < n → sum k f + f k ≤ sum n f
unfolding sum
sum_at zero k f h = absurd (omega arith)
sum_at (suc n) k f h = elim (dec_lt k n) [
  | yes l ↦ omega (arith, sum_at n k f l)
  | no l ↦ let e : k ≡ n = omega arith in rw e (omega arith)
]

pub sum_first : (n : ℕ) (f : ℕ → ℕ) → sum (suc n) f ≡ f 0 + sum n (λ i. f (suc i))
unfolding sum
sum_first zero f = omega arith
sum_first (suc n) f = omega (arith, sum_first n f)

-- the terms in the other order
pub sum_reverse : (n : ℕ) (f : ℕ → ℕ) → sum n (λ i. f (n - 1 - i)) ≡ sum n f
unfolding sum
sum_reverse zero f = refl
sum_reverse (suc n) f =
    let t : sum n (λ i. f (suc n - 1 - suc i)) ≡ sum n (λ i. f (n - 1 - i))
    = sum_same n _ _ (λ i l. let e : suc n - 1 - suc i ≡ n - 1 - i = omega arith in rw e) in
    let h : f (suc n - 1 - 0) ≡ f n = let e : suc n - 1 - 0 ≡ n = omega arith in rw e in
    omega (arith, sum_first n (λ i. f (suc n - 1 - i)), t, h, sum_reverse n f)

-- n terms that are 1 or 0 by one test
pub sum_constant : (n : ℕ) (c : Bool) → sum n (λ i. one c) ≡ choose c n 0
unfolding sum choose
sum_constant zero true = refl
sum_constant zero false = refl
sum_constant (suc n) true = omega (arith, sum_constant n true)
sum_constant (suc n) false = omega (arith, sum_constant n false)

-- one term of many is 1
pub sum_one : (n k : ℕ) → 1 ≤ k → k ≤ n → sum n (λ i. one (eqb k (i + 1))) ≡ 1
unfolding sum
sum_one zero k lo hi = absurd (omega arith)
sum_one (suc n) k lo hi = elim (ℕ_discrete k (suc n)) [
  | yes e ↦
      let z : sum n (λ i. one (eqb k (i + 1))) ≡ 0 = sum_zero n _ (λ i l. one_no (ne_eqb k (i + 1) (λ f. omega arith))) in
      let o : one (eqb k (n + 1)) ≡ 1 = one_yes (eq-eqb k (n + 1) (omega arith)) in
      omega arith
  | no e ↦
      let o : one (eqb k (n + 1)) ≡ 0 = one_no (ne_eqb k (n + 1) (λ f. e (omega arith))) in
      omega (arith, sum_one n k lo (omega arith))
]

-- LENGTHS
module _ {A : Type 0} where
  pub gather_length : (n : ℕ) (f : ℕ → List A) → length (gather n f) ≡ sum n (λ i. length (f i))
  unfolding gather sum
  gather_length zero f = refl
  gather_length (suc n) f = length-append (gather n f) (f n) ∙ rw (gather_length n f)

  -- a list of one where the test passes, else of none
  pub one_length : (c : Bool) (x : A) → length (choose c (x ∷ []) []) ≡ one c
  unfolding choose
  one_length true x = refl
  one_length false x = refl

-- COUNTS
module _ {A : Type 0} where
  pub count_nil : (t : A → Bool) → count t [] ≡ 0
  unfolding count
  count_nil t = refl

  pub count_cons : (t : A → Bool) (x : A) (l : List A) → count t (x ∷ l) ≡ one (t x) + count t l
  unfolding count
  count_cons t x l = by_choose (λ n. n ≡ one (t x) + count t l) (t x) _ _
      (λ e. omega (arith, one_yes e))
      (λ e. omega (arith, one_no e))

  pub count_none : (t : A → Bool) (l : List A) → Every (λ x. t x ≡ false) l → count t l ≡ 0
  count_none t [] e = count_nil t
  count_none t (x ∷ l) e = count_cons t x l ∙ omega (arith, one_no e.0, count_none t l e.1)

  pub count_append : (t : A → Bool) (l m : List A) → count t (l ++ m) ≡ count t l + count t m
  count_append t [] m = omega (arith, count_nil t)
  count_append t (x ∷ l) m = count_cons t x (l ++ m) ∙ omega (arith, count_cons t x l, count_append t l m)

  pub count_all : (t : A → Bool) (l : List A) → Every (λ x. t x ≡ true) l → count t l ≡ length l
  count_all t [] e = count_nil t
  count_all t (x ∷ l) e = count_cons t x l ∙ omega (arith, one_yes e.0, count_all t l e.1)

  -- only list k of those gathered has elements that pass
  pub count_gather : (t : A → Bool) (n : ℕ) (f : ℕ → List A) (k : ℕ) → k < n → ((m : ℕ) → m ≢ k → Every (λ x. t x ≡ false) (f m)) → count t (gather n f) ≡ count t (f k)
  unfolding gather
  count_gather t zero f k h a = absurd (not-suc-le-zero h)
  count_gather t (suc n) f k h a = count_append t (gather n f) (f n) ∙ elim (dec_lt k n) [
    | yes l ↦ omega (arith, count_gather t n f k l a, count_none t (f n) (a n (λ e. omega arith)))
    | no l ↦
        let e : k ≡ n = omega arith in
        rw e (omega (arith, count_none t (gather n f) (every_gather _ n f (λ m h. a m (λ z. omega arith)))))
  ]

  pub count_tab : (t : A → Bool) (n : ℕ) (f : ℕ → A) → count t (tab n f) ≡ sum n (λ i. one (t (f i)))
  unfolding tab
  count_tab t zero f = count_nil t ∙ sym (sum_zero 0 _ (λ i l. absurd (not-suc-le-zero l)))
  count_tab t (suc n) f = count_cons t (f 0) (tab n (λ i. f (suc i)))
      ∙ omega (arith, count_tab t n (λ i. f (suc i)), sum_first n (λ i. one (t (f i))))

  -- a list whose elements have classes 1 to n, counted class by class
  pub count_classes : (class : A → ℕ) (n : ℕ) (l : List A) → Every (λ x. (1 ≤ class x) × (class x ≤ n)) l
      → sum n (λ i. count (λ x. eqb (class x) (i + 1)) l) ≡ length l
  count_classes class n [] e = sum_zero n _ (λ i l. count_nil (λ x. eqb (class x) (i + 1)))
  count_classes class n (x ∷ l) e =
      sum_same n _ (λ i. one (eqb (class x) (i + 1)) + count (λ y. eqb (class y) (i + 1)) l) (λ i h. count_cons (λ y. eqb (class y) (i + 1)) x l)
      ∙ sum_add n (λ i. one (eqb (class x) (i + 1))) (λ i. count (λ y. eqb (class y) (i + 1)) l)
      ∙ omega (arith, sum_one n (class x) e.0.0 e.0.1, count_classes class n l e.1)

  -- a list and a default, looked up at 0, 1, .. n - 1: the list's elements are counted, and the default for each place past its end
  pub count_lookups : (value : Option A → ℕ) (t : ℕ → Bool) (l : List A) (n : ℕ) → length l ≤ n
      → sum n (λ i. one (t (value (lookup l i)))) ≡ count (λ x. t (value (some x))) l + choose (t (value none)) (n - length l) 0
  unfolding lookup
  count_lookups value t [] n h =
      let e : n - 0 ≡ n = omega arith in
      sum_constant n (t (value none)) ∙ sym (rw (count_nil, e, zero-add))
  count_lookups value t (x ∷ l) zero h = absurd (not-suc-le-zero h)
  count_lookups value t (x ∷ l) (suc n) h =
      let s : ℕ → ℕ = λ m. choose (t (value none)) m 0 in
      let d : suc n - length (x ∷ l) ≡ n - length l = omega arith in
      let now : one (t (value (lookup (x ∷ l) 0))) ≡ one (t (value (some x))) = refl in
      let rest : sum n (λ i. one (t (value (lookup (x ∷ l) (suc i))))) ≡ count (λ x. t (value (some x))) l + s (n - length l)
      = count_lookups value t l n (le_of_suc-le-suc h) in
      sum_first n (λ i. one (t (value (lookup (x ∷ l) i))))
      ∙ rw (count_cons, d) (omega (arith, now, rest))

pub one_le : (c : Bool) → one c ≤ 1
one_le c = by_choose (λ n. n ≤ 1) c 1 0 (λ _. omega arith) (λ _. omega arith)

-- n or nothing, as a product
pub choose_times : (c : Bool) (n : ℕ) → choose c n 0 ≡ n * one c
unfolding choose
choose_times true n = omega arith
choose_times false n = omega arith
