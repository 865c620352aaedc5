-- The first refusal, found one check after the other.
use Rattle.std.specs.Prelude.{◌≡◌, refl, Bool, true, false, List, [], ◌∷◌, ◌++◌, eqb}
use Rattle.std.proofs.Common.{sym, ◌∙◌, add-one, eq-eqb, ne_eqb, eqb-true}
use Prim.Native.Nat.{ℕ, zero, suc, ◌+◌, ◌-◌, ◌≤◌, ◌<◌}
use native.Mathlib.Omega.{arith}
use Rattle.std.proofs.lemmas.Bool.{eqb-false}
use Rattle.notation.specs.Choice.{choose}
use Rattle.laws.specs.Choice.{by_test, choose_yes, choose_no}
use Rattle.laws.specs.Lists.{Every, ◌and◌}
use Rattle.rules.specs.Answers.{RecordCheck, Verdict}
use Rattle.rules.specs.Refusals.{Check, whole, records, refused, accepted, first_record, first_refusal}

-- A SCAN OF RECORDS k TO n - 1, where f k is the check of record k
module _ (f : ℕ → RecordCheck) (rest : Verdict) (k n : ℕ) where
  pub scan_end : n ≤ k → rest ≡ first_record f k (n - k) rest
  unfolding first_record
  scan_end h = let e : n - k ≡ 0 = omega arith in rw e

  pub scan_next : (x : RecordCheck) → k < n → x ≡ f k → x.number ≡ 0 → first_record f (k + 1) (n - (k + 1)) rest ≡ first_record f k (n - k) rest
  unfolding first_record
  scan_next x h e z = let m : n - k ≡ suc (n - (k + 1)) = omega arith in rw (m, add-one) (sym (choose_yes _ _ (eq-eqb (f k).number 0 (rw e at z))))

  pub scan_stop : (x : RecordCheck) → k < n → x ≡ f k → (x.number ≡ 0 → ⊥) → refused x.number k x.offset ≡ first_record f k (n - k) rest
  unfolding first_record
  scan_stop x h e z = let m : n - k ≡ suc (n - (k + 1)) = omega arith in rw (m, e) (sym (choose_no _ _ (ne_eqb (f k).number 0 (rw e at z))))

-- two scans with the same checks
pub scan_same : (f g : ℕ → RecordCheck) (k n : ℕ) (rest : Verdict) → ((i : ℕ) → k ≤ i → i < k + n → f i ≡ g i) → first_record f k n rest ≡ first_record g k n rest
unfolding first_record
scan_same f g k zero rest h = refl
scan_same f g k (suc n) rest h = rw (h k (omega arith) (omega arith), scan_same f g (suc k) n rest (λ i l m. h i (omega arith) (omega arith)))

-- SOME CHECKS, THEN OTHERS
-- the first of two verdicts, or where it has number 0 the second
abbrev pub first_of : Verdict → Verdict → Verdict
first_of v w = choose (eqb v.number 0) w v

-- both have number 0 where the first of them has
pub first_none : (v w : Verdict) → (first_of v w).number ≡ 0 → (v.number ≡ 0) × (w.number ≡ 0)
unfolding choose
first_none v w e =
    by_test (λ c. eqb v.number 0 ≡ c → (choose c w v).number ≡ 0 → (v.number ≡ 0) × (w.number ≡ 0)) (eqb v.number 0)
    (λ _ z h. (eqb-true v.number 0 z, h)) (λ _ z h. absurd (eqb-false v.number 0 z h)) refl e

scan_then : (f : ℕ → RecordCheck) (k n : ℕ) (u v w : Verdict) → u ≡ first_of v w → first_record f k n u ≡ first_of (first_record f k n v) w
unfolding first_record refused choose
scan_then f k zero u v w h = h
scan_then f k (suc n) u v w h = by_test
    (λ c. choose c (first_record f (suc k) n u) (refused (f k).number k (f k).offset)
    ≡ first_of (choose c (first_record f (suc k) n v) (refused (f k).number k (f k).offset)) w)
    (eqb (f k).number 0)
    (λ e. scan_then f (suc k) n u v w h)
    (λ e. rw e)

-- the number of a check is not 0, so that a verdict of number 0 refuses nothing; that of a scan is 0 only where it passes
abbrev pub NotZero : Check → Type 0
NotZero (whole n c) = 1 ≤ n
NotZero (records n f) = Unit

-- THE LAW: the first refusal of two lists of checks is that of the first, or where it has number 0 that of the second
pub first_of_both : (xs ys : List Check) → Every NotZero xs → first_refusal (xs ++ ys) ≡ first_of (first_refusal xs) (first_refusal ys)
unfolding first_refusal accepted refused choose
first_of_both [] ys e = refl
first_of_both (whole n c ∷ xs) ys e = by_test
    (λ c. choose c (refused n 0 0) (first_refusal (xs ++ ys)) ≡ first_of (choose c (refused n 0 0) (first_refusal xs)) (first_refusal ys))
    c
    (λ _. rw (ne_eqb n 0 (λ z. omega (arith, e.0))))
    (λ _. first_of_both xs ys e.1)
first_of_both (records n f ∷ xs) ys e = scan_then f 0 n _ _ _ (first_of_both xs ys e.1)

-- one check and what the others give
pub step : (c : Check) (cs : List Check) (w : Verdict) → NotZero c → first_refusal cs ≡ w → first_refusal (c ∷ cs) ≡ first_of (first_refusal (c ∷ [])) w
step c cs w n e = first_of_both (c ∷ []) cs (n and tt) ∙ rw e

pub one_whole : (n : ℕ) (c : Bool) → first_refusal (whole n c ∷ []) ≡ choose c (refused n 0 0) accepted
unfolding first_refusal
one_whole n c = refl

-- the test of a verdict that was found: the others count, or it does
module _ (cs : List Check) (v : Verdict) (e : v ≡ first_refusal cs) where
  pub passes : v.number ≡ 0 → eqb (first_refusal cs).number 0 ≡ true
  passes z = rw (← e) (eq-eqb _ 0 z)

  pub refuses : (v.number ≡ 0 → ⊥) → (w : Verdict) → v ≡ first_of (first_refusal cs) w
  refuses z w = rw (← e) (sym (choose_no w v (ne_eqb _ 0 z)))

-- a check that refuses nothing passes, and the later ones refuse nothing
pub whole_not_given : (c : Bool) (n : ℕ) (later : Verdict) → (choose c (refused (suc n) 0 0) later).number ≡ 0 → (c ≡ false) × (later.number ≡ 0)
unfolding choose refused
whole_not_given true n later e = absurd (omega arith)
whole_not_given false n later e = (refl, e)
