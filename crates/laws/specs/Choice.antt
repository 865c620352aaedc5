-- Laws of choices by tests.
use Rattle.std.specs.Prelude.{◌≡◌, refl, Bool, true, false, ◌&&◌, ◌||◌, List, [], ◌∷◌, ℕ, zero, suc, ◌<◌, get_or}
use Rattle.std.proofs.Common.{arith}
use Rattle.notation.specs.Choice.{choose, any, all}

-- by cases on a test, with the equation
pub by_test : (P : Bool → Type 0) (c : Bool) → (c ≡ true → P true) → (c ≡ false → P false) → P c
by_test P true f g = f refl
by_test P false f g = g refl

-- a test that does not pass does not pass
pub false_not_true : {A : Type 0} {c : Bool} → c ≡ false → c ≡ true → A
false_not_true e f = let z : ◌≡◌ {A = ℕ} 0 1 = cc in absurd (omega arith)

-- by cases on a choice
pub by_choose : {A : Type 0} (P : A → Type 0) (c : Bool) (x y : A) → (c ≡ true → P x) → (c ≡ false → P y) → P (choose c x y)
unfolding choose
by_choose P true x y f g = f refl
by_choose P false x y f g = g refl

pub choose_yes : {A : Type 0} {c : Bool} (x y : A) → c ≡ true → choose c x y ≡ x
unfolding choose
choose_yes x y e = rw e

pub choose_no : {A : Type 0} {c : Bool} (x y : A) → c ≡ false → choose c x y ≡ y
unfolding choose
choose_no x y e = rw e

pub choose_lt : (c : Bool) (x y n : ℕ) → x < n → y < n → choose c x y < n
choose_lt c x y n h l = by_choose (λ z. z < n) c x y (λ _. h) (λ _. l)

-- a function of a choice is the choice of its values
pub choose_map : {A B : Type 0} (f : A → B) (c : Bool) (x y : A) → f (choose c x y) ≡ choose c (f x) (f y)
unfolding choose
choose_map f true x y = refl
choose_map f false x y = refl

-- the same where the test passes
pub choose_same : {A : Type 0} (c : Bool) (x y z : A) → (c ≡ true → x ≡ y) → choose c x z ≡ choose c y z
unfolding choose
choose_same true x y z h = h refl
choose_same false x y z h = refl

-- the same by either of two tests
pub choose_either : {A : Type 0} (a c : Bool) (x y : A) → choose a x (choose c x y) ≡ choose (choose a true c) x y
unfolding choose
choose_either true c x y = refl
choose_either false c x y = refl

pub and_left : (a c : Bool) → (a && c) ≡ true → a ≡ true
and_left true c e = refl
and_left false c e = e

pub and_right : (a c : Bool) → (a && c) ≡ true → c ≡ true
and_right true c e = e
and_right false c e = cc

pub and_both : {a c : Bool} → a ≡ true → c ≡ true → (a && c) ≡ true
and_both e f = rw (e, f)

pub and_not_left : {a : Bool} (c : Bool) → a ≡ false → (a && c) ≡ false
and_not_left c e = rw e

pub and_not_right : (a : Bool) {c : Bool} → c ≡ false → (a && c) ≡ false
and_not_right true e = e
and_not_right false e = refl

-- the second of two tests that do not both pass, where the first does
pub and_rest : {a c : Bool} → a ≡ true → (a && c) ≡ false → c ≡ false
and_rest e h = rw e at h

pub or_left : (a c : Bool) → (a || c) ≡ false → a ≡ false
or_left true c e = e
or_left false c e = refl

pub or_right : (a c : Bool) → (a || c) ≡ false → c ≡ false
or_right true c e = cc
or_right false c e = e

pub or_none : (a : Bool) → a ≡ (a || false)
or_none true = refl
or_none false = refl

pub choose_or : (a c : Bool) → choose a true c ≡ false → (a ≡ false) × (c ≡ false)
unfolding choose
choose_or true c e = (e, cc)
choose_or false c e = (refl, e)

-- test i of a list of tests none of which passes
pub any_none : (ts : List Bool) → any ts ≡ false → (i : ℕ) → get_or ts i false ≡ false
unfolding any
any_none [] e i = refl
any_none (t ∷ ts) e zero = or_left t (any ts) e
any_none (t ∷ ts) e (suc i) = any_none ts (or_right t (any ts) e) i

-- test i of a list of tests all of which pass
pub all_pass : (ts : List Bool) → all ts ≡ true → (i : ℕ) → get_or ts i true ≡ true
unfolding all
all_pass [] e i = refl
all_pass (t ∷ ts) e zero = and_left t (all ts) e
all_pass (t ∷ ts) e (suc i) = all_pass ts (and_right t (all ts) e) i

-- a list of tests one of which does not pass
pub all_fails : (ts : List Bool) (i : ℕ) → get_or ts i true ≡ false → all ts ≡ false
unfolding all
all_fails [] i e = e
all_fails (t ∷ ts) zero e = and_not_left (all ts) e
all_fails (t ∷ ts) (suc i) e = and_not_right t (all_fails ts i e)
