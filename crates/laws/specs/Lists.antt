-- Laws of lists given by a rule.
use Rattle.std.specs.Prelude.{◌≡◌, ◌⊎◌, Bool, length, get_or, take}
use Rattle.std.proofs.Math.Path.{refl, sym, ap}
use Rattle.std.proofs.Common.{◌∙◌, not-suc-le-zero, le_of_suc-le-suc, ext_get_or, get_or-append-add}
use Rattle.std.proofs.Math.Logic.{inl, inr}
use mathlib.Core.List.{List, [], ◌∷◌, ◌++◌}
use Rattle.std.proofs.Math.Bool.{true, false}
use Rattle.std.proofs.Math.Option.{Option, none, some}
use Prim.Native.Nat.{ℕ, zero, suc, ◌+◌, ◌-◌, ◌≤◌, ◌<◌}
use Rattle.std.proofs.Math.Nat.{zero-add, suc-add}
use Rattle.std.proofs.Math.Numerals.{add-one}
use Rattle.std.proofs.Math.Decide.{dec_lt, ℕ_discrete}
use native.Mathlib.Omega.{arith}
use Rattle.notation.specs.Choice.{choose}
use Rattle.notation.specs.Lists.{tab, gather, lookup, count_before, some_of, find_last, exists}
use Rattle.laws.specs.Choice.{by_choose, choose_no}

-- none is not some
pub none_some : {A : Type 0} {x : A} {B : Type 0} → none ≡ some x → B
none_some e = let z : ◌≡◌ {A = ℕ} 0 1 = cc in absurd (omega arith)

-- a fact of the first element and one of the others
infixr 5 ◌and◌
pub ◌and◌ : {P Q : Type 0} → P → Q → P × Q
p and q = (p, q)

module _ {A : Type 0} where
  -- TAB
  pub tab_length : (n : ℕ) (f : ℕ → A) → length (tab n f) ≡ n
  unfolding tab
  tab_length zero f = refl
  tab_length (suc n) f = ap suc (tab_length n (λ k. f (suc k)))

  pub tab_get : (n : ℕ) (f : ℕ → A) (i : ℕ) (d : A) → i < n → get_or (tab n f) i d ≡ f i
  unfolding tab
  tab_get zero f i d h = absurd (not-suc-le-zero h)
  tab_get (suc n) f zero d h = refl
  tab_get (suc n) f (suc i) d h = tab_get n (λ k. f (suc k)) i d (le_of_suc-le-suc h)

  pub tab_next : (n : ℕ) (f : ℕ → A) → tab (suc n) f ≡ tab n f ++ (f n ∷ [])
  unfolding tab
  tab_next zero f = refl
  tab_next (suc n) f = ap (λ (l : List A). f zero ∷ l) (tab_next n (λ k. f (suc k)))

  -- a list that has the elements of a rule
  pub tab_by : (n : ℕ) (f : ℕ → A) (d : A) (l : List A) → length l ≡ n → ((i : ℕ) → i < n → get_or l i d ≡ f i) → l ≡ tab n f
  tab_by n f d l e h = ext_get_or d l (tab n f) (e ∙ sym (tab_length n f)) (λ i m. let k : i < n = omega arith in h i k ∙ sym (tab_get n f i d k))

  pub tab_same : (n : ℕ) (f g : ℕ → A) (d : A) → ((i : ℕ) → i < n → f i ≡ g i) → tab n f ≡ tab n g
  tab_same n f g d h = tab_by n g d (tab n f) (tab_length n f) (λ i l. tab_get n f i d l ∙ h i l)

  pub take_tab_append : (n : ℕ) (f : ℕ → A) (l : List A) → take n (tab n f ++ l) ≡ tab n f
  unfolding tab
  take_tab_append zero f l = refl
  take_tab_append (suc n) f l = ap (λ (x : List A). f zero ∷ x) (take_tab_append n (λ k. f (suc k)) l)

  -- an element of the second of two lists
  pub append_get_right : (xs ys : List A) (n i : ℕ) (d : A) → length xs ≡ n → n ≤ i → get_or (xs ++ ys) i d ≡ get_or ys (i - n) d
  append_get_right xs ys n i d e h =
      let s : length xs + (i - n) ≡ i = omega arith in
      rw s at (get_or-append-add xs ys (i - n) d)

  -- LOOKUP
  pub lookup_inside : (l : List A) (i : ℕ) (x : A) → lookup l i ≡ some x → i < length l
  unfolding lookup
  lookup_inside [] i x e = none_some e
  lookup_inside (y ∷ l) zero x e = omega arith
  lookup_inside (y ∷ l) (suc i) x e = omega (arith, lookup_inside l i x e)

  pub lookup_outside : (l : List A) (i : ℕ) → length l ≤ i → lookup l i ≡ none
  unfolding lookup
  lookup_outside [] i h = refl
  lookup_outside (y ∷ l) zero h = absurd (not-suc-le-zero h)
  lookup_outside (y ∷ l) (suc i) h = lookup_outside l i (le_of_suc-le-suc h)

  pub lookup_left : (l m : List A) (i : ℕ) (x : A) → lookup l i ≡ some x → lookup (l ++ m) i ≡ some x
  unfolding lookup
  lookup_left [] m i x e = cc
  lookup_left (y ∷ l) m zero x e = e
  lookup_left (y ∷ l) m (suc i) x e = lookup_left l m i x e

  pub lookup_right : (l m : List A) (i : ℕ) → lookup (l ++ m) (length l + i) ≡ lookup m i
  unfolding lookup
  lookup_right [] m i = rw zero-add
  lookup_right (y ∷ l) m i = rw suc-add (lookup_right l m i)

  -- inside there is an element
  pub lookup_some : (l : List A) (i : ℕ) → i < length l → (x : A) × (lookup l i ≡ some x)
  unfolding lookup
  lookup_some [] i h = absurd (not-suc-le-zero h)
  lookup_some (x ∷ l) zero h = (x, refl)
  lookup_some (x ∷ l) (suc i) h = lookup_some l i (le_of_suc-le-suc h)

  pub lookup_tab : (n : ℕ) (f : ℕ → A) (i : ℕ) → i < n → lookup (tab n f) i ≡ some (f i)
  unfolding lookup tab
  lookup_tab zero f i h = absurd (not-suc-le-zero h)
  lookup_tab (suc n) f zero h = refl
  lookup_tab (suc n) f (suc i) h = lookup_tab n (λ k. f (suc k)) i (le_of_suc-le-suc h)

  -- element i of list k of those gathered
  pub gather_next : (n : ℕ) (f : ℕ → List A) → gather (n + 1) f ≡ gather n f ++ f n
  unfolding gather
  gather_next n f = rw add-one

  pub lookup_gather : (n : ℕ) (f : ℕ → List A) (k i : ℕ) (x : A) → k < n → lookup (f k) i ≡ some x → lookup (gather n f) (length (gather k f) + i) ≡ some x
  unfolding gather
  lookup_gather zero f k i x h e = absurd (not-suc-le-zero h)
  lookup_gather (suc n) f k i x h e = elim (dec_lt k n) [
    | yes l ↦ lookup_left (gather n f) (f n) _ x (lookup_gather n f k i x l e)
    | no l ↦ let z : k ≡ n = omega arith in rw z (lookup_right (gather n f) (f n) i ∙ (rw z at e))
  ]

  -- OCCURS: x is an element of the list
  abbrev pub Occurs : List A → A → Type 0
  Occurs l x = (i : ℕ) × (lookup l i ≡ some x)

  pub occurs_here : (x : A) (l : List A) → Occurs (x ∷ l) x
  unfolding lookup
  occurs_here x l = (0, refl)

  pub occurs_there : (y : A) {x : A} (l : List A) → Occurs l x → Occurs (y ∷ l) x
  unfolding lookup
  occurs_there y l o = (suc o.0, o.1)

  pub occurs_left : {x : A} (l m : List A) → Occurs l x → Occurs (l ++ m) x
  occurs_left {x} l m o = (o.0, lookup_left l m o.0 x o.1)

  pub occurs_right : {x : A} (l m : List A) → Occurs m x → Occurs (l ++ m) x
  occurs_right l m o = (length l + o.0, lookup_right l m o.0 ∙ o.1)

  pub occurs_tab : (n : ℕ) (f : ℕ → A) (i : ℕ) → i < n → Occurs (tab n f) (f i)
  occurs_tab n f i h = (i, lookup_tab n f i h)

  pub occurs_gather : {x : A} (n : ℕ) (f : ℕ → List A) (k : ℕ) → k < n → Occurs (f k) x → Occurs (gather n f) x
  unfolding gather
  occurs_gather zero f k h o = absurd (not-suc-le-zero h)
  occurs_gather (suc n) f k h o = elim (dec_lt k n) [
    | yes l ↦ occurs_left (gather n f) (f n) (occurs_gather n f k l o)
    | no l ↦ let e : k ≡ n = omega arith in occurs_right (gather n f) (f n) (rw e at o)
  ]

  -- EVERY: all elements of the list are so
  abbrev pub Every : (A → Type 0) → List A → Type 0
  Every P [] = Unit {0}
  Every P (x ∷ xs) = P x × Every P xs

  pub every_at : (P : A → Type 0) (l : List A) (i : ℕ) {x : A} → Every P l → lookup l i ≡ some x → P x
  unfolding lookup
  every_at P [] i e h = none_some h
  every_at P (y ∷ l) zero {x} e h = let q : y ≡ x = cc in rw q at e.0
  every_at P (y ∷ l) (suc i) e h = every_at P l i e.1 h

  pub every_get : (P : A → Type 0) (l : List A) (i : ℕ) (d : A) → P d → Every P l → P (get_or l i d)
  every_get P [] i d z e = z
  every_get P (x ∷ l) zero d z e = e.0
  every_get P (x ∷ l) (suc i) d z e = every_get P l i d z e.1

  pub every_of_get : (P : A → Type 0) (l : List A) (d : A) → ((i : ℕ) → P (get_or l i d)) → Every P l
  every_of_get P [] d h = tt
  every_of_get P (x ∷ l) d h = (h zero, every_of_get P l d (λ i. h (suc i)))

  pub every_map : (P Q : A → Type 0) (l : List A) → ((x : A) → P x → Q x) → Every P l → Every Q l
  every_map P Q [] f e = tt
  every_map P Q (x ∷ l) f e = (f x e.0, every_map P Q l f e.1)

  pub every_append : (P : A → Type 0) (l m : List A) → Every P l → Every P m → Every P (l ++ m)
  every_append P [] m e f = f
  every_append P (x ∷ l) m e f = (e.0, every_append P l m e.1 f)

  pub every_tab : (P : A → Type 0) (n : ℕ) (f : ℕ → A) → ((i : ℕ) → i < n → P (f i)) → Every P (tab n f)
  unfolding tab
  every_tab P zero f h = tt
  every_tab P (suc n) f h = (h zero (omega arith), every_tab P n (λ k. f (suc k)) (λ i l. h (suc i) (omega arith)))

  pub every_gather : (P : A → Type 0) (n : ℕ) (f : ℕ → List A) → ((i : ℕ) → i < n → Every P (f i)) → Every P (gather n f)
  unfolding gather
  every_gather P zero f h = tt
  every_gather P (suc n) f h = every_append P (gather n f) (f n) (every_gather P n f (λ i l. h i (omega arith))) (h n (omega arith))

  -- the first element that passes a test, where some element does
  pub record First (t : A → Bool) (l : List A) : Type 0 where
    pub value : A
    pub found : lookup l (count_before t l) ≡ some value
    pub passes : t value ≡ true

  first_here : (t : A → Bool) (y : A) (l : List A) → t y ≡ true → First t (y ∷ l)
  unfolding count_before choose lookup
  first_here t y l e = record { value = y; found = rw e; passes = e }

  first_there : (t : A → Bool) (y : A) (l : List A) → t y ≡ false → First t l → First t (y ∷ l)
  unfolding count_before choose lookup
  first_there t y l e f = record { value = f.value; found = rw e f.found; passes = f.passes }

  first_cons : (t : A → Bool) (y : A) (l : List A) (c : Bool) → t y ≡ c → First t l → First t (y ∷ l)
  first_cons t y l true q f = first_here t y l q
  first_cons t y l false q f = first_there t y l q f

  pub count_before_finds : (t : A → Bool) (l : List A) (i : ℕ) (x : A) → lookup l i ≡ some x → t x ≡ true → First t l
  unfolding lookup
  count_before_finds t [] i x e p = none_some e
  count_before_finds t (y ∷ l) zero x e p = first_here t y l (cc)
  count_before_finds t (y ∷ l) (suc i) x e p = first_cons t y l (t y) refl (count_before_finds t l i x e p)

  -- FIRST AT: the first element that passes a test stands at i
  pub record FirstAt (t : A → Bool) (l : List A) (i : ℕ) : Type 0 where
    pub inside : i < length l
    pub before : count_before t l ≡ i

  -- no element passes
  abbrev pub Absent : (A → Bool) → List A → Type 0
  Absent t l = Every (λ x. t x ≡ false) l

  pub first_at_here : (t : A → Bool) (x : A) (l : List A) → t x ≡ true → FirstAt t (x ∷ l) 0
  unfolding count_before choose
  first_at_here t x l e = record { inside = omega arith; before = rw e }

  pub first_at_there : (t : A → Bool) (x : A) {l : List A} {i : ℕ} → t x ≡ false → FirstAt t l i → FirstAt t (x ∷ l) (suc i)
  unfolding count_before choose
  first_at_there t x e f = record { inside = omega (arith, f.inside); before = rw (e, f.before) }

  pub first_at_cast : {t : A → Bool} {l : List A} {i j : ℕ} → FirstAt t l i → i ≡ j → FirstAt t l j
  first_at_cast f e = rw e at f

  -- in x ∷ l it is x itself, or the first in l
  first_at_cons : (t : A → Bool) (x : A) (l : List A) (i : ℕ) (c : Bool) → t x ≡ c → FirstAt t (x ∷ l) i
      → ((t x ≡ true) × (i ≡ 0)) ⊎ ((t x ≡ false) × FirstAt t l (i - 1) × (i ≡ suc (i - 1)))
  unfolding count_before choose
  first_at_cons t x l i true e f = inl (e, sym (rw e at f.before))
  first_at_cons t x l i false e f =
      let b : suc (count_before t l) ≡ i = rw e at f.before in
      inr (e, record { inside = omega (arith, f.inside); before = omega arith }, omega arith)

  pub first_at_left : (t : A → Bool) (l m : List A) (i : ℕ) → FirstAt t l i → FirstAt t (l ++ m) i
  first_at_left t [] m i f = absurd (not-suc-le-zero f.inside)
  first_at_left t (x ∷ l) m i f = go (first_at_cons t x l i (t x) refl f) (λ j g. first_at_left t l m j g)
    where
      go : ((t x ≡ true) × (i ≡ 0)) ⊎ ((t x ≡ false) × FirstAt t l (i - 1) × (i ≡ suc (i - 1)))
          → ((j : ℕ) → FirstAt t l j → FirstAt t (l ++ m) j) → FirstAt t (x ∷ (l ++ m)) i
      go (inl p) ih = first_at_cast (first_at_here t x (l ++ m) p.0) (sym p.1)
      go (inr p) ih = first_at_cast (first_at_there t x p.0 (ih (i - 1) p.1)) (sym p.2)

  pub first_at_right : (t : A → Bool) (l m : List A) (i : ℕ) → Absent t l → FirstAt t m i → FirstAt t (l ++ m) (length l + i)
  first_at_right t [] m i a f = first_at_cast f (omega arith)
  first_at_right t (x ∷ l) m i a f = first_at_cast (first_at_there t x a.0 (first_at_right t l m i a.1 f)) (omega arith)

  pub first_at_tab : (t : A → Bool) (n : ℕ) (f : ℕ → A) (i : ℕ) → i < n → t (f i) ≡ true → ((k : ℕ) → k < i → t (f k) ≡ false) → FirstAt t (tab n f) i
  unfolding tab
  first_at_tab t zero f i h e a = absurd (not-suc-le-zero h)
  first_at_tab t (suc n) f zero h e a = first_at_here t (f zero) _ e
  first_at_tab t (suc n) f (suc i) h e a =
      first_at_there t (f zero) (a zero (omega arith)) (first_at_tab t n (λ k. f (suc k)) i (le_of_suc-le-suc h) e (λ k l. a (suc k) (omega arith)))

  pub first_at_gather : (t : A → Bool) (n : ℕ) (f : ℕ → List A) (k i : ℕ) → k < n → ((m : ℕ) → m < k → Absent t (f m)) → FirstAt t (f k) i
      → FirstAt t (gather n f) (length (gather k f) + i)
  unfolding gather
  first_at_gather t zero f k i h a p = absurd (not-suc-le-zero h)
  first_at_gather t (suc n) f k i h a p = elim (dec_lt k n) [
    | yes l ↦ first_at_left t (gather n f) (f n) _ (first_at_gather t n f k i l a p)
    | no l ↦
        let e : k ≡ n = omega arith in
        let q : FirstAt t (f n) i = rw e at p in
        rw e (first_at_right t (gather n f) (f n) i (every_gather _ n f (λ m h. a m (omega arith))) q)
  ]

-- FIND-LAST, EXISTS
pub find_last_none : (t : ℕ → Bool) → find_last t 0 ≡ none
unfolding find_last
find_last_none t = refl

pub find_last_next : (t : ℕ → Bool) (n : ℕ) → find_last t (n + 1) ≡ choose (t n) (some n) (find_last t n)
unfolding find_last
find_last_next t n = rw add-one

pub exists_none : (t : ℕ → Bool) → exists t 0 ≡ false
unfolding exists
exists_none t = refl

pub exists_next : (t : ℕ → Bool) (n : ℕ) → exists t (n + 1) ≡ choose (t n) true (exists t n)
unfolding exists
exists_next t n = rw add-one

-- the search, by cases on its answer
pub by_find_last : (t : ℕ → Bool) (P : Option ℕ → Type 0) (n : ℕ)
    → (((j : ℕ) → j < n → t j ≡ false) → P none)
    → ((j : ℕ) → t j ≡ true → j < n → P (some j))
    → P (find_last t n)
unfolding find_last
by_find_last t P zero f g = f (λ j h. absurd (not-suc-le-zero h))
by_find_last t P (suc n) f g =
    by_choose P (t n) _ _
    (λ e. g n e (omega arith))
    (λ e. by_find_last t P n
    (λ h. f (λ j l. elim (ℕ_discrete j n) [ yes z ↦ rw z e | no z ↦ h j (omega arith) ]))
    (λ j c l. g j c (omega arith)))

pub find_last_same : (t t' : ℕ → Bool) (n : ℕ) → ((j : ℕ) → j < n → t j ≡ t' j) → find_last t n ≡ find_last t' n
unfolding find_last
find_last_same t t' zero h = refl
find_last_same t t' (suc n) h = rw (h n (omega arith), find_last_same t t' n (λ j l. h j (omega arith)))

pub exists_hit : (t : ℕ → Bool) (n j : ℕ) → t j ≡ true → j < n → exists t n ≡ true
unfolding exists
exists_hit t zero j e h = absurd (not-suc-le-zero h)
exists_hit t (suc n) j e h = by_choose (λ c. c ≡ true) (t n) true (exists t n) (λ _. refl)
    (λ f. elim (ℕ_discrete j n) [ yes z ↦ cc | no z ↦ exists_hit t n j e (omega arith) ])

pub exists_miss : (t : ℕ → Bool) (n : ℕ) → ((j : ℕ) → j < n → t j ≡ false) → exists t n ≡ false
unfolding exists
exists_miss t zero h = refl
exists_miss t (suc n) h = choose_no _ _ (h n (omega arith)) ∙ exists_miss t n (λ j l. h j (omega arith))

-- SOME-OF
either_order : (a b c : Bool) → choose a true (choose b true c) ≡ choose b true (choose a true c)
unfolding choose
either_order true true c = refl
either_order true false c = refl
either_order false true c = refl
either_order false false c = refl

-- number 0 first
exists_first : (t : ℕ → Bool) (n : ℕ) → exists t (suc n) ≡ choose (t 0) true (exists (λ j. t (suc j)) n)
unfolding exists
exists_first t zero = refl
exists_first t (suc n) = ap (choose (t (suc n)) true) (exists_first t n) ∙ either_order (t (suc n)) (t 0) (exists (λ j. t (suc j)) n)

pub some_of_tab : {A : Type 0} (t : A → Bool) (n : ℕ) (f : ℕ → A) → some_of t (tab n f) ≡ exists (λ j. t (f j)) n
unfolding some_of tab exists
some_of_tab t zero f = refl
some_of_tab t (suc n) f = ap (choose (t (f 0)) true) (some_of_tab t n (λ j. f (suc j))) ∙ sym (exists_first (λ j. t (f j)) n)
