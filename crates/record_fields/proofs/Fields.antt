-- The fields of a text without a comment, one after the other.
use Rattle.std.proofs.Common.{◌≡◌, refl, sym, ap, ◌∙◌, List, [], ◌∷◌, Bool, true, false, not, ℕ, suc, ◌+◌, ◌≤◌, ◌<◌, length, get_or, take, drop, drop-cons, get_or-drop, length-drop, add-one, arith}
use Rattle.std.proofs.Math.ListN.{get_or-eq_default, drop_of_length-le}
use Rattle.std.proofs.Math.Nat.{add-zero, zero-add}
use Rattle.std.proofs.lemmas.Bool.{not-true}
use Rattle.std.proofs.lemmas.List.{drop-drop}
use Rattle.notation.specs.Choice.{choose}
use Rattle.notation.specs.Lists.{count_before}
use Rattle.laws.specs.Choice.{by_test, choose_yes, choose_no}
use Rattle.record_fields.specs.Fields.{before, on_first, pieces, non_empty, separator}
use Rattle.record_fields.proofs.Pieces.{count_before_nil, count_before_here, count_before_there, count_before_passes, pieces_cons}

abbrev pub fields_in : List ℕ → List (List ℕ)
fields_in t = non_empty (pieces separator t)

abbrev pub plain : ℕ → Bool
plain c = not (separator c)

-- A GAP changes nothing
fields_gap : (c : ℕ) (l : List ℕ) → separator c ≡ true → fields_in (c ∷ l) ≡ fields_in l
unfolding pieces non_empty
fields_gap c l e = ap non_empty (choose_yes _ _ e)

fields_skip : (l : List ℕ) → fields_in (drop (count_before plain l) l) ≡ fields_in l
fields_skip [] = rw count_before_nil
fields_skip (c ∷ l) = by_test (λ b. separator c ≡ b → fields_in (drop (count_before plain (c ∷ l)) (c ∷ l)) ≡ fields_in (c ∷ l)) (separator c)
    (λ _ e. rw (count_before_there plain c l (rw e)) (fields_skip l ∙ sym (fields_gap c l e)))
    (λ _ e. rw (count_before_here plain c l (rw e))) refl

-- past it a field starts, or the text ends
starts_past : (l : List ℕ) → 0 < length (drop (count_before plain l) l) → separator (get_or (drop (count_before plain l) l) 0 0) ≡ false
starts_past l h =
    let p = count_before_passes plain l 0 (omega (arith, length-drop (count_before plain l) l)) in
    rw (get_or-drop (count_before plain l) l 0 0, add-zero) (not-true _ p)

-- A FIELD at the start
fields_after : (l : List ℕ) → fields_in (drop (count_before separator l) l) ≡ fields_in (drop (suc (count_before separator l)) l)
fields_after [] = rw count_before_nil
fields_after (c ∷ l) = by_test (λ b. separator c ≡ b → fields_in (drop (count_before separator (c ∷ l)) (c ∷ l)) ≡ fields_in (drop (suc (count_before separator (c ∷ l))) (c ∷ l))) (separator c)
    (λ _ e. rw (count_before_here separator c l e) (fields_gap c l e))
    (λ _ e. rw (count_before_there separator c l e) (fields_after l)) refl

non_empty_cons : (c : ℕ) (p : List ℕ) (ps : List (List ℕ)) → non_empty ((c ∷ p) ∷ ps) ≡ (c ∷ p) ∷ non_empty ps
unfolding non_empty
non_empty_cons c p ps = refl

fields_word : (l : List ℕ) → 0 < length l → separator (get_or l 0 0) ≡ false → fields_in l ≡ before separator l ∷ fields_in (drop (count_before separator l) l)
unfolding before
fields_word [] h e = absurd (omega arith)
fields_word (c ∷ l) h e =
    ap non_empty (pieces_cons separator (c ∷ l) h)
    ∙ rw (count_before_there separator c l e) (non_empty_cons c _ _ ∙ ap (λ (ps : List (List ℕ)). (c ∷ take (count_before separator l) l) ∷ ps) (sym (fields_after l)))

fields_nil : fields_in [] ≡ []
unfolding pieces non_empty
fields_nil = refl

before_nil : before separator [] ≡ []
unfolding before
before_nil = rw count_before_nil

-- of a text that starts with a field: that field, and those after it
field_head : (l : List ℕ) → (0 < length l → separator (get_or l 0 0) ≡ false) → before separator l ≡ get_or (fields_in l) 0 []
field_head [] s = rw (before_nil, fields_nil)
field_head (c ∷ l) s = rw (fields_word (c ∷ l) (omega arith) (s (omega arith)))

field_rest : (l : List ℕ) → (0 < length l → separator (get_or l 0 0) ≡ false) → fields_in (drop (count_before separator l) l) ≡ drop 1 (fields_in l)
field_rest [] s = rw (count_before_nil, fields_nil)
field_rest (c ∷ l) s = rw (fields_word (c ∷ l) (omega arith) (s (omega arith)))

-- WALK: of the fields of t those from k on are left in l, at which a field starts, or there is none
pub record AtField (t l : List ℕ) (k : ℕ) : Type 0 where
  pub left : fields_in l ≡ drop k (fields_in t)
  pub starts : 0 < length l → separator (get_or l 0 0) ≡ false

pub field_first : (t r : List ℕ) → r ≡ drop (count_before plain t) t → AtField t r 0
field_first t r e = record { left = rw e (fields_skip t); starts = rw e (starts_past t) }

-- where the first ends at n
pub field_next : (t l m r : List ℕ) (k n : ℕ) → AtField t l k → n ≡ count_before separator l → m ≡ drop n l → r ≡ drop (count_before plain m) m → AtField t r (k + 1)
field_next t l m r k n p v d e = record {
  left = rw (e, fields_skip m, d, v) (field_rest l p.starts ∙ ap (drop 1) p.left ∙ drop-drop 1 k (fields_in t));
  starts = rw e (starts_past m);
}

-- where no separator is left
pub field_none : (t l : List ℕ) (k n : ℕ) → AtField t l k → length l ≤ count_before separator l → k < n → [] ≡ get_or (fields_in t) n []
field_none t l k n p h i =
    let z : fields_in (drop (count_before separator l) l) ≡ [] = rw (drop_of_length-le l h) fields_nil in
    let e : drop (k + 1) (fields_in t) ≡ [] = sym (drop-drop 1 k (fields_in t)) ∙ ap (drop 1) (sym p.left) ∙ sym (field_rest l p.starts) ∙ z in
    sym (get_or-eq_default (fields_in t) [] {n = n} (omega (arith, ap length e, length-drop (k + 1) (fields_in t))))

pub field_here : (t l : List ℕ) (k : ℕ) → AtField t l k → before separator l ≡ get_or (fields_in t) k []
field_here t l k p = field_head l p.starts ∙ rw (p.left, get_or-drop k (fields_in t) 0 [], add-zero)

-- COUNT: how many fields start in a text, after a byte of a field or not
unfoldable pub starts : Bool → List ℕ → ℕ
starts inside [] = 0
starts inside (c ∷ l) = let n = starts true l in choose (separator c) (starts false l) (choose inside n (suc n))

both : (x c : ℕ) (ps : List (List ℕ)) → length (non_empty (on_first c ps)) ≡ length (non_empty (on_first x (on_first c ps)))
unfolding non_empty on_first
both x c [] = refl
both x c (p ∷ ps) = refl

starts_are : (l : List ℕ) → (starts false l ≡ length (fields_in l)) × ((x : ℕ) → suc (starts true l) ≡ length (non_empty (on_first x (pieces separator l))))
unfolding starts choose pieces non_empty on_first
starts_are [] = (refl, λ x. refl)
starts_are (c ∷ l) =
    let p = starts_are l in
    let ps = pieces separator l in
    by_test (λ b. (choose b (starts false l) (suc (starts true l)) ≡ length (non_empty (choose b ([] ∷ ps) (on_first c ps))))
    × ((x : ℕ) → suc (choose b (starts false l) (starts true l)) ≡ length (non_empty (on_first x (choose b ([] ∷ ps) (on_first c ps)))))) (separator c)
    (λ _. (p.0, λ x. ap suc p.0))
    (λ _. (p.1 c, λ x. p.1 c ∙ both x c ps))

-- so far `count` fields start before index i
pub record Counted (t : List ℕ) (i count : ℕ) (inside : Bool) : Type 0 where
  pub all : count + starts inside (drop i t) ≡ length (fields_in t)
  pub few : count ≤ i

pub counted_none : (t : List ℕ) → Counted t 0 0 false
counted_none t = record { all = zero-add _ ∙ (starts_are t).0; few = omega arith }

module _ (t : List ℕ) (i n : ℕ) (inside : Bool) (p : Counted t i n inside) where
  pub counted_all : length t ≤ i → n ≡ length (fields_in t)
  unfolding starts
  counted_all h = let a : n + starts inside [] ≡ length (fields_in t) = rw (drop_of_length-le t {i = i} h) at p.all in omega arith

  module _ (h : i < length t) where
    pub counted_gap : separator (get_or t i 0) ≡ true → Counted t (i + 1) n false
    unfolding starts
    counted_gap e =
        let s : starts inside (drop i t) ≡ starts false (drop (suc i) t) = rw (drop-cons t i 0 h) (choose_yes _ _ e) in
        record { all = rw add-one (rw s at p.all); few = omega (arith, p.few) }

    pub counted_inside : separator (get_or t i 0) ≡ false → inside ≡ true → Counted t (i + 1) n true
    unfolding starts
    counted_inside e b =
        let s : starts inside (drop i t) ≡ starts true (drop (suc i) t) = rw (drop-cons t i 0 h) (choose_no _ _ e ∙ choose_yes _ _ b) in
        record { all = rw add-one (rw s at p.all); few = omega (arith, p.few) }

    pub counted_start : separator (get_or t i 0) ≡ false → inside ≡ false → Counted t (i + 1) (n + 1) true
    unfolding starts
    counted_start e b =
        let s : starts inside (drop i t) ≡ suc (starts true (drop (suc i) t)) = rw (drop-cons t i 0 h) (choose_no _ _ e ∙ choose_no _ _ b) in
        record { all = simp add-one (omega (arith, p.all, s)); few = omega (arith, p.few) }
