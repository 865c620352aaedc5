-- Laws of searches in a list and of its pieces.
use Rattle.std.proofs.Common.{◌≡◌, refl, sym, ap, ◌∙◌, List, [], ◌∷◌, ◌++◌, Bool, true, false, not, cond, ◌⊎◌, inl, inr, ℕ, suc, ◌+◌, ◌≤◌, ◌<◌, length, get_or, take, drop, ltb, slice_get, Option, Some, None, Bor, arith}
use Rattle.std.specs.Option.{option_map, unwrap_or}
use Rattle.std.proofs.lemmas.Bool.{ltb-false}
use Rattle.std.proofs.lemmas.Option.{unwrap_or-slice_get}
use Rattle.std.proofs.lemmas.List.{take_all}
use Rattle.std.specs.List.{position_or_len, position, slice_split, onto_first}
use Rattle.notation.specs.Choice.{choose}
use Rattle.notation.specs.Lists.{count_before}
use Rattle.laws.specs.Choice.{by_test, by_choose, choose_yes, choose_no}
use Rattle.record_fields.specs.Fields.{before, on_first, pieces}

module _ {A : Type 0} where
  -- COUNT BEFORE
  pub count_before_nil : (t : A → Bool) → count_before t [] ≡ 0
  unfolding count_before
  count_before_nil t = refl

  pub count_before_here : (t : A → Bool) (x : A) (l : List A) → t x ≡ true → count_before t (x ∷ l) ≡ 0
  unfolding count_before
  count_before_here t x l e = choose_yes 0 _ e

  pub count_before_there : (t : A → Bool) (x : A) (l : List A) → t x ≡ false → count_before t (x ∷ l) ≡ suc (count_before t l)
  unfolding count_before
  count_before_there t x l e = choose_no 0 _ e

  pub count_before_le : (t : A → Bool) (l : List A) → count_before t l ≤ length l
  count_before_le t [] = rw count_before_nil (omega arith)
  count_before_le t (x ∷ l) = by_test (λ c. t x ≡ c → count_before t (x ∷ l) ≤ suc (length l)) (t x)
      (λ e h. omega (arith, count_before_here t x l h))
      (λ e h. omega (arith, count_before_there t x l h, count_before_le t l)) refl

  -- it is std's place of the first that passes
  pub count_before_is : (t : A → Bool) (l : List A) → position_or_len t l ≡ count_before t l
  unfolding count_before choose
  count_before_is t [] = refl
  count_before_is t (x ∷ l) = by_test (λ c. cond (not c) (1 + position_or_len t l) 0 ≡ choose c 0 (suc (count_before t l))) (t x)
      (λ e. refl)
      (λ e. omega (arith, count_before_is t l))

  -- the element that it stops at passes
  pub count_before_passes : (t : A → Bool) (l : List A) (d : A) → count_before t l < length l → t (get_or l (count_before t l) d) ≡ true
  count_before_passes t [] d h = absurd (omega arith)
  count_before_passes t (x ∷ l) d h = by_test (λ c. t x ≡ c → t (get_or (x ∷ l) (count_before t (x ∷ l)) d) ≡ true) (t x)
      (λ e f. rw (count_before_here t x l f) f)
      (λ e f. rw (count_before_there t x l f) (count_before_passes t l d (omega (arith, count_before_there t x l f)))) refl

  -- by std's answer
  pub count_before_some : (t : A → Bool) (l : List A) (n : ℕ) → position t l ≡ Some n → n ≡ count_before t l
  count_before_some t l n e = by_test (λ c. cond c (Some (position_or_len t l)) None ≡ Some n → n ≡ count_before t l) (ltb (position_or_len t l) (length l))
      (λ _ h. let m : n ≡ position_or_len t l = cc in m ∙ count_before_is t l)
      (λ _ h. absurd (cc)) e

  pub count_before_none : (t : A → Bool) (l : List A) → position t l ≡ None → length l ≤ count_before t l
  count_before_none t l e = by_test (λ c. ltb (position_or_len t l) (length l) ≡ c → cond c (Some (position_or_len t l)) None ≡ None → length l ≤ count_before t l) (ltb (position_or_len t l) (length l))
      (λ _ _ h. absurd (cc))
      (λ _ f h. omega (arith, count_before_is t l, ltb-false (position_or_len t l) (length l) f)) refl e

  pub before_some : (t : A → Bool) (l : List A) (n : ℕ) → position t l ≡ Some n → take n l ≡ before t l
  unfolding before
  before_some t l n e = rw (count_before_some t l n e)

  pub before_none : (t : A → Bool) (l : List A) → position t l ≡ None → l ≡ before t l
  unfolding before
  before_none t l e = sym (take_all (count_before t l) l (count_before_none t l e))

  -- PIECES
  pieces_first : (t : A → Bool) (x : A) (l : List A)
      → (0 < length l → pieces t l ≡ take (count_before t l) l ∷ pieces t (drop (suc (count_before t l)) l))
      → on_first x (pieces t l) ≡ (x ∷ take (count_before t l) l) ∷ pieces t (drop (suc (count_before t l)) l)
  unfolding on_first pieces
  pieces_first t x [] h = rw count_before_nil
  pieces_first t x (y ∷ l) h = ap (on_first x) (h (omega arith))

  -- the first piece, and those after what ends it
  pub pieces_cons : (t : A → Bool) (l : List A) → 0 < length l → pieces t l ≡ take (count_before t l) l ∷ pieces t (drop (suc (count_before t l)) l)
  unfolding pieces
  pieces_cons t [] h = absurd (omega arith)
  pieces_cons t (x ∷ l) h = by_test (λ c. t x ≡ c → pieces t (x ∷ l) ≡ take (count_before t (x ∷ l)) (x ∷ l) ∷ pieces t (drop (suc (count_before t (x ∷ l))) (x ∷ l))) (t x)
      (λ e f. choose_yes _ _ f ∙ rw (count_before_here t x l f))
      (λ e f. choose_no _ _ f ∙ rw (count_before_there t x l f) (pieces_first t x l (pieces_cons t l))) refl

  -- there are no more pieces than elements
  on_first_length : (x : A) (ps : List (List A)) → length (on_first x ps) ≤ suc (length ps)
  unfolding on_first
  on_first_length x [] = omega arith
  on_first_length x (p ∷ ps) = omega arith

  pub pieces_length : (t : A → Bool) (l : List A) → length (pieces t l) ≤ length l
  unfolding pieces
  pieces_length t [] = omega arith
  pieces_length t (x ∷ l) = by_choose (λ (ps : List (List A)). length ps ≤ suc (length l)) (t x) ([] ∷ pieces t l) (on_first x (pieces t l))
      (λ e. omega (arith, pieces_length t l))
      (λ e. omega (arith, pieces_length t l, on_first_length x (pieces t l)))

  -- SPLIT: std's parts are the pieces, and at the end there may be one more of no elements
  abbrev pub Parts : List (List A) → List (List A) → Type 0
  Parts qs ps = (qs ≡ ps) ⊎ (qs ≡ ps ++ ([] ∷ []))

  parts_gap : (qs ps : List (List A)) → Parts qs ps → Parts ([] ∷ qs) ([] ∷ ps)
  parts_gap qs ps (inl e) = inl (ap (λ (l : List (List A)). [] ∷ l) e)
  parts_gap qs ps (inr e) = inr (ap (λ (l : List (List A)). [] ∷ l) e)

  onto_is : (x : A) (ps : List (List A)) → onto_first x ps ≡ on_first x ps
  unfolding on_first
  onto_is x [] = refl
  onto_is x (p ∷ ps) = refl

  parts_first : (x : A) (qs ps : List (List A)) → Parts qs ps → Parts (onto_first x qs) (on_first x ps)
  unfolding on_first
  parts_first x qs ps (inl e) = inl (rw e (onto_is x ps))
  parts_first x qs [] (inr e) = inl (rw e)
  parts_first x qs (p ∷ ps) (inr e) = inr (rw e)

  pub parts_are : (t : A → Bool) (l : List A) → Parts (slice_split t l) (pieces t l)
  unfolding pieces choose
  parts_are t [] = inr refl
  parts_are t (x ∷ l) = by_test (λ c. Parts (cond c ([] ∷ slice_split t l) (onto_first x (slice_split t l))) (choose c ([] ∷ pieces t l) (on_first x (pieces t l)))) (t x)
      (λ e. parts_gap _ _ (parts_are t l))
      (λ e. parts_first x _ _ (parts_are t l))

-- what stands behind a reference that std answers, and no bytes where it answers none
pub now_or : (r : Option (Bor (List ℕ))) (d : Bor (List ℕ)) (f : List (List ℕ)) (n : ℕ) → d.now ≡ [] → option_map (λ x. x.now) r ≡ slice_get f n → (unwrap_or r d).now ≡ get_or f n []
now_or None d f n z e = z ∙ rw (← e) at (unwrap_or-slice_get f n [])
now_or (Some x) d f n z e = rw (← e) at (unwrap_or-slice_get f n [])
