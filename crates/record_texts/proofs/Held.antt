-- The words of records, put one after the other.
use Rattle.std.proofs.Common.{◌≡◌, refl, sym, ap, ◌∙◌, List, [], ◌∷◌, ◌++◌, append_assoc, append-nil, ℕ, ◌+◌, ◌-◌, ◌≤◌, ◌<◌, min, length, get_or, take, drop, length-append, length-take-le, length-drop, get_or-take, get_or-drop, ext_get_or, arith}
use Rattle.std.proofs.Math.Decide.{dec_lt}
use Rattle.std.proofs.Math.ListN.{get_or-append}
use Rattle.std.proofs.lemmas.List.{take_more}
use Rattle.laws.specs.Lists.{append_get_right}
use Rattle.stores.specs.Writes.{copied}
use Rattle.text.specs.Text.{Appended}
use Rattle.text.proofs.Appended.{appended_none, appended_then, copied_length, copied_below, copied_inside, copied_above}
use Rattle.record_texts.specs.Texts.{Line, words_of}
use Rattle.record_texts.specs.Keeps.{Keeps}
use Rattle.record_texts.specs.declared.kept.Kept.{Kept}

-- KEPT: a part of a slice is written with as many words as there is room for
module _ (xs ws ys : List ℕ) (at k n : ℕ) (h : at ≤ length xs) (e : n ≡ min (length ws) (length xs - at)) (y : ys ≡ take n ws) (z : k ≡ n) where
  middle_is : length ys ≡ n
  middle_is = ap length y ∙ length-take-le n ws (omega arith)

  right_is : length (drop k (drop at xs)) ≡ length xs - at - n
  right_is = omega (arith, length-drop k (drop at xs), length-drop at xs)

  put_length : length (take at xs ++ (ys ++ drop k (drop at xs))) ≡ length xs
  put_length = omega (arith, middle_is, right_is, length-take-le at xs h, length-append (take at xs) (ys ++ drop k (drop at xs)), length-append ys (drop k (drop at xs)))

  pub put_is : take at xs ++ (ys ++ drop k (drop at xs)) ≡ copied xs at ws
  put_is = ext_get_or 0 _ _ (put_length ∙ sym (copied_length xs at ws)) (λ i l.
      let m : i < length xs = omega (arith, put_length) in
      elim (dec_lt i at) [
        | yes p ↦ get_or-append (take at xs) _ 0 i (omega (arith, length-take-le at xs h)) ∙ get_or-take at xs i 0 p ∙ sym (copied_below xs at ws i m p)
        | no p ↦ append_get_right (take at xs) _ at i 0 (length-take-le at xs h) (omega arith) ∙ elim (dec_lt i (at + n)) [
          | yes q ↦ get_or-append ys _ 0 (i - at) (omega (arith, middle_is)) ∙ ap (λ l. get_or l (i - at) 0) y ∙ get_or-take n ws (i - at) 0 (omega arith)
              ∙ sym (copied_inside xs at ws i m (omega arith) (omega arith))
          | no q ↦
              let o : at + (k + (i - at - n)) ≡ i = omega arith in
              append_get_right ys _ n (i - at) 0 middle_is (omega arith) ∙ get_or-drop k (drop at xs) (i - at - n) 0 ∙ get_or-drop at xs (k + (i - at - n)) 0
              ∙ ap (λ j. get_or xs j 0) o ∙ sym (copied_above xs at ws i m (omega arith))
        ]
      ])

pub keeps_none : (o : Kept) → Keeps o [] o
keeps_none o = record {
  same_slice = refl;
  appended = appended_none _ _ _ (omega (arith, o.in_room));
}

pub keeps_then : {old mid new : Kept} {s t : List ℕ} → Keeps old s mid → Keeps mid t new → Keeps old (s ++ t) new
keeps_then p q = record {
  same_slice = q.same_slice ∙ p.same_slice;
  appended = appended_then p.appended q.appended;
}

-- from a slice with no words kept in it yet
pub keeps_all : {old new : Kept} {xs ws : List ℕ} → old.words.now ≡ xs → old.end ≡ 0 → Keeps old ws new → Appended xs 0 ws new.words.now new.end
keeps_all e z p = rw (e, z) at p.appended

-- ALL LINES
pub words_append : (words : Line → List ℕ) (ls ms : List Line) → words_of words (ls ++ ms) ≡ words_of words ls ++ words_of words ms
unfolding words_of
words_append words [] ms = refl
words_append words (l ∷ ls) ms = ap (λ (w : List ℕ). words l ++ w) (words_append words ls ms) ∙ sym (append_assoc (words l) (words_of words ls) (words_of words ms))

words_one : (words : Line → List ℕ) (l : Line) → words_of words (l ∷ []) ≡ words l
unfolding words_of
words_one words l = append-nil (words l)

-- the words of the first k lines are put
module _ (words : Line → List ℕ) (ls : List Line) where
  abbrev pub Held : ℕ → Kept → Kept → Type 0
  Held k old new = Keeps old (words_of words (take k ls)) new

  pub held_none : (o : Kept) → Held 0 o o
  unfolding words_of
  held_none o = keeps_none o

  pub held_next : {k : ℕ} {old mid new : Kept} (d : Line) → Held k old mid → k < length ls → Keeps mid (words (get_or ls k d)) new → Held (k + 1) old new
  held_next {k} d p h q = rw (take_more ls k d h, words_append, words_one) (keeps_then p q)
