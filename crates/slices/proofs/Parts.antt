-- Laws of a list's tail, and of its words.
use Rattle.std.specs.Prelude.{◌≡◌, refl, true, List, [], ◌∷◌, ℕ, suc, ◌+◌, ◌-◌, ◌≤◌, ◌<◌, min, length, get_or, take, drop, leb}
use Rattle.std.specs.Int.{from_le_bytes, w32}
use Rattle.std.proofs.Common.{◌∙◌, arith, add-zero, le_refl, length-drop, take_all, get_or-drop, le-leb, leb-true}
use Rattle.std.proofs.Math.Nat.{sub-zero}
use Rattle.std.proofs.lemmas.List.{drop_min}
use Rattle.notation.specs.Words.{word}
use Rattle.laws.specs.Choice.{choose_yes}
use Rattle.stores.specs.Writes.{copied}
use Rattle.stores.proofs.Written.{copied_zero}
use Rattle.slices.specs.Words.{AreWords}

-- the part of l from min n (length l) to its end
pub tail_is : (n : ℕ) (l : List ℕ) (m : ℕ) → m ≡ min n (length l) → take (length l - m) (drop m l) ≡ drop n l
tail_is n l m e = take_all (length l - m) (drop m l) (rw length-drop (le_refl (length l - m))) ∙ rw (e, drop_min n l)

-- WORDS
-- of the bytes from an index on
pub word_drop : (n : ℕ) (l : List ℕ) (k : ℕ) → word (drop n l) k ≡ word l (n + k)
unfolding word
word_drop n l k =
    let e : (c : ℕ) → n + (k + c) ≡ n + k + c = λ c. omega arith in
    rw (get_or-drop n l k 0, get_or-drop n l (k + 1) 0, get_or-drop n l (k + 2) 0, get_or-drop n l (k + 3) 0, e 1, e 2, e 3)

pub word_tail : (n : ℕ) (l t : List ℕ) → t ≡ drop n l → word t 0 ≡ word l n
word_tail n l t e = rw (e, word_drop, add-zero)

-- from its bytes
pub word_joined : (l : List ℕ) (k : ℕ) {v : ℕ} → v ≡ from_le_bytes w32 (get_or l k 0 ∷ get_or l (k + 1) 0 ∷ get_or l (k + 2) 0 ∷ get_or l (k + 3) 0 ∷ []) → v ≡ word l k
unfolding word
word_joined l k e = omega (arith, e)

pub words_tail : (n : ℕ) (l t r : List ℕ) → t ≡ drop n l → AreWords t 0 r → AreWords l n r
words_tail n l t r e w = record {
  first = w.first ∙ word_tail n l t e;
  second = w.second ∙ rw (e, word_drop);
  third = w.third ∙ rw (e, word_drop);
  fourth = w.fourth ∙ rw (e, word_drop);
}

-- of a copy onto 16 zeros
pub words_padded : (z t p r : List ℕ) → 16 ≤ length z → ((x : ℕ) → x < 16 → get_or z x 0 ≡ 0) → p ≡ copied z 0 t → AreWords p 0 r
    → AreWords t 0 r
unfolding word
words_padded z t p r h n e w =
    let same : (x : ℕ) → x < 16 → get_or p x 0 ≡ get_or t x 0
    = λ x l. rw e (copied_zero z 0 t x (omega arith) (n x l) ∙ choose_yes _ _ (le-leb 0 x (omega arith)) ∙ rw sub-zero) in
    let at : (x : ℕ) → leb (suc x) 16 ≡ true → get_or p x 0 ≡ get_or t x 0 = λ x l. same x (leb-true (suc x) 16 l) in
    record {
      first = w.first ∙ rw (at 0 refl, at 1 refl, at 2 refl, at 3 refl);
      second = w.second ∙ rw (at 4 refl, at 5 refl, at 6 refl, at 7 refl);
      third = w.third ∙ rw (at 8 refl, at 9 refl, at 10 refl, at 11 refl);
      fourth = w.fourth ∙ rw (at 12 refl, at 13 refl, at 14 refl, at 15 refl);
    }
