-- Lines read one after the other, and the words of their records.
use Rattle.std.proofs.Common.{◌≡◌, refl, sym, ap, ◌∙◌, List, [], ◌∷◌, ◌++◌, map, Bool, true, false, inl, inr, Option, Some, None, Ok, Err, Bor, get_or, ℕ, zero, suc, ◌+◌, ◌≤◌, ◌<◌, min, length, take, drop, length-drop, length-take, length-append, append-nil, arith, MatchOption}
use denote.Param.Members.{Mut}
use Rattle.std.specs.Fn.{ComputesKey, CalledAt}
use Rattle.std.specs.List.{IsFirstMatchOrLen, slice_split}
use Rattle.std.specs.Slice.Iter.{split_inclusive_rest, split_inclusive_callee}
use Rattle.std.specs.declared.slice.SplitInclusive.{SplitInclusive}
use Rattle.std.proofs.lemmas.Iterator.{YieldsList}
use Rattle.std.proofs.lemmas.Iterator.Splits.{YieldsList-from_shown_while}
use Rattle.std.proofs.lemmas.Fn.{always_returns_same}
use Rattle.std.proofs.Math.Decide.{dec_lt}
use Rattle.std.proofs.Math.Seq.{take-append_seam, drop-append_seam}
use Rattle.std.proofs.Math.ListN.{drop_of_length-le, get_or-eq_default}
use Rattle.std.proofs.lemmas.List.{get_or_default, length-map, get_or-map, nil_from_length, take_all}
use Rattle.std.proofs.lemmas.List.Sums.{position_or_len_is}
use Rattle.notation.specs.Lists.{count_before}
use Rattle.laws.specs.Choice.{by_test}
use Rattle.record_fields.specs.Fields.{before, pieces, non_empty, fields}
use Rattle.record_fields.proofs.Pieces.{count_before_nil, count_before_here, count_before_there, count_before_le, count_before_is, pieces_cons, pieces_length, parts_are}
use Rattle.notation.specs.Choice.{choose}
use Rattle.std.specs.Result.{result_err}
use Rattle.record_lines.specs.declared.Fault.{Fault}
use Rattle.record_lines.specs.Lines.{said_by, line_of, faulty}
use Rattle.record_texts.specs.Texts.{Line, line_feed, mark_length, lines, sound_lines, fault_in, process_words, section_words, region_words, words_of}
use Rattle.record_texts.specs.Keeps.{Keeps}
use Rattle.record_texts.specs.declared.kept.Kept.{Kept}
use Rattle.record_texts.proofs.Held.{Held, held_none, held_next}

-- COUNT BEFORE: a place up to which no element passes
module _ {A : Type 0} (t : A → Bool) where
  pub count_before_more : (l : List A) (k : ℕ) (d : A) → k ≤ count_before t l → k < length l → t (get_or l k d) ≡ false → k + 1 ≤ count_before t l
  count_before_more [] k d p h e = absurd (omega arith)
  count_before_more (x ∷ l) zero d p h e = omega (arith, count_before_there t x l e)
  count_before_more (x ∷ l) (suc k) d p h e = by_test (λ c. t x ≡ c → suc k + 1 ≤ count_before t (x ∷ l)) (t x)
      (λ _ f. absurd (omega (arith, count_before_here t x l f)))
      (λ _ f. let n = count_before_there t x l f in omega (arith, count_before_more l k d (omega (arith, n)) (omega arith) e)) refl

  pub count_before_at : (l : List A) (k : ℕ) (d : A) → k ≤ count_before t l → k < length l → t (get_or l k d) ≡ true → count_before t l ≡ k
  count_before_at [] k d p h e = absurd (omega arith)
  count_before_at (x ∷ l) zero d p h e = count_before_here t x l e
  count_before_at (x ∷ l) (suc k) d p h e = by_test (λ c. t x ≡ c → count_before t (x ∷ l) ≡ suc k) (t x)
      (λ _ f. absurd (omega (arith, count_before_here t x l f)))
      (λ _ f. let n = count_before_there t x l f in omega (arith, n, count_before_at l k d (omega (arith, n)) (omega arith) e)) refl

  -- what stands before an element stands before it in what ends with it
  pub before_take : (l : List A) → before t (take (suc (count_before t l)) l) ≡ take (count_before t l) l
  unfolding before
  before_take [] = rw count_before_nil
  before_take (x ∷ l) = by_test (λ c. t x ≡ c → take (count_before t (take (suc (count_before t (x ∷ l))) (x ∷ l))) (take (suc (count_before t (x ∷ l))) (x ∷ l)) ≡ take (count_before t (x ∷ l)) (x ∷ l)) (t x)
      (λ _ f. rw (count_before_here t x l f, count_before_here t x [] f))
      (λ _ f. rw (count_before_there t x l f, count_before_there t x (take (suc (count_before t l)) l) f) (ap (λ (m : List A). x ∷ m) (before_take l))) refl

-- SPLIT INCLUSIVE: before what ends each part of std's stands a piece
module _ {F : Type 0} (g : Mut F (Bor ℕ × Unit {0}) Bool) (p : ℕ → Bool) where
  abbrev pub parts_from : SplitInclusive ℕ F → Option (Bor (List ℕ)) → SplitInclusive ℕ F → Type 0
  parts_from s r t = MatchOption r ((length (split_inclusive_rest s) ≡ 0) × (t ≡ s)) (λ x.
      (split_inclusive_rest s ≡ x.now ++ split_inclusive_rest t)
      × ((i : ℕ) × (length x.now ≡ min (i + 1) (length (split_inclusive_rest s)))
      × ((q : ℕ → Bool) → ComputesKey g q (split_inclusive_callee s) → ComputesKey g q (split_inclusive_callee t) × IsFirstMatchOrLen q (split_inclusive_rest s) i))
      × (0 < length (split_inclusive_rest s)))

  first_end : (l : List ℕ) (i : ℕ) → IsFirstMatchOrLen p l i → min (i + 1) (length l) ≡ min (suc (count_before p l)) (length l)
  first_end l i h = omega (
    arith,
    count_before_is p l,
    position_or_len_is p l (min i (length l)) 0 (omega arith) (λ k m. h.0 k 0 (omega arith) (omega arith)) (λ m. let e : min i (length l) ≡ i = omega arith in rw e (h.1 (omega arith) 0)),
  )

  -- the first part, and what is left
  first_part : (l x rest : List ℕ) → l ≡ x ++ rest → length x ≡ min (suc (count_before p l)) (length l) → 0 < length l → pieces p l ≡ before p x ∷ pieces p rest
  first_part l x rest e n h =
      let c : ℕ = count_before p l in
      let z : length l ≡ length x + length rest = ap length e ∙ length-append x rest in
      let x_is : take (suc c) l ≡ x = elim (dec_lt c (length l)) [
        | yes m ↦ let n : suc c ≡ length x = omega arith in ap (λ j. take j l) n ∙ ap (take (length x)) e ∙ take-append_seam x rest
        | no m ↦ take_all (suc c) l (omega arith) ∙ e ∙ ap (λ r. x ++ r) (nil_from_length rest (omega arith)) ∙ append-nil x
      ] in
      let rest_is : drop (suc c) l ≡ rest = elim (dec_lt c (length l)) [
        | yes m ↦ let n : suc c ≡ length x = omega arith in ap (λ j. drop j l) n ∙ ap (drop (length x)) e ∙ drop-append_seam x rest
        | no m ↦ drop_of_length-le l {i = suc c} (omega arith) ∙ sym (nil_from_length rest (omega arith))
      ] in
      pieces_cons p l h ∙ rw rest_is (ap (λ (y : List ℕ). y ∷ pieces p rest) (sym (before_take p l) ∙ ap (before p) x_is))

  pub YieldsList-from_parts : {s : _} {f : F} (l : List ℕ) → split_inclusive_rest s ≡ l → split_inclusive_callee s ≡ f
      → ((x : ℕ) (b : Bool) (q : F) → CalledAt g f x b q → (q ≡ f) × (b ≡ p x)) → YieldsList parts_from (λ x. before p x.now) s (pieces p l)
  YieldsList-from_parts {s} {f} l e c tests =
      rw (← e)
      (YieldsList-from_shown_while parts_from (λ x. before p x.now) (λ t. pieces p (split_inclusive_rest t)) (λ t. ComputesKey g p (split_inclusive_callee t))
      (λ t u h k. nothing (split_inclusive_rest t) k.0)
      (λ t x u h k. let m = k.1.2 p h in (m.0, first_part (split_inclusive_rest t) x.now (split_inclusive_rest u) k.0 (k.1.1 ∙ first_end (split_inclusive_rest t) k.1.0 m.1) k.2))
      s (rw c (always_returns_same g (λ a r. r ≡ p a.0.now) f (λ a r q k. let m = tests a.0.now r q (record { shown = a.0; shows = refl; called = k }) in (m.1, m.0)))))
    where
      nothing : (l : List ℕ) → length l ≡ 0 → length (pieces p l) ≡ 0
      nothing l z = omega (arith, pieces_length p l)

-- WHAT THE LINES SAY
abbrev pub said : List ℕ → List Line
said t = map line_of (lines t)

pub few_lines : (t : List ℕ) → length (lines t) ≤ length t
unfolding lines
few_lines t = omega (arith, pieces_length line_feed (drop (mark_length t) t), length-drop (mark_length t) t)

pub line_nil : ◌≡◌ {A = Line} (line_of []) (Ok None)
unfolding line_of said_by fields before pieces non_empty count_before choose
line_nil = refl

module _ (t : List ℕ) (ps ss rs : Kept) where
  -- the first k lines are not at fault, and the words of their records are put
  pub record Reading (k : ℕ) (ps' ss' rs' : Kept) : Type 0 where
    pub sound : k ≤ count_before faulty (said t)
    pub processes : Held process_words (said t) k ps ps'
    pub sections : Held section_words (said t) k ss ss'
    pub regions : Held region_words (said t) k rs rs'

  pub reading_none : Reading 0 ps ss rs
  reading_none = record {
    sound = omega arith;
    processes = held_none process_words (said t) ps;
    sections = held_none section_words (said t) ss;
    regions = held_none region_words (said t) rs;
  }

  -- what is read of a text, up to the first line that is at fault
  abbrev pub Done : ℕ → Option Fault → Kept → Kept → Kept → Type 0
  Done k f ps' ss' rs' = (k ≡ length (sound_lines t))
      × (f ≡ fault_in t)
      × Keeps ps (words_of process_words (sound_lines t)) ps'
      × Keeps ss (words_of section_words (sound_lines t)) ss'
      × Keeps rs (words_of region_words (sound_lines t)) rs'

  module _ {k : ℕ} {ps' ss' rs' : Kept} (g : Reading k ps' ss' rs') where
    reading_done : count_before faulty (said t) ≡ k → (f : Option Fault) → f ≡ result_err (line_of (get_or (lines t) k [])) → Done k f ps' ss' rs'
    unfolding sound_lines before fault_in
    reading_done e f s =
        let n : k ≡ length (sound_lines t) = omega (arith, g.sound, e, count_before_le faulty (said t), length-take (count_before faulty (said t)) (said t)) in (
          n,
          s ∙ ap (λ j. result_err (line_of (get_or (lines t) j []))) n,
          rw e g.processes,
          rw e g.sections,
          rw e g.regions,
        )

    pub reading_end : k ≡ length (lines t) → Done k None ps' ss' rs'
    reading_end e = reading_done (omega (arith, g.sound, count_before_le faulty (said t), length-map (lines t) line_of)) None
        (rw (get_or-eq_default (lines t) [] {n = k} (omega arith), line_nil) refl)

    -- line k says x
    module _ (h : k < length (lines t)) (line : List ℕ) (l : line ≡ get_or (lines t) k line) (x : Line) (e : x ≡ line_of line) where
      said_is : get_or (said t) k x ≡ x
      said_is = get_or-map line_of (lines t) k line x h ∙ ap line_of (sym l) ∙ sym e

      pub reading_fault : {f : Fault} → x ≡ Err f → Done k (Some f) ps' ss' rs'
      reading_fault {f} z = reading_done (count_before_at faulty (said t) k x g.sound (omega (arith, length-map (lines t) line_of)) (rw (said_is, z))) (Some f)
          (rw (get_or_default (lines t) k [] line h, ← l, ← e, z) refl)

      pub reading_next : faulty x ≡ false → {ps'' ss'' rs'' : Kept} → Keeps ps' (process_words x) ps'' → Keeps ss' (section_words x) ss'' → Keeps rs' (region_words x) rs'' → Reading (k + 1) ps'' ss'' rs''
      reading_next f a b c =
          let n : k < length (said t) = omega (arith, length-map (lines t) line_of) in
          record {
            sound = count_before_more faulty (said t) k x g.sound n (rw said_is f);
            processes = held_next process_words (said t) x g.processes n (rw said_is a);
            sections = held_next section_words (said t) x g.sections n (rw said_is b);
            regions = held_next region_words (said t) x g.regions n (rw said_is c);
          }

-- A LINE BY ITS NUMBER: a part of no bytes at the end changes none
get_end : (ps : List (List ℕ)) (n : ℕ) → get_or (ps ++ ([] ∷ [])) n [] ≡ get_or ps n []
get_end [] zero = refl
get_end [] (suc n) = refl
get_end (p ∷ ps) zero = refl
get_end (p ∷ ps) (suc n) = get_end ps n

pub parts_get : (t : ℕ → Bool) (l : List ℕ) (n : ℕ) → get_or (slice_split t l) n [] ≡ get_or (pieces t l) n []
parts_get t l n = elim (parts_are t l) [
  | inl e ↦ rw e
  | inr e ↦ rw e (get_end (pieces t l) n)
]
