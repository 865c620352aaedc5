-- The reply, and what the writer leaves, by what the text's lines say.
use Rattle.std.proofs.Common.{◌≡◌, refl, sym, ap, ◌∙◌, true, false, List, [], Option, Some, None, Ok, ℕ, ◌+◌, ◌/◌, ◌≤◌, eqb, length, get_or, take, drop, length-drop, arith, eqb-true, ne_eqb}
use Rattle.std.proofs.Math.Decide.{dec_lt}
use Rattle.std.proofs.Math.ListN.{get_or-eq_default}
use Rattle.notation.specs.Choice.{choose}
use Rattle.laws.specs.Choice.{choose_yes, choose_no, choose_same, false_not_true}
use Rattle.rules.specs.Answers.{Written}
use Rattle.rules.specs.Writer.{records_in, processes_in, sections_in, regions_in, written, buffer_after}
use Rattle.text.specs.Text.{Appended}
use Rattle.record_fields.proofs.Pieces.{pieces_length}
use Rattle.record_lines.specs.Lines.{line_of, faulty}
use Rattle.record_texts.specs.Texts.{Line, line_feed, mark_length, lines, sound_lines, fault_in, process_words, section_words, region_words, words_of}
use Rattle.refusal_line.specs.Line.{refused_line}
use Rattle.write_report.specs.Lines.{fault_line, block_line}
use Rattle.std.specs.Prelude.{Result, Ok, Err}
use Rattle.record_lines.specs.declared.Fault.{Fault}
use Rattle.record_texts.proofs.Reading.{line_nil}
use Rattle.std.specs.Result.{result_ok, result_err}
use Rattle.refusals.specs.declared.Refused.{Refused}
use Rattle.refusals.specs.Answers.{written_of}
use Rattle.refusals.proofs.Given.{number_given}
use Rattle.write_report.specs.Replies.{faulty_line, at_fault, records_from, written_line, reply_to, length_from, buffer_from}
use Rattle.write_report.proofs.Held.{held_take, cut_alike, success_short}

-- A FAULT lies in the text
pub fault_inside : (t : List ℕ) (n : ℕ) (l : List ℕ) → l ≡ get_or (lines t) n [] → faulty (line_of l) ≡ true → n + 1 ≤ length t
unfolding lines
fault_inside t n l e f = elim (dec_lt n (length (lines t))) [
  | yes h ↦ omega (arith, pieces_length line_feed (drop (mark_length t) t), length-drop (mark_length t) t)
  | no h ↦
      let z : l ≡ [] = e ∙ get_or-eq_default (lines t) [] {n = n} (omega arith) in
      let g : faulty (line_of l) ≡ false = rw (z, line_nil) in
      false_not_true g f
]

-- the length of what was written
abbrev pub length_of : Written → Option ℕ
length_of w = choose (eqb w.number 0) (Some w.length) None

-- what a call leaves
abbrev pub Leaves : List ℕ → List ℕ → List ℕ → List ℕ → List ℕ → Option ℕ → ℕ → Type 0
Leaves t d d' xs ys n end = (n ≡ length_from t (length d)) × (d' ≡ buffer_from t d) × Appended xs 0 (reply_to t (length d)) ys end

-- what the line says that is read after those that are not at fault
err_is : (r : Line) (f : Fault) → Some f ≡ result_err r → Err f ≡ r
err_is (Ok r) f e = absurd cc
err_is (Err g) f e = cc

none_is : (r : Line) → None ≡ result_err r → faulty r ≡ false
none_is (Ok r) e = refl
none_is (Err g) e = absurd cc

module _ (t : List ℕ) (n : ℕ) (e : n ≡ length (sound_lines t)) where
  pub fault_is : (l : List ℕ) (f : Fault) → l ≡ get_or (lines t) n [] → Some f ≡ fault_in t → Err f ≡ line_of l
  unfolding fault_in
  fault_is l f z h = rw z (err_is _ f (rw (← e) at h))

  pub no_fault : None ≡ fault_in t → faulty (line_of (get_or (lines t) n [])) ≡ false
  unfolding fault_in
  no_fault h = none_is _ (rw (← e) at h)

module _ (t : List ℕ) (n : ℕ) (e : n ≡ length (sound_lines t)) (l : List ℕ) (f : l ≡ get_or (lines t) n []) where
  line_is : l ≡ faulty_line t
  unfolding faulty_line
  line_is = f ∙ rw e

  pub leaves_fault : faulty (line_of l) ≡ true → (d : List ℕ) {xs ys : List ℕ} {end : ℕ} → Appended xs 0 (fault_line (n + 1) l) ys end → Leaves t d d xs ys None end
  unfolding at_fault reply_to length_from buffer_from
  leaves_fault h d p =
      let a : at_fault t ≡ true = rw (← line_is) h in
      (sym (choose_yes _ _ a), sym (choose_yes _ _ a), rw (choose_yes _ _ a, ← e, ← line_is) p)

  pub leaves_written : faulty (line_of l) ≡ false → (d d' : List ℕ) {xs ys : List ℕ} {end : ℕ} (w : Written)
      → w ≡ written (records_from t) (length d) → d' ≡ buffer_after (records_from t) d → Appended xs 0 (written_line (records_from t) w) ys end
      → Leaves t d d' xs ys (length_of w) end
  unfolding at_fault reply_to length_from buffer_from
  leaves_written h d d' w g b p =
      let a : at_fault t ≡ false = rw (← line_is) h in
      (ap length_of g ∙ sym (choose_no _ _ a), b ∙ sym (choose_no _ _ a), rw (choose_no _ _ a, ← g) p)

  -- the same from the words that are held of each list
  module _ (h : faulty (line_of l) ≡ false) {ps ps' ss ss' rs rs' : List ℕ} {p s r : ℕ}
      (hp : 68 ≤ length ps) (hs : 260 ≤ length ss) (hr : 66 ≤ length rs)
      (ap' : Appended ps 0 (words_of process_words (sound_lines t)) ps' p)
      (as' : Appended ss 0 (words_of section_words (sound_lines t)) ss' s)
      (ar' : Appended rs 0 (words_of region_words (sound_lines t)) rs' r)
      (d d' : List ℕ) (w : Written)
      (g : w ≡ written (records_in (take p ps') (take s ss') (take r rs')) (length d))
      (b : d' ≡ buffer_after (records_in (take p ps') (take s ss') (take r rs')) d) where
    cut_is : records_in (take p ps') (take s ss') (take r rs')
        ≡ records_in (take (length ps) (words_of process_words (sound_lines t))) (take (length ss) (words_of section_words (sound_lines t))) (take (length rs) (words_of region_words (sound_lines t)))
    cut_is = rw ((held_take ap').1, (held_take as').1, (held_take ar').1)

    answer_is : w ≡ written (records_from t) (length d)
    unfolding records_from
    answer_is = g ∙ rw cut_is (cut_alike _ _ _ d _ _ _ hp hs hr).0

    buffer_is : d' ≡ buffer_after (records_from t) d
    unfolding records_from
    buffer_is = b ∙ rw cut_is (cut_alike _ _ _ d _ _ _ hp hs hr).1

    counts_are : w.number ≡ 0 → (p / 4 ≡ processes_in (records_from t)) × (s / 4 ≡ sections_in (records_from t)) × (r / 2 ≡ regions_in (records_from t))
    unfolding records_from
    counts_are z =
        let short = success_short (records_from t) (length d) (rw answer_is at z) in
        let np : p ≡ length (words_of process_words (sound_lines t)) = omega (arith, ap'.end_is, short.0) in
        let ns : s ≡ length (words_of section_words (sound_lines t)) = omega (arith, as'.end_is, short.1) in
        let nr : r ≡ length (words_of region_words (sound_lines t)) = omega (arith, ar'.end_is, short.2) in
        (rw np, rw ns, rw nr)

    line_of_lem : choose (eqb w.number 0) (block_line w.length (p / 4) (s / 4) (r / 2)) (refused_line w.number w.place w.offset) ≡ written_line (records_from t) w
    unfolding written_line
    line_of_lem = choose_same (eqb w.number 0) _ _ _ (λ z. let c = counts_are (eqb-true _ _ z) in rw (c.0, c.1, c.2))

    pub leaves_held : {xs ys : List ℕ} {end : ℕ}
        → Appended xs 0 (choose (eqb w.number 0) (block_line w.length (p / 4) (s / 4) (r / 2)) (refused_line w.number w.place w.offset)) ys end
        → Leaves t d d' xs ys (length_of w) end
    leaves_held q = leaves_written h d d' w answer_is buffer_is (rw line_of_lem at q)

-- THE LENGTH of an answer
pub length_is : (w : Result ℕ Refused) → length_of (written_of w) ≡ result_ok w
unfolding written_of choose
length_is (Ok n) = refl
length_is (Err e) = rw (choose_no _ _ (ne_eqb _ 0 (number_given e.refusal))) refl
