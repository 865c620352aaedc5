-- Laws of the answer.
use Rattle.std.proofs.Common.{◌≡◌, refl, sym, ap, ◌∙◌, ◌≢◌, Bool, true, false, List, arith, length, eqb, ltb, eq-eqb, ne_eqb, eqb-true, ℕ, ◌-◌, Ok, Err}
use Rattle.std.proofs.lemmas.Bool.{eqb-false}
use Rattle.notation.specs.Choice.{choose}
use Rattle.laws.specs.Choice.{by_test, by_choose, choose_yes, choose_no}
use Rattle.types.specs.declared.Area.{Area}
use Rattle.rules.specs.Answers.{Answer, Verdict}
use Rattle.rules.specs.Lent.{Image, memory_area, pages_in}
use Rattle.rules.specs.InPlace.{xip_of}
use Rattle.rules.specs.Order.{pages_needed, free_pages, tracker_pages}
use Rattle.rules.specs.Refusals.{ram_too_small, refused, accepted, first_refusal, verdict}
use Rattle.rules.specs.Load.{refusal_answer, boot_answer, answer_on}
use Rattle.refusals.specs.declared.Refused.{Refused}
use Rattle.refusals.specs.declared.Boot.{Boot}
use Rattle.refusals.specs.Answers.{verdict_of, answer_of}
use Rattle.accepted.specs.InOrder.{first_none}
use Rattle.accepted.specs.NoCause.{answer_number, answer_verdict}
use Rattle.accepted.specs.InPlace.{none_past}
use Rattle.xip_sections.specs.Marks.{marked, marks_of, marks_say}
use Rattle.checks.specs.Scan.{checks_before12}
use Rattle.checks.specs.Room.{room_answer, passes_before12, marked_answer, marks_after}
use Rattle.checks.proofs.Verdicts.{before_12_pass, counted, room, verdict_then}

-- ALL BUT 12 NOT GIVEN: by the pages
module _ (b : List ℕ) (xip : ℕ → Bool) (N : ℕ) where
  pub no_room : ltb N (pages_needed b xip N) ≡ true → refusal_answer (refused 12 0 0) ≡ room_answer b xip N
  unfolding room_answer
  no_room t = sym (choose_yes _ _ t)

  pub boot_answer_is : (taken tracker : ℕ) → ltb N (pages_needed b xip N) ≡ false → taken ≡ pages_needed b xip N → tracker ≡ tracker_pages b N
      → record { number = 0; place = 0; taken = taken; free = N - taken; tracker = tracker; offset = 0 } ≡ room_answer b xip N
  unfolding room_answer boot_answer free_pages
  boot_answer_is taken tracker t ek et = rw (ek, et) (sym (choose_no _ _ t))

-- BY MARKS
module _ (x : Image) (ram : Area) (v : Verdict) (e : v ≡ first_refusal (checks_before12 x.block (memory_area x.flash) ram)) where
  pub marked_refused : v.number ≢ 0 → (xip : List ℕ) → (refusal_answer v ≡ marked_answer x ram (length xip)) × (xip ≡ marks_after x ram xip)
  unfolding marked_answer marks_after passes_before12
  marked_refused n xip = rw (← e) (sym (choose_no _ _ (ne_eqb v.number 0 n)), sym (choose_no _ _ (ne_eqb v.number 0 n)))

  pub marked_room : v.number ≡ 0 → (xip marks : List ℕ) (a : Answer) → marks ≡ marks_of x.block x.flash.bytes (length xip)
      → a ≡ room_answer x.block (marked marks) (pages_in ram).pages → (a ≡ marked_answer x ram (length xip)) × (marks ≡ marks_after x ram xip)
  unfolding marked_answer marks_after passes_before12
  marked_room z xip marks a m r =
      rw (← e, ← m) (r ∙ sym (choose_yes _ _ (eq-eqb v.number 0 z)), sym (choose_yes _ _ (eq-eqb v.number 0 z)))

-- THE WHOLE ANSWER
module _ (x : Image) (ram : Area) where
  abbrev first : Verdict
  first = first_refusal (checks_before12 x.block (memory_area x.flash) ram)

  room_left : verdict x ram ≡ room x ram → room_answer x.block (xip_of x) (pages_in ram).pages ≡ answer_on x ram
  unfolding answer_on room_answer ram_too_small refused accepted choose
  room_left e =
      let boot = boot_answer x.block (xip_of x) (pages_in ram).pages in
      rw e
      (by_test
      (λ c. choose c (refusal_answer (refused 12 0 0)) boot
      ≡ choose (eqb (choose c (refused 12 0 0) accepted).number 0) boot (refusal_answer (choose c (refused 12 0 0) accepted)))
      (ltb (pages_in ram).pages (pages_needed x.block (xip_of x) (pages_in ram).pages))
      (λ _. refl)
      (λ _. refl))

  refused_answer : (v : Verdict) → v ≡ verdict x ram → v.number ≢ 0 → refusal_answer v ≡ answer_on x ram
  unfolding answer_on
  refused_answer v e n = rw (← e) (sym (choose_no _ _ (ne_eqb v.number 0 n)))

  -- 64 marks are as many as there can be sections
  marks_right : first.number ≡ 0 → marked (marks_of x.block x.flash.bytes 64) ≡ xip_of x
  marks_right z =
      let pass = before_12_pass x.block (memory_area x.flash) ram first refl z in
      marks_say x.block x.flash.bytes 64
      (λ n h. none_past x.block x.flash.bytes n (omega (arith, (counted x.block pass.1).few_sections)))

  pub marked_answer_is : marked_answer x ram 64 ≡ answer_on x ram
  unfolding marked_answer passes_before12
  marked_answer_is =
      by_choose (λ a. a ≡ answer_on x ram) (eqb first.number 0) _ _
      (λ z. rw (marks_right (eqb-true first.number 0 z)) (room_left (verdict_then x ram ∙ choose_yes _ _ z)))
      (λ z. refused_answer first (sym (verdict_then x ram ∙ choose_no _ _ z)) (eqb-false first.number 0 z))

  -- and where it boots, they are right
  pub boot_marks : (xip : List ℕ) → length xip ≡ 64 → (answer_on x ram).number ≡ 0 → marked (marks_after x ram xip) ≡ xip_of x
  unfolding marks_after passes_before12
  boot_marks xip l z =
      let none-given : (verdict x ram).number ≡ 0 = sym (answer_number x ram) ∙ z in
      let passed : first.number ≡ 0 = (first_none _ _ (ap (λ (v : Verdict). v.number) (sym (verdict_then x ram)) ∙ none-given)).0 in
      rw (choose_yes _ xip (eq-eqb first.number 0 passed), l) (marks_right passed)

  -- the verdict from it
  told : (a : Answer) → a ≡ answer_on x ram → refused a.number a.place a.offset ≡ verdict x ram
  told a e = rw e (answer_verdict x ram)

  pub told_err : (e : Refused) → answer_of (Err e) ≡ answer_on x ram → verdict_of (Err e) ≡ verdict x ram
  unfolding answer_of verdict_of refusal_answer refused
  told_err e h = told (answer_of (Err e)) h

  pub told_ok : (p : Boot) (u : Unit) → answer_of (Ok p) ≡ answer_on x ram → verdict_of (Ok u) ≡ verdict x ram
  unfolding answer_of verdict_of accepted
  told_ok p u h = told (answer_of (Ok p)) h
