-- The writer's answer and its buffer, by the first refusal.
use Rattle.std.proofs.Common.{◌≡◌, sym, ap, true, false, List, arith, length, get_or, ne_eqb, lt-ltb, le-ltb, ltb-false, ℕ, ◌+◌, ◌-◌, ◌*◌, ◌≤◌, ◌<◌}
use Rattle.std.specs.Prelude.{Ok, Err}
use Rattle.refusals.proofs.Given.{number_given}
use Rattle.notation.specs.Choice.{choose}
use Rattle.laws.specs.Choice.{choose_yes}
use Rattle.laws.specs.Counts.{sum_same}
use Rattle.laws.specs.Lists.{every_of_get}
use Rattle.rules.specs.Block.{entry_point_of, first_section_of, sections_of, kind_word_of, process_at, process_record}
use Rattle.rules.specs.Refusals.{sections_before, process_check, refused, accepted, first_refusal, process_checks}
use Rattle.rules.specs.Writer.{Records, processes_in, sections_in, block_of, lists_unfit, buffer_too_short, writer_checks, writer_verdict, written, buffer_after}
use Rattle.accepted.specs.InOrder.{scan_same}
use Rattle.round_trips.specs.Accepting.{accepts, accepted_whole}
use Rattle.round_trips.specs.WrittenBlock.{WordLists, Bounded, bounded, processes_read, sections_read, process_word_read}
use Rattle.refusals.specs.declared.Refused.{Refused}
use Rattle.refusals.specs.Numbers.{number_of}
use Rattle.refusals.specs.Answers.{refused_of, written_of}
use Rattle.block_writer.specs.Lists.{block_length, Few, process_in, sections_before_in, check_in, process_refusal, block_at_start}

-- REFUSAL 6 of the list is that of the block to be written
module _ (l : Records) (ok : Bounded l) (ws : WordLists l) where
  record_same : (i : ℕ) → i < processes_in l → process_record (block_of l) (i + 1) ≡ process_in l.processes i
  unfolding process_record process_in entry_point_of first_section_of sections_of kind_word_of process_at
  record_same i h = rw (
    process_word_read l ok ws (4 * i) (32 + 16 * (i + 1 - 1)) (omega arith) (omega arith),
    process_word_read l ok ws (4 * i + 1) (32 + 16 * (i + 1 - 1) + 4) (omega arith) (omega arith),
    process_word_read l ok ws (4 * i + 2) (32 + 16 * (i + 1 - 1) + 8) (omega arith) (omega arith),
    process_word_read l ok ws (4 * i + 3) (32 + 16 * (i + 1 - 1) + 12) (omega arith) (omega arith),
  )

  sum_is : (i : ℕ) → i ≤ processes_in l → sections_before (block_of l) i ≡ sections_before_in l.processes i
  unfolding sections_before sections_before_in process_record
  sum_is i h = sum_same i _ _ (λ k m. ap (λ r. r.sections) (record_same k (omega arith)))

  pub refusal_6 : process_refusal l.processes (sections_in l) ≡ first_refusal (process_checks (block_of l))
  unfolding process_refusal process_checks process_check first_refusal check_in
  refusal_6 = rw (processes_read l ok ws)
      (scan_same _ _ 0 (processes_in l) accepted (λ i z h.
      rw (processes_read l ok ws, sections_read l ok ws, record_same i (omega arith), sum_is i (omega arith))))

-- WHAT 21 LEAVES, in words
pub few : (l : Records) → lists_unfit l ≡ false → Few l
few l e =
    let ok = bounded l e in
    record {
      process_words_is = omega (arith, ok.whole_processes, ok.few_processes);
      section_words_is = omega (arith, ok.whole_sections, ok.few_sections);
      region_words_is = omega (arith, ok.whole_regions, ok.few_regions);
      length_is = omega (arith, ok.whole_processes, ok.whole_sections, ok.whole_regions);
    }

-- the elements of lent words
pub word_lists : (l : Records) → ((i : ℕ) → get_or l.processes i 0 < 0x1_0000_0000) → ((i : ℕ) → get_or l.sections i 0 < 0x1_0000_0000)
    → ((i : ℕ) → get_or l.regions i 0 < 0x1_0000_0000) → WordLists l
word_lists l p s r = record {
  process_words_is = every_of_get (λ w. w < 0x1_0000_0000) l.processes 0 p;
  section_words_is = every_of_get (λ w. w < 0x1_0000_0000) l.sections 0 s;
  region_words_is = every_of_get (λ w. w < 0x1_0000_0000) l.regions 0 r;
}

-- THE VERDICT
module _ (l : Records) (room : ℕ) where
  pub verdict_21 : lists_unfit l ≡ true → refused 21 0 0 ≡ writer_verdict l room
  unfolding writer_verdict writer_checks first_refusal
  verdict_21 e = sym (choose_yes _ _ e)

  pub verdict_22 : lists_unfit l ≡ false → room < block_length l → refused 22 0 0 ≡ writer_verdict l room
  unfolding writer_verdict writer_checks first_refusal choose buffer_too_short
  verdict_22 e h = rw (e, lt-ltb room _ h)

  pub verdict_6 : lists_unfit l ≡ false → block_length l ≤ room → first_refusal (process_checks (block_of l)) ≡ writer_verdict l room
  unfolding writer_verdict writer_checks first_refusal choose buffer_too_short
  verdict_6 e h = rw (e, le-ltb room _ h)

-- THE ANSWER to a refusal, and to none
module _ (l : Records) (d : List ℕ) where
  pub refuses : (e : Refused) → refused_of e ≡ writer_verdict l (length d) → (written_of (Err e) ≡ written l (length d)) × (d ≡ buffer_after l d)
  unfolding written buffer_after choose written_of refused
  refuses e is = let n = ne_eqb (number_of e.refusal) 0 (number_given e.refusal) in (rw (← is, n), rw (← is, n))

  module _ (is : accepted ≡ writer_verdict l (length d)) where
    none : (writer_verdict l (length d)).number ≡ 0
    unfolding accepted refused
    none = ap (λ w. w.number) (sym is)

    pub few_accepted : Few l
    few_accepted = few l (accepts l (length d) none).lists_fit

    pub room_accepted : block_length l ≤ length d
    unfolding buffer_too_short
    room_accepted = ltb-false (length d) (block_length l) (accepts l (length d) none).buffer_long

    pub writes : (written_of (Ok (block_length l)) ≡ written l (length d)) × (block_at_start l d ≡ buffer_after l d)
    unfolding written buffer_after block_at_start accepted refused choose written_of
    writes = let a = accepted_whole l (length d) none in (rw a, rw a)
