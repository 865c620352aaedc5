-- The block of lists that 21 does not refuse: its words, its length, its counts, and the records that are read from it.
use Rattle.std.specs.Prelude.{◌≡◌, false, List, ◌++◌, ℕ, ◌+◌, ◌*◌, ◌%◌, ◌≤◌, ◌<◌, length, get_or, drop}
use Rattle.std.proofs.Math.Path.{refl}
use Rattle.std.proofs.Common.{sym, ◌∙◌, arith, take_at, take_all, drop_at, drop-drop, get_or-drop, eqb-true, ltb-false}
use Rattle.std.proofs.Math.ListN.{length-append, get_or-append}
use Rattle.std.proofs.lemmas.Bool.{not-false}
use Rattle.notation.specs.Words.{word}
use Rattle.laws.specs.Choice.{any_none}
use Rattle.laws.specs.Lists.{Every, ◌and◌, every_get, every_append}
use Rattle.laws.specs.Words.{bytes_of_length, word_of_words}
use Rattle.rules.specs.Block.{format, length_field, process_count, process_offset, section_count, section_offset, region_count, region_offset, sections_from, regions_from, length_for}
use Rattle.rules.specs.Refusals.{outside, counts_outside}
use Rattle.rules.specs.Writer.{Records, records_of, processes_in, sections_in, regions_in, header_words, block_words, block_of, lists_unfit}
use Rattle.round_trips.specs.BlockWords.{records_are}

-- every element is a word of 32 bits
abbrev pub Words : List ℕ → Type 0
Words ws = Every (λ w. w < 0x1_0000_0000) ws

words_append : (xs ys : List ℕ) → Words xs → Words ys → Words (xs ++ ys)
words_append = every_append (λ w. w < 0x1_0000_0000)

pub record WordLists (l : Records) : Type 0 where
  pub process_words_is : Words l.processes
  pub section_words_is : Words l.sections
  pub region_words_is : Words l.regions

-- WHAT 21 LEAVES: whole records, as many as 01 allows
pub record Bounded (l : Records) : Type 0 where
  pub whole_processes : length l.processes ≡ 4 * processes_in l
  pub whole_sections : length l.sections ≡ 4 * sections_in l
  pub whole_regions : length l.regions ≡ 2 * regions_in l
  pub some_processes : 1 ≤ processes_in l
  pub few_processes : processes_in l ≤ 16
  pub some_sections : 1 ≤ sections_in l
  pub few_sections : sections_in l ≤ 64
  pub few_regions : regions_in l ≤ 32

pub bounded : (l : Records) → lists_unfit l ≡ false → Bounded l
unfolding lists_unfit counts_outside outside
bounded l e =
    let p : length l.processes % 4 ≡ 0 = eqb-true _ _ (not-false _ (any_none _ e 0)) in
    let s : length l.sections % 4 ≡ 0 = eqb-true _ _ (not-false _ (any_none _ e 1)) in
    let r : length l.regions % 2 ≡ 0 = eqb-true _ _ (not-false _ (any_none _ e 2)) in
    let counts = any_none _ e 3 in
    record {
      whole_processes = omega arith;
      whole_sections = omega arith;
      whole_regions = omega arith;
      some_processes = ltb-false _ _ (any_none _ (any_none _ counts 0) 0);
      few_processes = ltb-false _ _ (any_none _ (any_none _ counts 0) 1);
      some_sections = ltb-false _ _ (any_none _ (any_none _ counts 1) 0);
      few_sections = ltb-false _ _ (any_none _ (any_none _ counts 1) 1);
      few_regions = ltb-false _ _ (any_none _ (any_none _ counts 2) 1);
    }

module _ (l : Records) (ok : Bounded l) where
  abbrev p : ℕ
  p = processes_in l

  abbrev s : ℕ
  s = sections_in l

  abbrev r : ℕ
  r = regions_in l

  words_length : length (block_words l) ≡ 8 + 4 * p + 4 * s + 2 * r
  unfolding block_words header_words
  words_length = simp length-append (omega (arith, ok.whole_processes, ok.whole_sections, ok.whole_regions))

  pub block_length : length (block_of l) ≡ length_for p s r
  unfolding block_of
  block_length = bytes_of_length (block_words l) ∙ omega (arith, words_length)

  header_fits : Words (header_words p s r)
  unfolding header_words
  header_fits =
      let a : p ≤ 16 = ok.few_processes in
      let b : s ≤ 64 = ok.few_sections in
      let c : r ≤ 32 = ok.few_regions in
      (omega arith) and (omega arith) and (omega arith) and (omega arith) and (omega arith) and (omega arith) and (omega arith) and (omega arith) and tt

  -- RECORDS FROM WORD 8 ON
  after_header : drop 8 (block_words l) ≡ l.processes ++ (l.sections ++ l.regions)
  unfolding block_words header_words
  after_header = refl

  after_processes : drop (8 + 4 * p) (block_words l) ≡ l.sections ++ l.regions
  after_processes = sym (drop-drop (4 * p) 8 (block_words l)) ∙ rw after_header (drop_at l.processes (l.sections ++ l.regions) (4 * p) ok.whole_processes)

  after_sections : drop (8 + 4 * p + 4 * s) (block_words l) ≡ l.regions
  after_sections = sym (drop-drop (4 * s) (8 + 4 * p) (block_words l)) ∙ rw after_processes (drop_at l.sections l.regions (4 * s) ok.whole_sections)

  module _ (ws : WordLists l) where
    words_fit : Words (block_words l)
    unfolding block_words
    words_fit =
        words_append (header_words p s r) _ header_fits
        (words_append l.processes _ ws.process_words_is (words_append l.sections l.regions ws.section_words_is ws.region_words_is))

    reads : (i : ℕ) → i < length (block_words l) → word (block_of l) (4 * i) ≡ get_or (block_words l) i 0
    unfolding block_of
    reads i h = word_of_words (block_words l) i h (every_get (λ w. w < 0x1_0000_0000) (block_words l) i 0 (omega arith) words_fit)

    -- THE HEADER IS READ
    pub format_read : format (block_of l) ≡ 1
    unfolding format block_words header_words
    format_read = reads 0 (omega (arith, words_length))

    pub length_read : length_field (block_of l) ≡ length_for p s r
    unfolding length_field block_words header_words
    length_read = reads 1 (omega (arith, words_length))

    pub processes_read : process_count (block_of l) ≡ p
    unfolding process_count block_words header_words
    processes_read = reads 2 (omega (arith, words_length))

    pub process_offset_read : process_offset (block_of l) ≡ 32
    unfolding process_offset block_words header_words
    process_offset_read = reads 3 (omega (arith, words_length))

    pub sections_read : section_count (block_of l) ≡ s
    unfolding section_count block_words header_words
    sections_read = reads 4 (omega (arith, words_length))

    pub section_offset_read : section_offset (block_of l) ≡ sections_from p
    unfolding section_offset block_words header_words
    section_offset_read = reads 5 (omega (arith, words_length))

    pub regions_read : region_count (block_of l) ≡ r
    unfolding region_count block_words header_words
    regions_read = reads 6 (omega (arith, words_length))

    pub region_offset_read : region_offset (block_of l) ≡ regions_from p s
    unfolding region_offset block_words header_words
    region_offset_read = reads 7 (omega (arith, words_length))

    -- word k of the process records
    pub process_word_read : (k at : ℕ) → k < 4 * p → at ≡ 32 + 4 * k → word (block_of l) at ≡ get_or l.processes k 0
    process_word_read k at h e =
        let z : at ≡ 4 * (8 + k) = omega arith in
        rw z (reads (8 + k) (omega (arith, words_length)) ∙ sym (get_or-drop 8 (block_words l) k 0)
        ∙ rw after_header (get_or-append l.processes (l.sections ++ l.regions) 0 k (omega (arith, ok.whole_processes))))

    -- THE RECORDS ARE READ
    pub records_read : records_of (block_of l) ≡ l
    records_read = rw (
      records_are (block_of l) (block_words l) reads (rw (processes_read, sections_read, regions_read) (omega (arith, words_length))),
      processes_read,
      sections_read,
      regions_read,
      after_header,
      after_processes,
      after_sections,
      take_at l.processes (l.sections ++ l.regions) (4 * p) ok.whole_processes,
      take_at l.sections l.regions (4 * s) ok.whole_sections,
      take_all (2 * r) l.regions (omega (arith, ok.whole_regions)),
    )
