-- A block that draws none of 2 to 6: its words are those of its records' block, and so its bytes.
use Rattle.std.specs.Prelude.{◌≡◌, true, false, List, ◌++◌, ℕ, ◌+◌, ◌*◌, ◌%◌, ◌≤◌, ◌<◌, get_or, take, drop}
use Rattle.std.proofs.Math.Path.{refl}
use Rattle.std.proofs.Common.{sym, ◌∙◌, arith, length-take, length-drop}
use Rattle.std.proofs.Math.ListN.{length}
use borrow.Author.Tests.{eqb-true, le-ltb, not-false}
use Rattle.notation.specs.Choice.{any}
use Rattle.notation.specs.Lists.{tab}
use Rattle.notation.specs.Words.{word}
use Rattle.laws.specs.Choice.{any_none}
use Rattle.laws.specs.Lists.{Every, ◌and◌, every_get, tab_length, tab_get}
use Rattle.laws.specs.Words.{bytes_of_read}
use Rattle.rules.specs.Block.{format, length_field, process_count, process_offset, section_count, section_offset, region_count, region_offset, sections_at, regions_at, tight_length}
use Rattle.rules.specs.Block.{sections_from, regions_from, length_for}
use Rattle.rules.specs.Refusals.{format_unknown, counts_outside, counts_out_of_bounds, layout_not_tight}
use Rattle.rules.specs.Refusals.{accepted, header_checks, process_checks, block_checks, well_formed}
use Rattle.rules.specs.Writer.{records_in, records_of, processes_in, sections_in, regions_in, header_words, block_words, block_of, lists_unfit, buffer_too_short, writer_checks, writer_verdict}
use Rattle.accepted.specs.Checks.{Passes, all_checks_pass, all_checks_accepted}
use Rattle.round_trips.specs.Accepting.{block_numbered, writer_numbered}
use Rattle.round_trips.specs.BlockWords.{part_is, four_parts, records_are}

-- every element is a byte
abbrev pub Bytes : List ℕ → Type 0
Bytes b = Every (λ x. x < 256) b

module _ (b : List ℕ) (bytes : Bytes b) (well : well_formed b ≡ true) where
  passes : Every Passes (block_checks b)
  unfolding well_formed
  passes = (all_checks_pass 12 (block_checks b) (block_numbered b)).0 (eqb-true _ 0 well)

  abbrev p : ℕ
  p = process_count b

  abbrev s : ℕ
  s = section_count b

  abbrev r : ℕ
  r = region_count b

  abbrev n : ℕ
  n = 8 + 4 * p + 4 * s + 2 * r

  format_is : format b ≡ 1
  unfolding block_checks header_checks format_unknown
  format_is = eqb-true _ _ (not-false _ passes.1.0)

  counts_are : counts_outside p s r ≡ false
  unfolding block_checks header_checks counts_out_of_bounds
  counts_are = passes.1.1.0

  layout : layout_not_tight b ≡ false
  unfolding block_checks header_checks
  layout = passes.1.1.1.0

  processes_pass : Every Passes (process_checks b)
  unfolding block_checks header_checks
  processes_pass = passes.1.1.1.1

  process_offset_is : process_offset b ≡ 32
  unfolding layout_not_tight
  process_offset_is = eqb-true _ _ (not-false _ (any_none _ layout 0))

  section_offset_is : section_offset b ≡ sections_from p
  unfolding layout_not_tight sections_at
  section_offset_is = eqb-true _ _ (not-false _ (any_none _ layout 1))

  region_offset_is : region_offset b ≡ regions_from p s
  unfolding layout_not_tight regions_at
  region_offset_is = eqb-true _ _ (not-false _ (any_none _ layout 2))

  length_field_is : length_field b ≡ length_for p s r
  unfolding layout_not_tight tight_length
  length_field_is = eqb-true _ _ (not-false _ (any_none _ layout 3))

  pub true_length : length b ≡ length_for p s r
  unfolding layout_not_tight tight_length
  true_length = eqb-true _ _ (not-false _ (any_none _ layout 4))

  -- the block's words
  abbrev ws : List ℕ
  ws = tab n (λ i. word b (4 * i))

  ws_length : length ws ≡ n
  ws_length = tab_length n (λ i. word b (4 * i))

  reads : (i : ℕ) → i < length ws → word b (4 * i) ≡ get_or ws i 0
  reads i h = sym (tab_get n (λ i. word b (4 * i)) i 0 (omega (arith, ws_length)))

  -- the first eight are the header
  header_word : (k v : ℕ) → k < 8 → word b (4 * k) ≡ v → get_or ws (0 + k) 0 ≡ v
  header_word k v h e = let z : 0 + k ≡ k = omega arith in rw z (sym (reads k (omega (arith, ws_length))) ∙ e)

  header_is : take 8 ws ≡ header_words p s r
  unfolding header_words tab format length_field process_count process_offset section_count section_offset region_count region_offset
  header_is = part_is 8 0 ws (omega (arith, ws_length)) ∙ rw (
    header_word 0 1 (omega arith) format_is,
    header_word 1 (length_for p s r) (omega arith) length_field_is,
    header_word 2 p (omega arith) refl,
    header_word 3 32 (omega arith) process_offset_is,
    header_word 4 s (omega arith) refl,
    header_word 5 (sections_from p) (omega arith) section_offset_is,
    header_word 6 r (omega arith) refl,
    header_word 7 (regions_from p s) (omega arith) region_offset_is,
  )

  -- the others are the records
  records_read_are : records_of b ≡ records_in (take (4 * p) (drop 8 ws)) (take (4 * s) (drop (8 + 4 * p) ws)) (take (2 * r) (drop (8 + 4 * p + 4 * s) ws))
  records_read_are = records_are b ws reads (omega (arith, ws_length))

  part_length : (w x : ℕ) → x + w ≤ n → length (take w (drop x ws)) ≡ w
  part_length w x h = length-take w (drop x ws) ∙ omega (arith, length-drop x ws, ws_length)

  -- so the words of the block to be written are the same, and so are its bytes
  same_words : header_words p s r ++ (take (4 * p) (drop 8 ws) ++ (take (4 * s) (drop (8 + 4 * p) ws) ++ take (2 * r) (drop (8 + 4 * p + 4 * s) ws))) ≡ ws
  same_words = rw (sym header_is) (four_parts 8 (4 * p) (4 * s) (2 * r) ws ws_length)

  pub process_count_is : processes_in (records_of b) ≡ p
  process_count_is = rw records_read_are (omega (arith, part_length (4 * p) 8 (omega arith)))

  pub section_count_is : sections_in (records_of b) ≡ s
  section_count_is = rw records_read_are (omega (arith, part_length (4 * s) (8 + 4 * p) (omega arith)))

  pub region_count_is : regions_in (records_of b) ≡ r
  region_count_is = rw records_read_are (omega (arith, part_length (2 * r) (8 + 4 * p + 4 * s) (omega arith)))

  pub same_block : block_of (records_of b) ≡ b
  unfolding block_of block_words
  same_block = rw (process_count_is, section_count_is, region_count_is, records_read_are, same_words)
      (bytes_of_read b n (omega (arith, true_length)) (λ k. every_get (λ x. x < 256) b k 0 (omega arith) bytes))

  lists_fit : lists_unfit (records_of b) ≡ false
  unfolding lists_unfit any
  lists_fit =
      let ps : length (records_of b).processes % 4 ≡ 0 = rw records_read_are (omega (arith, part_length (4 * p) 8 (omega arith))) in
      let ss : length (records_of b).sections % 4 ≡ 0 = rw records_read_are (omega (arith, part_length (4 * s) (8 + 4 * p) (omega arith))) in
      let rs : length (records_of b).regions % 2 ≡ 0 = rw records_read_are (omega (arith, part_length (2 * r) (8 + 4 * p + 4 * s) (omega arith))) in
      rw (ps, ss, rs, process_count_is, section_count_is, region_count_is, counts_are)

  room_enough : (room : ℕ) → length b ≤ room → buffer_too_short (records_of b) room ≡ false
  unfolding buffer_too_short
  room_enough room h = rw (process_count_is, section_count_is, region_count_is) (le-ltb room (length_for p s r) (omega (arith, true_length)))

  pub accepted_again : (room : ℕ) → length b ≤ room → writer_verdict (records_of b) room ≡ accepted
  unfolding writer_verdict writer_checks
  accepted_again room h = all_checks_accepted 22 (writer_checks (records_of b) room) (writer_numbered (records_of b) room)
      (lists_fit and room_enough room h and (rw same_block processes_pass))
