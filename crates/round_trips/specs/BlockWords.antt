-- The words of a block: the records that are read from it are parts of the list of its words.
use Rattle.std.specs.Prelude.{◌≡◌, List, [], ◌∷◌, ◌++◌, length, get_or, take, drop}
use Rattle.std.proofs.Common.{sym, ◌∙◌, mul-zero, mul-suc, arith, length-take, length-drop, take-append-drop, take-add, take_all, drop-drop, get_or-take, get_or-drop}
use Prim.Native.Nat.{ℕ, zero, suc, ◌+◌, ◌-◌, ◌*◌, ◌≤◌, ◌<◌}
use Rattle.notation.specs.Lists.{tab, gather}
use Rattle.notation.specs.Words.{word}
use Rattle.laws.specs.Lists.{tab_by}
use Rattle.rules.specs.Block.{process_count, section_count, region_count, sections_at, regions_at, process_at, section_at, region_at}
use Rattle.rules.specs.Block.{entry_point_of, first_section_of, sections_of, kind_word_of, address, size, flash_offset_of, flags, region_start, region_pages}
use Rattle.rules.specs.Writer.{records_in, records_of}

-- w elements from index x on
pub part_is : (w x : ℕ) (l : List ℕ) → x + w ≤ length l → take w (drop x l) ≡ tab w (λ k. get_or l (x + k) 0)
part_is w x l h = tab_by w _ 0 (take w (drop x l))
    (length-take w (drop x l) ∙ omega (arith, length-drop x l))
    (λ i m. get_or-take w (drop x l) i 0 m ∙ get_or-drop x l i 0)

-- n parts of w elements each, from index x on, are w n elements
parts_are : (w n x : ℕ) (l : List ℕ) (f : ℕ → List ℕ) → x + w * n ≤ length l → ((i : ℕ) → i < n → f i ≡ tab w (λ k. get_or l (x + w * i + k) 0))
    → gather n f ≡ take (w * n) (drop x l)
unfolding gather
parts_are w zero x l f h e = rw mul-zero
parts_are w (suc n) x l f h e =
    let m : w * suc n ≡ w * n + w = mul-suc w n in
    let before : gather n f ≡ take (w * n) (drop x l) = parts_are w n x l f (omega arith) (λ i z. e i (omega arith)) in
    let last : f n ≡ take w (drop (w * n) (drop x l)) = rw drop-drop (e n (omega arith) ∙ sym (part_is w (x + w * n) l (omega arith))) in
    rw (m, take-add (w * n) w (drop x l), before, last)

-- a list in four parts
pub four_parts : (u v w x : ℕ) (l : List ℕ) → length l ≡ u + v + w + x
    → take u l ++ (take v (drop u l) ++ (take w (drop (u + v) l) ++ take x (drop (u + v + w) l))) ≡ l
four_parts u v w x l e =
    let last : take x (drop (u + v + w) l) ≡ drop (u + v + w) l = take_all x _ (omega (arith, length-drop (u + v + w) l)) in
    let third : take w (drop (u + v) l) ++ drop (u + v + w) l ≡ drop (u + v) l = rw (drop-drop w (u + v) l) at (take-append-drop w (drop (u + v) l)) in
    let second : take v (drop u l) ++ drop (u + v) l ≡ drop u l = rw (drop-drop v u l) at (take-append-drop v (drop u l)) in
    rw (last, third, second) (take-append-drop u l)

-- THE RECORDS OF A BLOCK, where `ws` are its words
module _ (b ws : List ℕ) (reads : (i : ℕ) → i < length ws → word b (4 * i) ≡ get_or ws i 0) where
  -- word k of a record at word x
  word_at : (x k at : ℕ) → at ≡ 4 * x + 4 * k → x + k < length ws → word b at ≡ get_or ws (x + k) 0
  word_at x k at e h = let z : at ≡ 4 * (x + k) = omega arith in rw z (reads (x + k) h)

  processes_are : 8 + 4 * process_count b ≤ length ws
      → gather (process_count b) (λ i. entry_point_of b (i + 1) ∷ first_section_of b (i + 1) ∷ sections_of b (i + 1) ∷ kind_word_of b (i + 1) ∷ [])
      ≡ take (4 * process_count b) (drop 8 ws)
  unfolding tab entry_point_of first_section_of sections_of kind_word_of process_at
  processes_are h = parts_are 4 (process_count b) 8 ws _ h (λ i z. rw (
    word_at (8 + 4 * i) 0 (32 + 16 * (i + 1 - 1)) (omega arith) (omega arith),
    word_at (8 + 4 * i) 1 (32 + 16 * (i + 1 - 1) + 4) (omega arith) (omega arith),
    word_at (8 + 4 * i) 2 (32 + 16 * (i + 1 - 1) + 8) (omega arith) (omega arith),
    word_at (8 + 4 * i) 3 (32 + 16 * (i + 1 - 1) + 12) (omega arith) (omega arith),
  ))

  sections_are : 8 + 4 * process_count b + 4 * section_count b ≤ length ws
      → gather (section_count b) (λ n. address b n ∷ size b n ∷ flash_offset_of b n ∷ flags b n ∷ [])
      ≡ take (4 * section_count b) (drop (8 + 4 * process_count b) ws)
  unfolding tab address size flash_offset_of flags section_at sections_at
  sections_are h = let x : ℕ = 8 + 4 * process_count b in parts_are 4 (section_count b) x ws _ h (λ n z. rw (
    word_at (x + 4 * n) 0 (32 + 16 * process_count b + 16 * n) (omega arith) (omega arith),
    word_at (x + 4 * n) 1 (32 + 16 * process_count b + 16 * n + 4) (omega arith) (omega arith),
    word_at (x + 4 * n) 2 (32 + 16 * process_count b + 16 * n + 8) (omega arith) (omega arith),
    word_at (x + 4 * n) 3 (32 + 16 * process_count b + 16 * n + 12) (omega arith) (omega arith),
  ))

  regions_are : 8 + 4 * process_count b + 4 * section_count b + 2 * region_count b ≤ length ws
      → gather (region_count b) (λ i. region_start b i ∷ region_pages b i ∷ [])
      ≡ take (2 * region_count b) (drop (8 + 4 * process_count b + 4 * section_count b) ws)
  unfolding tab region_start region_pages region_at regions_at
  regions_are h = let x : ℕ = 8 + 4 * process_count b + 4 * section_count b in parts_are 2 (region_count b) x ws _ h (λ i z. rw (
    word_at (x + 2 * i) 0 (32 + 16 * process_count b + 16 * section_count b + 8 * i) (omega arith) (omega arith),
    word_at (x + 2 * i) 1 (32 + 16 * process_count b + 16 * section_count b + 8 * i + 4) (omega arith) (omega arith),
  ))

  pub records_are : 8 + 4 * process_count b + 4 * section_count b + 2 * region_count b ≤ length ws → records_of b ≡ records_in
      (take (4 * process_count b) (drop 8 ws))
      (take (4 * section_count b) (drop (8 + 4 * process_count b) ws))
      (take (2 * region_count b) (drop (8 + 4 * process_count b + 4 * section_count b) ws))
  unfolding records_of
  records_are h = rw (processes_are (omega arith), sections_are (omega arith), regions_are h)
