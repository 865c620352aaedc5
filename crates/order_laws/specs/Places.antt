-- The place of each use: how many uses stand before it, as sums over the block's records.
use Rattle.std.specs.Prelude.{◌≡◌, Bool, true, false, ℕ, suc, ◌+◌, ◌-◌, ◌≤◌, ◌<◌, length, eqb}
use Rattle.std.proofs.Math.Path.{refl}
use Rattle.std.proofs.Common.{ap, ◌∙◌, length-append, ne_eqb}
use mathlib.Core.List.{List, [], ◌∷◌, ◌++◌}
use Rattle.std.proofs.Math.Decide.{ℕ_discrete}
use native.Mathlib.Omega.{arith}
use Rattle.notation.specs.Choice.{choose}
use Rattle.notation.specs.Lists.{tab, gather, sum}
use Rattle.rules.specs.Block.{process_count, sections_of, section_record}
use Rattle.rules.specs.Space.{section_page, tracker_page, process_list, block_copy}
use Rattle.rules.specs.Order.{Use, top, holds, root_table, leaf_table, pages_taken, section_pages, section_uses, all_sections, tracker_uses, has_leaf, table_uses, all_tables, below_top, order, uses, tracker_pages, same_use, ram_page}
use Rattle.laws.specs.Choice.{by_choose, choose_no}
use Rattle.laws.specs.Lists.{every_append, every_tab, every_gather, Absent, FirstAt, first_at_cast, first_at_here, first_at_there, first_at_left, first_at_right, first_at_tab, first_at_gather, tab_length}
use Rattle.laws.specs.Counts.{one, sum_none, sum_next, sum_same, gather_length, one_length}
use Rattle.order_laws.specs.Uses.{same_use_refl, same_use_not}

-- the pages of the first n sections of process q, and of all
unfoldable pub pages_before : List ℕ → (ℕ → Bool) → ℕ → ℕ → ℕ
pages_before b xip q n = sum n (λ j. pages_taken b xip (section_record b q j))

unfoldable pub process_pages : List ℕ → (ℕ → Bool) → ℕ → ℕ
process_pages b xip q = pages_before b xip q (sections_of b q)

-- the section pages of processes 2 to n + 1
unfoldable pub user_pages : List ℕ → (ℕ → Bool) → ℕ → ℕ
user_pages b xip n = sum n (λ i. process_pages b xip (i + 2))

-- the place of the first section page of process q
unfoldable pub section_place : List ℕ → (ℕ → Bool) → ℕ → ℕ
section_place b xip q = 4 + user_pages b xip (choose (eqb q 1) (process_count b - 1) (q - 2))

-- the place of the first tracker page
unfoldable pub tracker_place : List ℕ → (ℕ → Bool) → ℕ
tracker_place b xip = section_place b xip 1 + process_pages b xip 1

-- the leaf tables of process q below root slot m; all its tables; the tables of the first n processes
unfoldable pub leaves_below : List ℕ → ℕ → ℕ → ℕ
leaves_below b q m = sum m (λ k. one (has_leaf b q k))

unfoldable pub table_count : List ℕ → ℕ → ℕ
table_count b q = suc (leaves_below b q 1024)

unfoldable pub tables_before : List ℕ → ℕ → ℕ
tables_before b n = sum n (λ i. table_count b (i + 1))

-- the place of process q's root table
unfoldable pub root_place : List ℕ → (ℕ → Bool) → ℕ → ℕ → ℕ
root_place b xip T q = tracker_place b xip + T + 2 + tables_before b (q - 1)

-- ONE MORE
pub pages_before_none : (b : List ℕ) (xip : ℕ → Bool) (q : ℕ) → pages_before b xip q 0 ≡ 0
unfolding pages_before
pages_before_none b xip q = sum_none _

pub pages_before_next : (b : List ℕ) (xip : ℕ → Bool) (q j : ℕ) → pages_before b xip q (j + 1) ≡ pages_before b xip q j + pages_taken b xip (section_record b q j)
unfolding pages_before
pages_before_next b xip q j = sum_next j _

pub user_pages_none : (b : List ℕ) (xip : ℕ → Bool) → user_pages b xip 0 ≡ 0
unfolding user_pages
user_pages_none b xip = sum_none _

pub user_pages_next : (b : List ℕ) (xip : ℕ → Bool) (i : ℕ) → user_pages b xip (i + 1) ≡ user_pages b xip i + process_pages b xip (i + 2)
unfolding user_pages
user_pages_next b xip i = sum_next i _

pub leaves_below_none : (b : List ℕ) (q : ℕ) → leaves_below b q 0 ≡ 0
unfolding leaves_below
leaves_below_none b q = sum_none _

pub leaves_below_next : (b : List ℕ) (q m : ℕ) → leaves_below b q (m + 1) ≡ leaves_below b q m + one (has_leaf b q m)
unfolding leaves_below
leaves_below_next b q m = sum_next m _

pub tables_before_none : (b : List ℕ) → tables_before b 0 ≡ 0
unfolding tables_before
tables_before_none b = sum_none _

pub tables_before_next : (b : List ℕ) (i : ℕ) → tables_before b (i + 1) ≡ tables_before b i + table_count b (i + 1)
unfolding tables_before
tables_before_next b i = sum_next i _

-- LENGTHS
pub section_pages_length : (b : List ℕ) (xip : ℕ → Bool) (q j : ℕ) → length (section_pages b xip q j) ≡ pages_taken b xip (section_record b q j)
unfolding section_pages
section_pages_length b xip q j = tab_length _ _

pub section_uses_length : (b : List ℕ) (xip : ℕ → Bool) (q : ℕ) → length (section_uses b xip q) ≡ process_pages b xip q
unfolding section_uses process_pages pages_before
section_uses_length b xip q = gather_length _ _ ∙ sum_same _ _ _ (λ j _. section_pages_length b xip q j)

pub user_uses_length : (b : List ℕ) (xip : ℕ → Bool) (n : ℕ) → length (gather n (λ i. section_uses b xip (i + 2))) ≡ user_pages b xip n
unfolding user_pages
user_uses_length b xip n = gather_length _ _ ∙ sum_same _ _ _ (λ i _. section_uses_length b xip (i + 2))

pub all_sections_length : (b : List ℕ) (xip : ℕ → Bool) → 4 + length (all_sections b xip) ≡ tracker_place b xip
unfolding all_sections tracker_place section_place choose
all_sections_length b xip = simp (length-append, user_uses_length, section_uses_length) (omega arith)

pub tracker_uses_length : (T : ℕ) → length (tracker_uses T) ≡ T
unfolding tracker_uses
tracker_uses_length T = tab_length _ _

leaves_length : (b : List ℕ) (q m : ℕ) → length (gather m (λ k. choose (has_leaf b q k) (leaf_table q k ∷ []) [])) ≡ leaves_below b q m
unfolding leaves_below
leaves_length b q m = gather_length _ _ ∙ sum_same _ _ _ (λ k _. one_length (has_leaf b q k) (leaf_table q k))

pub table_uses_length : (b : List ℕ) (q : ℕ) → length (table_uses b q) ≡ table_count b q
unfolding table_uses table_count
table_uses_length b q = ap suc (leaves_length b q 1024)

pub tables_length : (b : List ℕ) (n : ℕ) → length (gather n (λ i. table_uses b (i + 1))) ≡ tables_before b n
unfolding tables_before
tables_length b n = gather_length _ _ ∙ sum_same _ _ _ (λ i _. table_uses_length b (i + 1))

pub all_tables_length : (b : List ℕ) → length (all_tables b) ≡ tables_before b (process_count b)
unfolding all_tables
all_tables_length b = tables_length b (process_count b)

pub order_count : (b : List ℕ) (xip : ℕ → Bool) (T : ℕ) → length (order b xip T) ≡ tracker_place b xip + T + 2 + tables_before b (process_count b)
unfolding order below_top
order_count b xip T = simp (length-append, tab_length, tracker_uses_length, all_tables_length) (omega (arith, all_sections_length b xip))

-- PLACES
-- `At b xip T u i`: use u stands at place i of the order, and nowhere before
abbrev pub At : List ℕ → (ℕ → Bool) → ℕ → Use → ℕ → Type 0
At b xip T u i = FirstAt (same_use u) (order b xip T) i

-- numbers that tell uses apart: the part of the order; the process; the section or the kind of table; the page or the root slot
part : Use → ℕ
part (top i) = 0
part (holds (section_page q j i)) = 1
part (holds (tracker_page i)) = 2
part (holds process_list) = 3
part (holds block_copy) = 4
part (root_table q) = 5
part (leaf_table q m) = 5

process : Use → ℕ
process (top i) = 0
process (holds (section_page q j i)) = q
process (holds (tracker_page i)) = 0
process (holds process_list) = 0
process (holds block_copy) = 0
process (root_table q) = q
process (leaf_table q m) = q

section : Use → ℕ
section (top i) = 0
section (holds (section_page q j i)) = j
section (holds (tracker_page i)) = 0
section (holds process_list) = 0
section (holds block_copy) = 0
section (root_table q) = 0
section (leaf_table q m) = 1

page : Use → ℕ
page (top i) = i
page (holds (section_page q j i)) = i
page (holds (tracker_page i)) = i
page (holds process_list) = 0
page (holds block_copy) = 0
page (root_table q) = 0
page (leaf_table q m) = m

differ : (f : Use → ℕ) (u v : Use) → (f u ≡ f v → ⊥) → same_use u v ≡ false
differ f u v n = same_use_not u v (λ e. n (ap f e))

-- parts of the order that a use of another part is not in
module _ (b : List ℕ) (xip : ℕ → Bool) (u : Use) where
  not_top : 1 ≤ part u → Absent (same_use u) (tab 4 top)
  unfolding part
  not_top h = every_tab _ 4 top (λ i _. differ part u (top i) (λ e. omega arith))

  not_sections : (q : ℕ) → (part u ≡ 1 → process u ≡ q → ⊥) → Absent (same_use u) (section_uses b xip q)
  unfolding section_uses section_pages part process
  not_sections q n = every_gather _ _ _ (λ j _. every_tab _ _ _ (λ i _. same_use_not u _ (λ e. n (ap part e) (ap process e))))

  not_users : (m : ℕ) → (part u ≡ 1 → (i : ℕ) → i < m → process u ≡ i + 2 → ⊥) → Absent (same_use u) (gather m (λ i. section_uses b xip (i + 2)))
  not_users m n = every_gather _ _ _ (λ i l. not_sections (i + 2) (λ e f. n e i l f))

  not_tracker : (T : ℕ) → 3 ≤ part u → Absent (same_use u) (tracker_uses T)
  unfolding tracker_uses part
  not_tracker T h = every_tab _ T _ (λ i _. differ part u (holds (tracker_page i)) (λ e. omega arith))

  not_tables : (q : ℕ) → (process u ≡ q → ⊥) → Absent (same_use u) (table_uses b q)
  unfolding table_uses process
  not_tables q n = (
    differ process u (root_table q) n,
    every_gather _ 1024 _ (λ m _. by_choose (Absent (same_use u)) (has_leaf b q m) (leaf_table q m ∷ []) [] (λ _. (differ process u (leaf_table q m) n, tt)) (λ _. tt)),
  )

module _ (b : List ℕ) (xip : ℕ → Bool) (T : ℕ) where
  -- what follows the sections, and the tracker
  abbrev after_tracker : List Use
  after_tracker = holds process_list ∷ holds block_copy ∷ all_tables b

  abbrev after_sections : List Use
  after_sections = tracker_uses T ++ after_tracker

  at_sections : (u : Use) (i : ℕ) → 1 ≤ part u → FirstAt (same_use u) (all_sections b xip) i → At b xip T u (4 + i)
  unfolding order below_top
  at_sections u i h f = first_at_cast (first_at_right (same_use u) (tab 4 top) _ i (not_top b xip u h) (first_at_left (same_use u) _ _ i f)) (simp tab_length)

  not_all_sections : (u : Use) → 2 ≤ part u → Absent (same_use u) (all_sections b xip)
  unfolding all_sections
  not_all_sections u h =
      every_append _ (gather _ _) _ (not_users b xip u _ (λ e i l p. absurd (omega arith))) (not_sections b xip u 1 (λ e _. omega arith))

  -- a use that is in no section
  at_after : (u : Use) (i : ℕ) → 2 ≤ part u → FirstAt (same_use u) after_sections i → At b xip T u (tracker_place b xip + i)
  unfolding order below_top
  at_after u i h f =
      first_at_cast (first_at_right (same_use u) (tab 4 top) _ _ (not_top b xip u (omega arith))
      (first_at_right (same_use u) (all_sections b xip) _ i (not_all_sections u h) f))
      (simp tab_length (omega (arith, all_sections_length b xip)))

  at_end : (u : Use) (i : ℕ) → 3 ≤ part u → FirstAt (same_use u) after_tracker i → At b xip T u (tracker_place b xip + T + i)
  at_end u i h f =
      first_at_cast (at_after u _ (omega arith) (first_at_right (same_use u) (tracker_uses T) _ i (not_tracker b xip u T h) f))
      (simp tracker_uses_length (omega arith))

  -- page i of section j, among the pages of its process
  in_sections : (q j i : ℕ) → j < sections_of b q → i < pages_taken b xip (section_record b q j)
      → FirstAt (same_use (holds (section_page q j i))) (section_uses b xip q) (pages_before b xip q j + i)
  unfolding section_uses section_pages pages_before section page
  in_sections q j i h l =
      let u : Use = holds (section_page q j i) in
      first_at_cast
      (first_at_gather (same_use u) _ _ j i h
      (λ m k. every_tab _ _ _ (λ n _. differ section u (holds (section_page q m n)) (λ e. omega arith)))
      (first_at_tab (same_use u) _ (λ i. holds (section_page q j i)) i l (same_use_refl u) (λ n k. differ page u (holds (section_page q j n)) (λ e. omega arith))))
      (ap (λ (n : ℕ). n + i) (gather_length _ _ ∙ sum_same _ _ _ (λ j _. tab_length _ _)))

  pub place_section : (q j i : ℕ) → 1 ≤ q → q ≤ process_count b → j < sections_of b q → i < pages_taken b xip (section_record b q j)
      → At b xip T (holds (section_page q j i)) (section_place b xip q + (pages_before b xip q j + i))
  unfolding all_sections section_place part process choose
  place_section q j i lo hi h l =
      let u : Use = holds (section_page q j i) in
      elim (ℕ_discrete q 1) [
        | yes e ↦ rw e (first_at_cast
            (at_sections (holds (section_page 1 j i)) _ (omega arith)
            (first_at_right _ (gather (process_count b - 1) (λ i. section_uses b xip (i + 2))) _ _ (not_users b xip _ _ (λ _ i _ p. omega arith))
            (in_sections 1 j i (rw e at h) (rw e at l))))
            (simp user_uses_length (omega arith)))
        | no e ↦
            let s : q - 2 + 2 ≡ q = omega arith in
            let c : choose (eqb q 1) (process_count b - 1) (q - 2) ≡ q - 2 = choose_no _ _ (ne_eqb q 1 e) in
            let f : FirstAt (same_use u) (section_uses b xip (q - 2 + 2)) (pages_before b xip q j + i) = rw s (in_sections q j i h l) in
            first_at_cast
            (at_sections u _ (omega arith) (first_at_left _ _ _ _ (first_at_gather (same_use u) _ (λ i. section_uses b xip (i + 2)) (q - 2) _ (omega arith)
            (λ m k. not_sections b xip u (m + 2) (λ _ p. omega arith)) f)))
            (simp user_uses_length (rw c (omega arith)))
      ]

  pub place_tracker : (i : ℕ) → i < T → At b xip T (holds (tracker_page i)) (tracker_place b xip + i)
  unfolding tracker_uses part page
  place_tracker i h =
      let u : Use = holds (tracker_page i) in
      at_after u i (omega arith) (first_at_left _ _ _ i
      (first_at_tab (same_use u) T (λ i. holds (tracker_page i)) i h (same_use_refl u) (λ n k. differ page u (holds (tracker_page n)) (λ e. omega arith))))

  pub place_process_list : At b xip T (holds process_list) (tracker_place b xip + T)
  unfolding part
  place_process_list = first_at_cast (at_end (holds process_list) 0 (omega arith) (first_at_here _ _ _ (same_use_refl _))) (omega arith)

  pub place_block_copy : At b xip T (holds block_copy) (tracker_place b xip + T + 1)
  unfolding part
  place_block_copy =
      at_end (holds block_copy) 1 (omega arith) (first_at_there _ _ (differ part (holds block_copy) (holds process_list) (λ e. omega arith)) (first_at_here _ _ _ (same_use_refl _)))

  -- element i of process q's tables
  in_tables : (q i : ℕ) (u : Use) → 1 ≤ q → q ≤ process_count b → part u ≡ 5 → process u ≡ q → FirstAt (same_use u) (table_uses b q) i → At b xip T u (root_place b xip T q + i)
  unfolding all_tables root_place part process
  in_tables q i u lo hi p o f =
      let s : q - 1 + 1 ≡ q = omega arith in
      let g : FirstAt (same_use u) (table_uses b (q - 1 + 1)) i = rw s f in
      first_at_cast
      (at_end u _ (omega arith)
      (first_at_there _ _ (differ part u (holds process_list) (λ e. omega arith))
      (first_at_there _ _ (differ part u (holds block_copy) (λ e. omega arith))
      (first_at_gather (same_use u) _ (λ i. table_uses b (i + 1)) (q - 1) i (omega arith) (λ m k. not_tables b xip u (m + 1) (λ e. omega arith)) g))))
      (simp tables_length (omega arith))

  pub place_root : (q : ℕ) → 1 ≤ q → q ≤ process_count b → At b xip T (root_table q) (root_place b xip T q)
  unfolding table_uses part process
  place_root q lo hi = first_at_cast (in_tables q 0 (root_table q) lo hi refl refl (first_at_here _ _ _ (same_use_refl _))) (omega arith)

  pub place_leaf : (q m : ℕ) → 1 ≤ q → q ≤ process_count b → m < 1024 → has_leaf b q m ≡ true → At b xip T (leaf_table q m) (root_place b xip T q + suc (leaves_below b q m))
  unfolding table_uses part process section page choose
  place_leaf q m lo hi h e =
      let u : Use = leaf_table q m in
      let f : FirstAt (same_use u) (choose (has_leaf b q m) (leaf_table q m ∷ []) []) 0 = rw e (first_at_here _ _ _ (same_use_refl u)) in
      first_at_cast
      (in_tables q _ u lo hi refl refl (first_at_there _ _ (differ section u (root_table q) (λ e. omega arith))
      (first_at_gather (same_use u) 1024 (λ k. choose (has_leaf b q k) (leaf_table q k ∷ []) []) m 0 h
      (λ k l. by_choose (Absent (same_use u)) (has_leaf b q k) (leaf_table q k ∷ []) [] (λ _. (differ page u (leaf_table q k) (λ e. omega arith), tt)) (λ _. tt)) f)))
      (simp leaves_length (omega arith))

-- the RAM page of a use, by its place
pub ram_page_at : (b : List ℕ) (xip : ℕ → Bool) (N : ℕ) (u : Use) (i : ℕ) → At b xip (tracker_pages b N) u i → ram_page b xip N u ≡ N - 1 - i
unfolding ram_page uses
ram_page_at b xip N u i f = rw f.before
