-- What stands at a virtual page, by cases: one rule for every statement about it.
use Rattle.std.specs.Prelude.{◌≡◌, refl, ◌≢◌, ◌⊎◌, List, Bool, true, false, ℕ, ◌+◌, ◌-◌, ◌/◌, ◌≤◌, ◌<◌, leb, eqb}
use Rattle.std.proofs.Common.{sym, inl, inr, arith, eqb-true, eq-eqb, ne_eqb, leb-true, ltb-true, le-leb}
use Rattle.std.proofs.lemmas.Bool.{eqb-false}
use Rattle.notation.specs.Choice.{choose}
use Rattle.notation.specs.Lists.{exists}
use Rattle.rules.specs.Block.{process_count, stack_pages, stack_first, sections_of, section_record, first_page_of, last_page_of, page_count}
use Rattle.rules.specs.Space.{Data, section_page, tracker_page, process_list, block_copy, Mapping, unmapped, stack, maps, section_rights, kernel_read, kernel_write, has_page, section_mapping, section_at_page, in_tracker, kernel_page, in_stack, user_page, mapping_at}
use Rattle.types.specs.declared.PageRange.{PageRange}
use Rattle.types.specs.declared.Rights.{Rights}
use Rattle.rules.specs.Order.{holds, pages_taken, order, slots_of, in_slots, has_leaf, data_owner}
use Rattle.rules.specs.Load.{phys_page, flash_page, data_page}
use Rattle.laws.specs.Choice.{false_not_true, by_test, by_choose, choose_yes, choose_no, and_left, and_right, and_both, choose_or}
use Rattle.laws.specs.Lists.{Occurs, by_find_last, exists_hit, some_of_tab}
use Rattle.accepted.specs.Sections.{has_page_first, has_page_last}
use Rattle.accepted.specs.Stacks.{stack_at_most}
use Rattle.order_laws.specs.Uses.{order_section, order_tracker, order_process_list, order_block_copy}

pub in_tracker_first : (T v : ℕ) → in_tracker T v ≡ true → 0xFFF40 ≤ v
unfolding in_tracker
in_tracker_first T v e = leb-true _ _ (and_left _ _ e)

pub in_tracker_last : (T v : ℕ) → in_tracker T v ≡ true → v < 0xFFF40 + T
unfolding in_tracker
in_tracker_last T v e = ltb-true _ _ (and_right (leb 0xFFF40 v) _ e)

pub in_stack_first : (b : List ℕ) (q v : ℕ) → in_stack b q v ≡ true → 0x80000 - stack_pages b q ≤ v
unfolding in_stack stack_first
in_stack_first b q v e = leb-true _ _ (and_left _ _ e)

pub in_stack_last : (b : List ℕ) (q v : ℕ) → in_stack b q v ≡ true → v < 0x80000
unfolding in_stack
in_stack_last b q v e = ltb-true _ _ (and_right (leb (stack_first b q) v) _ e)

-- every stack lies in root slot 511, whatever its pages
pub in_stack_slot : (b : List ℕ) (q v : ℕ) → in_stack b q v ≡ true → v / 1024 ≡ 511
in_stack_slot b q v e = omega (arith, stack_at_most b q, in_stack_first b q v e, in_stack_last b q v e)

-- THE CASES. A page with the user right is of a section of the process itself, which is not the kernel
module _ (P : Mapping → Type 0) (b : List ℕ) (T q v : ℕ)
    (p-unmapped : P unmapped)
    (p-stack : q ≢ 1 → in_stack b q v ≡ true → P stack)
    (p-user : q ≢ 1 → (j : ℕ) → let n = section_record b q j in j < sections_of b q → has_page b v n ≡ true
    → P (maps (section_page q j (v - first_page_of b n)) (section_rights b q n)))
    (p-kernel : (j : ℕ) → let n = section_record b 1 j in j < sections_of b 1 → has_page b v n ≡ true
    → P (maps (section_page 1 j (v - first_page_of b n)) (section_rights b 1 n)))
    (p-block-copy : v ≡ 0xFFF00 → P (maps block_copy kernel_read))
    (p-tracker : in_tracker T v ≡ true → P (maps (tracker_page (v - 0xFFF40)) kernel_write))
    (p-process-list : v ≡ 0xFFF80 → P (maps process_list kernel_read)) where
  at_section : (p : ℕ)
      → ((j : ℕ) → let n = section_record b p j in j < sections_of b p → has_page b v n ≡ true → P (maps (section_page p j (v - first_page_of b n)) (section_rights b p n)))
      → P (section_at_page b p v)
  unfolding section_at_page section_mapping
  at_section p h = by_find_last (λ j. has_page b v (section_record b p j)) (λ m. P (section_mapping b p v m)) (sections_of b p) (λ _. p-unmapped) (λ j e l. h j l e)

  pub by_mapping : P (mapping_at b T q v)
  unfolding mapping_at kernel_page user_page
  by_mapping =
      by_choose P (eqb (v / 1024) 1023) _ _
      (λ _. by_choose P (eqb v 0xFFF80) _ _ (λ e. p-process-list (eqb-true v 0xFFF80 e))
      (λ _. by_choose P (in_tracker T v) _ _ p-tracker
      (λ _. by_choose P (eqb v 0xFFF00) _ _ (λ e. p-block-copy (eqb-true v 0xFFF00 e))
      (λ _. at_section 1 p-kernel))))
      (λ _. by_choose P (eqb q 1) _ _ (λ _. p-unmapped)
      (λ u. by_choose P (in_stack b q v) _ _ (p-stack (eqb-false q 1 u)) (λ _. at_section q (p-user (eqb-false q 1 u)))))

-- every page is readable
abbrev pub Readable : Mapping → Type 0
Readable unmapped = Unit {0}
Readable stack = Unit {0}
Readable (maps d t) = t.read ≡ true

pub readable : (b : List ℕ) (T q v : ℕ) → Readable (mapping_at b T q v)
unfolding section_rights kernel_read kernel_write
readable b T q v = by_mapping Readable b T q v tt (λ _ _. tt) (λ _ _ _ _. refl) (λ _ _ _. refl) (λ _. refl) (λ _. refl) (λ _. refl)

-- every page of data that stands somewhere is in flash or in the order, and stands at its one virtual page
unfoldable pub home_of : List ℕ → Data → ℕ
home_of b (section_page q j i) = first_page_of b (section_record b q j) + i
home_of b (tracker_page i) = 0xFFF40 + i
home_of b process_list = 0xFFF80
home_of b block_copy = 0xFFF00

-- a page of a section that is used in place, and one that is none of these
abbrev pub Flashed : List ℕ → (ℕ → Bool) → Data → Type 0
Flashed b xip (section_page q j i) =
    (1 ≤ q) × (q ≤ process_count b) × (j < sections_of b q) × (xip (section_record b q j) ≡ true) × (i < page_count b (section_record b q j))
Flashed b xip (tracker_page i) = ⊥
Flashed b xip process_list = ⊥
Flashed b xip block_copy = ⊥

abbrev pub Copied : List ℕ → (ℕ → Bool) → Data → Type 0
Copied b xip (section_page q j i) = xip (section_record b q j) ≡ false
Copied b xip (tracker_page i) = Unit {0}
Copied b xip process_list = Unit {0}
Copied b xip block_copy = Unit {0}

-- each is where the rules put it
pub copied_page : (b : List ℕ) (xip : ℕ → Bool) (F : ℕ) (ram : PageRange) (d : Data) → Copied b xip d → data_page b xip F ram d ≡ phys_page b xip ram (holds d)
unfolding data_page
copied_page b xip F ram (section_page q j i) c = choose_no _ _ c
copied_page b xip F ram (tracker_page i) c = refl
copied_page b xip F ram process_list c = refl
copied_page b xip F ram block_copy c = refl

pub flashed_page : (b : List ℕ) (xip : ℕ → Bool) (F : ℕ) (ram : PageRange) (q j i : ℕ) → xip (section_record b q j) ≡ true
    → data_page b xip F ram (section_page q j i) ≡ flash_page b F (section_record b q j) i
unfolding data_page
flashed_page b xip F ram q j i e = choose_yes _ _ e

-- a page of data is in flash, or in the order of pages
abbrev pub Stored : List ℕ → (ℕ → Bool) → ℕ → Data → Type 0
Stored b xip T d = Flashed b xip d ⊎ (Copied b xip d × Occurs (order b xip T) (holds d))

abbrev pub AtHome : List ℕ → (ℕ → Bool) → ℕ → ℕ → Mapping → Type 0
AtHome b xip T v unmapped = Unit {0}
AtHome b xip T v stack = Unit {0}
AtHome b xip T v (maps d t) = Stored b xip T d × (home_of b d ≡ v)

section_stored : (b : List ℕ) (xip : ℕ → Bool) (T q j i : ℕ) → 1 ≤ q → q ≤ process_count b → j < sections_of b q → i < page_count b (section_record b q j)
    → Stored b xip T (section_page q j i)
unfolding pages_taken
section_stored b xip T q j i lo hi l h =
    let n : ℕ = section_record b q j in
    by_test (λ c. xip n ≡ c → Stored b xip T (section_page q j i)) (xip n)
    (λ _ e. inl (lo, hi, l, e, h))
    (λ _ e. inr (e, order_section b xip T q j i lo hi l (rw e (rw (choose_no {A = ℕ} {c = false} 0 (page_count b n) refl) h)))) refl

section_at_home : (b : List ℕ) (xip : ℕ → Bool) (T q v j : ℕ) → 1 ≤ q → q ≤ process_count b → j < sections_of b q → has_page b v (section_record b q j) ≡ true
    → Stored b xip T (section_page q j (v - first_page_of b (section_record b q j))) × (home_of b (section_page q j (v - first_page_of b (section_record b q j))) ≡ v)
unfolding home_of page_count
section_at_home b xip T q v j lo hi l e =
    let f : first_page_of b (section_record b q j) ≤ v = has_page_first b v _ e in
    let g : v ≤ last_page_of b (section_record b q j) = has_page_last b v _ e in
    (section_stored b xip T q j (v - first_page_of b (section_record b q j)) lo hi l (omega arith), omega arith)

pub at_home : (b : List ℕ) (xip : ℕ → Bool) (T q v : ℕ) → 1 ≤ q → q ≤ process_count b → AtHome b xip T v (mapping_at b T q v)
unfolding home_of
at_home b xip T q v lo hi =
    by_mapping (AtHome b xip T v) b T q v tt (λ _ _. tt)
    (λ _ j l e. section_at_home b xip T q v j lo hi l e)
    (λ j l e. section_at_home b xip T 1 v j (omega arith) (omega arith) l e)
    (λ e. (inr (tt, order_block_copy b xip T), sym e))
    (λ e. (inr (tt, order_tracker b xip T (v - 0xFFF40) (omega (arith, in_tracker_first T v e, in_tracker_last T v e))), omega (arith, in_tracker_first T v e)))
    (λ e. (inr (tt, order_process_list b xip T), sym e))

-- a page of a section has the section's rights
abbrev pub SectionRights : List ℕ → Data → Rights → Type 0
SectionRights b (section_page q j i) t = t ≡ section_rights b q (section_record b q j)
SectionRights b (tracker_page i) t = Unit {0}
SectionRights b process_list t = Unit {0}
SectionRights b block_copy t = Unit {0}

-- whose page it is: with the user right the process's own, which is not the kernel; without it the kernel's
abbrev pub Own : List ℕ → ℕ → Mapping → Type 0
Own b q unmapped = Unit {0}
Own b q stack = Unit {0}
Own b q (maps d t) = (data_owner d ≡ choose t.user q 1) × (t.user ≡ true → q ≢ 1) × SectionRights b d t

pub own : (b : List ℕ) (T q v : ℕ) → Own b q (mapping_at b T q v)
unfolding section_rights kernel_read kernel_write data_owner choose
own b T q v =
    by_mapping (Own b q) b T q v tt (λ _ _. tt) (λ user _ _ _. (rw (ne_eqb q 1 user), (λ _. user), refl)) (λ _ _ _. (refl, false_not_true refl, refl))
    (λ _. (refl, false_not_true refl, tt)) (λ _. (refl, false_not_true refl, tt)) (λ _. (refl, false_not_true refl, tt))

-- WHERE A PROCESS HAS NO LEAF TABLE, NOTHING STANDS
in_root_slot : (b : List ℕ) (v n : ℕ) → has_page b v n ≡ true → in_slots (v / 1024) (slots_of b n) ≡ true
unfolding in_slots slots_of
in_root_slot b v n e =
    let f : first_page_of b n ≤ v = has_page_first b v n e in
    let g : v ≤ last_page_of b n = has_page_last b v n e in
    and_both (le-leb (first_page_of b n / 1024) (v / 1024) (omega arith)) (le-leb (v / 1024) (last_page_of b n / 1024) (omega arith))

user_unmapped : (b : List ℕ) (q v : ℕ) → choose (eqb (v / 1024) 511) true (exists (λ j. in_slots (v / 1024) (slots_of b (section_record b q j))) (sections_of b q)) ≡ false
    → user_page b q v ≡ unmapped
unfolding user_page section_at_page section_mapping
user_unmapped b q v e =
    let none_here : (eqb (v / 1024) 511 ≡ false) × (exists (λ j. in_slots (v / 1024) (slots_of b (section_record b q j))) (sections_of b q) ≡ false) = choose_or _ _ e in
    by_choose (λ s. s ≡ unmapped) (in_stack b q v) _ _
    (λ t. absurd (eqb-false (v / 1024) 511 none_here.0 (in_stack_slot b q v t)))
    (λ _. by_find_last (λ j. has_page b v (section_record b q j)) (λ m. section_mapping b q v m ≡ unmapped) (sections_of b q)
    (λ _. refl)
    (λ j c h. cc (exists_hit (λ j. in_slots (v / 1024) (slots_of b (section_record b q j))) (sections_of b q) j (in_root_slot b v _ c) h, none_here.1)))

pub no_leaf : (b : List ℕ) (T q v : ℕ) → v / 1024 ≢ 1023 → has_leaf b q (v / 1024) ≡ false → mapping_at b T q v ≡ unmapped
unfolding mapping_at has_leaf choose
no_leaf b T q v n e =
    let leaf = rw (some_of_tab (in_slots (v / 1024)) (sections_of b q) (λ j. slots_of b (section_record b q j))) at e in
    rw (ne_eqb (v / 1024) 1023 n)
    (by_test (λ c. choose c (eqb (v / 1024) 1023) (choose (eqb (v / 1024) 511) true (exists (λ j. in_slots (v / 1024) (slots_of b (section_record b q j))) (sections_of b q))) ≡ false
    → choose c unmapped (user_page b q v) ≡ unmapped)
    (eqb q 1) (λ _ _. refl) (λ _ z. user_unmapped b q v z) leaf)

-- the kernel's part is the same for every process
pub kernel_part : (b : List ℕ) (T q v : ℕ) → v / 1024 ≡ 1023 → mapping_at b T 1 v ≡ mapping_at b T q v
unfolding mapping_at choose
kernel_part b T q v e = rw (eq-eqb (v / 1024) 1023 e)
