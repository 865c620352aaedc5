-- What the listing says of each process: the pages it owns of the order of pages, and its root.
use Rattle.std.proofs.lemmas.Bool.{eqb-false}
use Rattle.std.proofs.Common.{◌≡◌, refl, sym, ap, subst, ◌∙◌, ◌≢◌, Bool, true, false, List, arith, eqb, eq-eqb, ne_eqb, eqb-true, le-leb, ltb-false, ℕ, suc, ◌+◌, ◌-◌, ◌≤◌}
use Rattle.std.specs.Prelude.{Some}
use Rattle.notation.specs.Choice.{choose}
use Rattle.notation.specs.Lists.{tab, gather, count, sum}
use Rattle.rules.specs.Answers.{Answer}
use Rattle.types.specs.declared.Area.{Area}
use Rattle.rules.specs.Lent.{Image, Memory, memory_of, memory_area, pages_in}
use Rattle.rules.specs.Block.{process_count, section_count}
use Rattle.rules.specs.InPlace.{xip_of}
use Rattle.rules.specs.Order.{Use, top, root_table, section_pages, section_uses, has_leaf, table_uses, order, uses, tracker_pages, pages_needed, data_owner, use_owner, pages_of}
use Rattle.rules.specs.Refusals.{outside, counts_outside, counts_out_of_bounds, verdict}
use Rattle.rules.specs.Load.{phys_page, boot_answer, refusal_answer, answer_on, answer}
use Rattle.laws.specs.Choice.{by_choose, choose_yes, and_both, any_none}
use Rattle.laws.specs.Lists.{Every, Absent, every_tab, every_gather, tab_length}
use Rattle.laws.specs.Counts.{sum_same, sum_first, count_append, count_all, count_gather, count_none}
use Rattle.order_laws.specs.Uses.{after_users, order_users, every_after_users}
use Rattle.order_laws.specs.Places.{process_pages, user_pages, user_pages_none, user_pages_next, section_uses_length}
use Rattle.accepted.specs.NoCause.{NoCause, no_cause}
use Rattle.accepted.specs.Fits.{fits}
use Rattle.accepted.specs.InPlace.{none_past}
use Rattle.accepted.specs.Counting.{owners_sum}
use Rattle.xip_sections.specs.Marks.{marked, marks_of, marks_say}
use Rattle.order_roots.specs.Roots.{is_process, root_found}

-- A USER: its sections' pages
module _ (b : List ℕ) (xip : ℕ → Bool) (q : ℕ) (n : q ≢ 1) where
  abbrev owned : Use → Bool
  owned u = eqb (use_owner u) q

  sections_owned : Every (λ u. owned u ≡ true) (section_uses b xip q)
  unfolding section_uses section_pages use_owner data_owner
  sections_owned = every_gather _ _ _ (λ j _. every_tab _ _ _ (λ i _. eq-eqb q q refl))

  sections_other : (m : ℕ) → m ≢ q → Absent owned (section_uses b xip m)
  unfolding section_uses section_pages use_owner data_owner
  sections_other m h = every_gather _ _ _ (λ j _. every_tab _ _ _ (λ i _. ne_eqb m q h))

  not_kernel : eqb 1 q ≡ false
  not_kernel = ne_eqb 1 q (λ e. n (sym e))

  tables_other : (m : ℕ) → Absent owned (table_uses b m)
  unfolding table_uses use_owner
  tables_other m = (not_kernel, every_gather _ 1024 _ (λ k _. by_choose (Absent owned) (has_leaf b m k) _ _ (λ _. (not_kernel, tt)) (λ _. tt)))

  after_other : (T : ℕ) → Absent owned (after_users b xip T)
  unfolding use_owner data_owner
  after_other T = every_after_users (λ u. owned u ≡ false) b xip T (sections_other 1 (λ e. n (sym e))) (λ i. not_kernel) not_kernel not_kernel tables_other

  order_owned : (T : ℕ) → 2 ≤ q → q ≤ process_count b → count owned (order b xip T) ≡ process_pages b xip q
  unfolding use_owner data_owner
  order_owned T lo hi =
      let users : ℕ → List Use = λ i. section_uses b xip (i + 2) in
      let s : q - 2 + 2 ≡ q = omega arith in
      let g : count owned (gather (process_count b - 1) users) ≡ count owned (section_uses b xip q)
      = count_gather owned (process_count b - 1) users (q - 2) (omega arith) (λ m h. sections_other (m + 2) (λ e. h (omega arith))) ∙ rw s in
      rw (order_users b xip T) (count_append owned (tab 4 top) _
      ∙ omega (
        arith,
        count_none owned (tab 4 top) (every_tab _ 4 top (λ i _. not_kernel)),
        count_append owned (gather (process_count b - 1) users) (after_users b xip T),
        g,
        count_all owned (section_uses b xip q) sections_owned,
        section_uses_length b xip q,
        count_none owned (after_users b xip T) (after_other T),
      ))

pub user_owned : (b : List ℕ) (xip : ℕ → Bool) (N q : ℕ) → 2 ≤ q → q ≤ process_count b → pages_of b xip N q ≡ process_pages b xip q
unfolding pages_of uses
user_owned b xip N q lo hi = order_owned b xip q (λ e. omega arith) (tracker_pages b N) lo hi

-- THE KERNEL: what the users leave
owners_add : (b : List ℕ) (xip : ℕ → Bool) (N : ℕ) → 1 ≤ process_count b → pages_of b xip N 1 + user_pages b xip (process_count b - 1) ≡ pages_needed b xip N
unfolding user_pages
owners_add b xip N p =
    let s : suc (process_count b - 1) ≡ process_count b = omega arith in
    let all : sum (suc (process_count b - 1)) (λ i. pages_of b xip N (i + 1)) ≡ pages_needed b xip N = rw s (owners_sum b xip N p) in
    let users : sum (process_count b - 1) (λ i. pages_of b xip N (suc i + 1)) ≡ sum (process_count b - 1) (λ i. process_pages b xip (i + 2))
    = sum_same _ _ _ (λ i h. let n : suc i + 1 ≡ i + 2 = omega arith in rw n (user_owned b xip N (i + 2) (omega arith) (omega arith))) in
    omega (arith, all, users, sum_first (process_count b - 1) (λ i. pages_of b xip N (i + 1)))

-- the users' pages taken off, none of them and one more
pub users_none : (b : List ℕ) (xip : ℕ → Bool) (taken : ℕ) → taken ≡ taken - user_pages b xip (1 - 1)
users_none b xip taken = omega (arith, user_pages_none b xip)

pub users_next : (b : List ℕ) (xip : ℕ → Bool) (taken i : ℕ) {pages r s : ℕ} → 1 ≤ i → pages ≡ taken - user_pages b xip (i - 1) → r ≡ process_pages b xip (i + 1) → s ≡ pages - r
    → s ≡ taken - user_pages b xip (i + 1 - 1)
users_next b xip taken i lo e h d =
    let m : i - 1 + 1 ≡ i + 1 - 1 = omega arith in
    let p : i - 1 + 2 ≡ i + 1 = omega arith in
    let n : user_pages b xip (i + 1 - 1) ≡ user_pages b xip (i - 1) + process_pages b xip (i + 1) = rw (m, p) at (user_pages_next b xip (i - 1)) in
    omega (arith, n)

-- EACH PROCESS, where the kernel's pages are known
pub pages_owned : (b : List ℕ) (xip : ℕ → Bool) (N q : ℕ) {kernel r : ℕ} → kernel ≡ pages_of b xip N 1 → 1 ≤ q → q ≤ process_count b
    → r ≡ choose (eqb q 1) kernel (process_pages b xip q) → r ≡ pages_of b xip N q
pages_owned b xip N q e lo hi h = h ∙ by_choose (λ (r : ℕ). r ≡ pages_of b xip N q) (eqb q 1) _ _
    (λ c. let z : q ≡ 1 = eqb-true q 1 c in rw z e)
    (λ c. sym (user_owned b xip N q (omega (arith, eqb-false q 1 c)) hi))

-- THE ROOT
pub root_is : (x : Image) (ram : Area) (q : ℕ) → (verdict x ram).number ≡ 0 → 1 ≤ q → q ≤ process_count x.block
    → root_found x ram q ≡ Some (record { 0 = phys_page x.block (xip_of x) (pages_in ram) (root_table q) })
unfolding root_found is_process
root_is x ram q z lo hi = choose_yes _ _ (and_both (eq-eqb _ 0 z) (and_both (le-leb 1 q lo) (le-leb q (process_count x.block) hi)))

-- A BOOT
booted : (x : Image) (r : Memory) → (answer x r).number ≡ 0
    → ((verdict x (memory_area r)).number ≡ 0) × ((answer x r).taken ≡ pages_needed x.block (xip_of x) (pages_in (memory_area r)).pages)
unfolding answer answer_on boot_answer refusal_answer
booted x r = by_choose
    (λ (a : Answer). a.number ≡ 0 → ((verdict x (memory_area r)).number ≡ 0) × (a.taken ≡ pages_needed x.block (xip_of x) (pages_in (memory_area r)).pages))
    (eqb (verdict x (memory_area r)).number 0) _ _
    (λ c _. (eqb-true _ 0 c, refl))
    (λ c z. absurd (eqb-false _ 0 c z))

-- 64 marks are as many as there can be sections
booted_marks : (x : Image) (ram : Area) → NoCause x ram → marked (marks_of x.block x.flash.bytes 64) ≡ xip_of x
unfolding counts_out_of_bounds counts_outside outside
booted_marks x ram ok =
    let few : section_count x.block ≤ 64 = ltb-false _ _ (any_none _ (any_none _ ok.counts_in_bounds 1) 1) in
    marks_say x.block x.flash.bytes 64 (λ n h. none_past x.block x.flash.bytes n (omega arith))

-- the verdict, the sections used in place, and the kernel's pages as what the users leave of those taken
pub booted_kernel : (x : Image) (r : Memory) (a : Answer) (xip : List ℕ) {kernel : ℕ} → a ≡ answer x r → a.number ≡ 0
    → xip ≡ marks_of x.block x.flash.bytes 64
    → kernel ≡ a.taken - user_pages x.block (marked xip) (process_count x.block - 1)
    → ((verdict x (memory_area r)).number ≡ 0) × (marked xip ≡ xip_of x) × (kernel ≡ pages_of x.block (marked xip) (pages_in (memory_area r)).pages 1)
booted_kernel x r a xip e z m h =
    let known = booted x r (rw e at z) in
    let ok = no_cause x (memory_area r) known.0 in
    let right : marked xip ≡ xip_of x = ap marked m ∙ booted_marks x (memory_area r) ok in
    let all = owners_add x.block (xip_of x) (pages_in (memory_area r)).pages (fits x (memory_area r) ok).some_process in
    (known.0, right, rw right (omega (arith, rw (e, right) at h, known.1, all)))

-- the same for RAM that lies so, whatever its bytes
some_memory : Area → Memory
some_memory ram = memory_of ram.start (tab ram.length (λ k. 0))

area_is : (ram : Area) → memory_area (some_memory ram) ≡ ram
unfolding some_memory
area_is ram = rw (tab_length {A = ℕ} ram.length (λ k. 0)) refl

pub booted_kernel_on : (x : Image) (ram : Area) (a : Answer) (xip : List ℕ) {kernel : ℕ} → a ≡ answer_on x ram → a.number ≡ 0
    → xip ≡ marks_of x.block x.flash.bytes 64
    → kernel ≡ a.taken - user_pages x.block (marked xip) (process_count x.block - 1)
    → ((verdict x ram).number ≡ 0) × (marked xip ≡ xip_of x) × (kernel ≡ pages_of x.block (marked xip) (pages_in ram).pages 1)
unfolding answer
booted_kernel_on x ram a xip {kernel} e z m h =
    subst (λ y. ((verdict x y).number ≡ 0) × (marked xip ≡ xip_of x) × (kernel ≡ pages_of x.block (marked xip) (pages_in y).pages 1)) (area_is ram)
    (booted_kernel x (some_memory ram) a xip (e ∙ ap (answer_on x) (sym (area_is ram))) z m h)
