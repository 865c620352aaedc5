-- Each use that the rules name is in the order of pages, and stands in RAM where the order puts it.
use Rattle.std.specs.Prelude.{◌≡◌, refl, List, ◌∷◌, ◌++◌, Bool, true, false, ℕ, ◌+◌, ◌-◌, ◌≤◌, ◌<◌, length}
use Rattle.std.proofs.Common.{sym, ap, ◌∙◌, append_assoc}
use Rattle.std.proofs.Math.Option.{none, some}
use Rattle.std.proofs.Math.Decide.{ℕ_discrete}
use native.Mathlib.Omega.{arith}
use Rattle.notation.specs.Choice.{choose}
use Rattle.notation.specs.Lists.{tab, gather, count_before}
use Rattle.rules.specs.Block.{process_count, sections_of, section_record}
use Rattle.rules.specs.Space.{Data-discrete, section_page, tracker_page, process_list, block_copy}
use Rattle.rules.specs.Order.{Use, Use-discrete, top, holds, root_table, leaf_table, pages_taken, section_pages, section_uses, all_sections, tracker_uses, has_leaf, table_uses, all_tables, below_top, order, uses, pages_needed, free_pages, use_of, same_use, ram_page}
use Rattle.laws.specs.Choice.{by_test}
use Rattle.laws.specs.Lists.{Every, ◌and◌, every_append, every_tab, every_gather, Occurs, occurs_here, occurs_there, occurs_left, occurs_right, occurs_tab, occurs_gather, First, count_before_finds, lookup_inside, lookup_outside, lookup_left, lookup_tab}

-- the kernel has its one leaf table
pub kernel_leaf : (b : List ℕ) → has_leaf b 1 1023 ≡ true
unfolding has_leaf choose
kernel_leaf b = refl

-- IN THE ORDER
module _ (b : List ℕ) (xip : ℕ → Bool) (T : ℕ) where
  placed_section : (q j i : ℕ) → j < sections_of b q → i < pages_taken b xip (section_record b q j) → Occurs (section_uses b xip q) (holds (section_page q j i))
  unfolding section_uses section_pages
  placed_section q j i h l = occurs_gather _ _ j h (occurs_tab _ (λ i. holds (section_page q j i)) i l)

  in_sections : (q j i : ℕ) → 1 ≤ q → q ≤ process_count b → j < sections_of b q → i < pages_taken b xip (section_record b q j)
      → Occurs (all_sections b xip) (holds (section_page q j i))
  unfolding all_sections
  in_sections q j i lo hi h l = elim (ℕ_discrete q 1) [
    | yes e ↦ rw e (occurs_right (gather _ _) _ (rw e at (placed_section q j i h l)))
    | no e ↦
        let s : q - 2 + 2 ≡ q = omega arith in
        occurs_left _ _ (occurs_gather _ (λ i. section_uses b xip (i + 2)) (q - 2) (omega arith) (rw s (placed_section q j i h l)))
  ]

  pub order_section : (q j i : ℕ) → 1 ≤ q → q ≤ process_count b → j < sections_of b q → i < pages_taken b xip (section_record b q j)
      → Occurs (order b xip T) (holds (section_page q j i))
  unfolding order below_top
  order_section q j i lo hi h l = occurs_right (tab 4 top) _ (occurs_left (all_sections b xip) _ (in_sections q j i lo hi h l))

  -- an element of what follows the sections
  after_sections : (u : Use) → Occurs (tracker_uses T ++ (holds process_list ∷ holds block_copy ∷ all_tables b)) u → Occurs (order b xip T) u
  unfolding order below_top
  after_sections u o = occurs_right (tab 4 top) _ (occurs_right (all_sections b xip) _ o)

  pub order_tracker : (i : ℕ) → i < T → Occurs (order b xip T) (holds (tracker_page i))
  unfolding tracker_uses
  order_tracker i h = after_sections _ (occurs_left _ _ (occurs_tab T (λ i. holds (tracker_page i)) i h))

  pub order_process_list : Occurs (order b xip T) (holds process_list)
  order_process_list = after_sections _ (occurs_right (tracker_uses T) _ (occurs_here _ _))

  pub order_block_copy : Occurs (order b xip T) (holds block_copy)
  order_block_copy = after_sections _ (occurs_right (tracker_uses T) _ (occurs_there _ _ (occurs_here _ _)))

  order_table : (q : ℕ) (u : Use) → 1 ≤ q → q ≤ process_count b → Occurs (table_uses b q) u → Occurs (order b xip T) u
  unfolding all_tables
  order_table q u lo hi o =
      let s : q - 1 + 1 ≡ q = omega arith in
      after_sections u (occurs_right (tracker_uses T) _ (occurs_there _ _ (occurs_there _ _
      (occurs_gather _ (λ i. table_uses b (i + 1)) (q - 1) (omega arith) (rw s o)))))

  pub order_root : (q : ℕ) → 1 ≤ q → q ≤ process_count b → Occurs (order b xip T) (root_table q)
  unfolding table_uses
  order_root q lo hi = order_table q _ lo hi (occurs_here _ _)

  pub order_leaf : (q m : ℕ) → 1 ≤ q → q ≤ process_count b → m < 1024 → has_leaf b q m ≡ true → Occurs (order b xip T) (leaf_table q m)
  unfolding table_uses choose
  order_leaf q m lo hi h e = order_table q _ lo hi (occurs_there _ _ (occurs_gather 1024 _ m h (rw e (occurs_here _ _))))

-- THE ORDER WITH THE USERS' SECTIONS APART
abbrev pub after_users : List ℕ → (ℕ → Bool) → ℕ → List Use
after_users b xip T = section_uses b xip 1 ++ (tracker_uses T ++ (holds process_list ∷ holds block_copy ∷ all_tables b))

pub order_users : (b : List ℕ) (xip : ℕ → Bool) (T : ℕ) → order b xip T ≡ tab 4 top ++ (gather (process_count b - 1) (λ i. section_uses b xip (i + 2)) ++ after_users b xip T)
unfolding order below_top all_sections
order_users b xip T = simp append_assoc

-- what is so of each part is so of all that follows the users' sections
pub every_after_users : (P : Use → Type 0) (b : List ℕ) (xip : ℕ → Bool) (T : ℕ) → Every P (section_uses b xip 1) → ((i : ℕ) → P (holds (tracker_page i)))
    → P (holds process_list) → P (holds block_copy) → ((q : ℕ) → Every P (table_uses b q)) → Every P (after_users b xip T)
unfolding tracker_uses all_tables
every_after_users P b xip T kernel tracker list copy tables =
    every_append P (section_uses b xip 1) _ kernel (every_append P (tab T _) _ (every_tab P T _ (λ i _. tracker i))
    (list and copy and every_gather P (process_count b) _ (λ i _. tables (i + 1))))

-- IN RAM
pub same_use_refl : (u : Use) → same_use u u ≡ true
unfolding same_use
same_use_refl u = go (Use-discrete ℕ_discrete (Data-discrete ℕ_discrete) u u)
  where
    go : (d : Dec (u ≡ u)) → (elim d as (λ x. Bool) [ yes e ↦ true | no e ↦ false ]) ≡ true
    go (yes e) = refl
    go (no e) = absurd (e refl)

pub same_use_eq : (u v : Use) → same_use u v ≡ true → u ≡ v
unfolding same_use
same_use_eq u v = go (Use-discrete ℕ_discrete (Data-discrete ℕ_discrete) u v)
  where
    go : (d : Dec (u ≡ v)) → (elim d as (λ x. Bool) [ yes e ↦ true | no e ↦ false ]) ≡ true → u ≡ v
    go (yes e) h = e
    go (no e) h = cc

pub same_use_not : (u v : Use) → (u ≡ v → ⊥) → same_use u v ≡ false
same_use_not u v n = by_test (λ c. same_use u v ≡ c → c ≡ false) (same_use u v) (λ _ e. absurd (n (same_use_eq u v e))) (λ _ _. refl) refl

-- the RAM page of a use is in RAM, and its use is that one
pub record InRam (b : List ℕ) (xip : ℕ → Bool) (N : ℕ) (u : Use) : Type 0 where
  pub inside : ram_page b xip N u < N
  pub used : use_of b xip N (ram_page b xip N u) ≡ some u

pub in_ram : (b : List ℕ) (xip : ℕ → Bool) (N : ℕ) (u : Use) → pages_needed b xip N ≤ N → Occurs (uses b xip N) u → InRam b xip N u
unfolding ram_page use_of pages_needed
in_ram b xip N u enough o =
    let f : First (same_use u) (uses b xip N) = count_before_finds (same_use u) (uses b xip N) o.0 u o.1 (same_use_refl u) in
    let e : u ≡ f.value = same_use_eq u f.value f.passes in
    let l : count_before (same_use u) (uses b xip N) < length (uses b xip N) = lookup_inside _ _ _ f.found in
    let s : N - 1 - (N - 1 - count_before (same_use u) (uses b xip N)) ≡ count_before (same_use u) (uses b xip N) = omega arith in
    record { inside = omega arith; used = rw s (f.found ∙ ap some (sym e)) }

-- two uses of one RAM page are one use
pub one_use : (b : List ℕ) (xip : ℕ → Bool) (N : ℕ) (u v : Use) → InRam b xip N u → InRam b xip N v → ram_page b xip N u ≡ ram_page b xip N v → u ≡ v
one_use b xip N u v i j e =
    let s : some u ≡ some v = sym i.used ∙ ap (use_of b xip N) e ∙ j.used in cc

-- a page below those taken is free
pub use_free : (b : List ℕ) (xip : ℕ → Bool) (N k : ℕ) → k < free_pages b xip N → use_of b xip N k ≡ none
unfolding use_of free_pages pages_needed
use_free b xip N k h = lookup_outside (uses b xip N) (N - 1 - k) (omega arith)

-- the four pages at the top
pub use_top : (b : List ℕ) (xip : ℕ → Bool) (N k : ℕ) → N ≤ k + 4 → k < N → use_of b xip N k ≡ some (top (N - 1 - k))
unfolding use_of uses order
use_top b xip N k l h = lookup_left (tab 4 top) _ (N - 1 - k) _ (lookup_tab 4 top (N - 1 - k) (omega arith))
