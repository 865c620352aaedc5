-- The pages of the order, counted.
use Rattle.std.specs.Prelude.{◌≡◌, refl, List, ◌++◌, Bool, true, false, ℕ, ◌+◌, ◌-◌, ◌/◌, ◌≤◌, length, take, eqb}
use Rattle.std.proofs.Common.{◌∙◌, length-append, ne_eqb}
use native.Mathlib.Omega.{arith}
use Rattle.notation.specs.Choice.{choose}
use Rattle.notation.specs.Lists.{tab, gather, lookup, count, sum}
use Rattle.rules.specs.Block.{process_count, io_pages}
use Rattle.rules.specs.Order.{Use, top, section_pages, section_uses, all_sections, tracker_uses, has_leaf, table_uses, all_tables, below_top, order, uses, pages_for, tracker_pages, pages_needed, free_pages, pages_of, use_of, data_owner, use_owner, owner}
use Rattle.rules.specs.Contents.{tracker}
use Rattle.laws.specs.Choice.{by_choose, choose_yes, choose_no}
use Rattle.laws.specs.Lists.{Every, ◌and◌, every_map, every_append, every_tab, every_gather, tab_length}
use Rattle.laws.specs.Counts.{one, sum_reverse, count_none, count_tab, count_classes, count_lookups}
use Rattle.order_laws.specs.Places.{tracker_uses_length}
use Rattle.accepted.specs.Tracker.{tracker_ram}

-- HOW MANY: the tracker's pages and the rest, which depends on the block alone
pub order_length : (b : List ℕ) (xip : ℕ → Bool) (T : ℕ) → length (order b xip T) ≡ length (order b xip 0) + T
unfolding order below_top
order_length b xip T = simp (length-append, tab_length, tracker_uses_length) (omega arith)

-- the four at the top are there
pub order_top : (b : List ℕ) (xip : ℕ → Bool) (T : ℕ) → 4 ≤ length (order b xip T)
unfolding order
order_top b xip T = simp (length-append, tab_length) (omega arith)

-- what fits into N pages fits into more
pub needed_larger : (b : List ℕ) (xip : ℕ → Bool) (N N' : ℕ) → N ≤ N' → pages_needed b xip N ≤ N → pages_needed b xip N' ≤ N'
unfolding pages_needed uses tracker_pages pages_for
needed_larger b xip N N' l h =
    let t : ℕ = (N + io_pages b + 4095) / 4096 in
    let t' : ℕ = (N' + io_pages b + 4095) / 4096 in
    omega (arith, order_length b xip t, order_length b xip t')

pub tracker_pages_le : (b : List ℕ) (N N' : ℕ) → N ≤ N' → tracker_pages b N ≤ tracker_pages b N'
unfolding tracker_pages pages_for
tracker_pages_le b N N' l = omega arith

-- the pages needed less the tracker's depend on the block alone
pub needed_less_tracker : (b : List ℕ) (xip : ℕ → Bool) (N : ℕ) → pages_needed b xip N - tracker_pages b N ≡ length (order b xip 0)
unfolding pages_needed uses
needed_less_tracker b xip N = omega (arith, order_length b xip (tracker_pages b N))

-- OWNERS: every page of the order has an owner among the processes
module _ (b : List ℕ) (xip : ℕ → Bool) (p : 1 ≤ process_count b) where
  abbrev Owned : Use → Type 0
  Owned u = (1 ≤ use_owner u) × (use_owner u ≤ process_count b)

  sections_owned : (q : ℕ) → 1 ≤ q → q ≤ process_count b → Every Owned (section_uses b xip q)
  unfolding section_uses section_pages use_owner data_owner
  sections_owned q lo hi = every_gather Owned _ _ (λ j _. every_tab Owned _ _ (λ i _. (lo, hi)))

  tables_owned : (q : ℕ) → Every Owned (table_uses b q)
  unfolding table_uses use_owner
  tables_owned q = ((omega arith, p), every_gather Owned 1024 _ (λ m _. by_choose (Every Owned) (has_leaf b q m) _ _ (λ _. ((omega arith, p), tt)) (λ _. tt)))

  pub order_owned : (T : ℕ) → Every Owned (order b xip T)
  unfolding order below_top all_sections tracker_uses all_tables use_owner data_owner
  order_owned T =
      every_append Owned (tab 4 top) _ (every_tab Owned 4 top (λ i _. (omega arith, p)))
      (every_append Owned (gather _ _ ++ _) _
      (every_append Owned (gather _ _) _ (every_gather Owned _ _ (λ i h. sections_owned (i + 2) (omega arith) (omega arith))) (sections_owned 1 (omega arith) p))
      (every_append Owned (tab T _) _ (every_tab Owned T _ (λ i _. (omega arith, p)))
      ((omega arith, p) and (omega arith, p) and every_gather Owned _ _ (λ i _. tables_owned (i + 1)))))

-- THE TRACKER'S BYTES FOR RAM, counted by a test
tracker_count : (b : List ℕ) (xip : ℕ → Bool) (N : ℕ) (t : ℕ → Bool) → pages_needed b xip N ≤ N
    → count t (take N (tracker b xip N)) ≡ count (λ u. t (use_owner u)) (uses b xip N) + choose (t 0) (free_pages b xip N) 0
unfolding free_pages pages_needed use_of owner
tracker_count b xip N t h =
    rw tracker_ram
    (count_tab t N (λ k. owner (use_of b xip N k))
    ∙ sum_reverse N (λ i. one (t (owner (lookup (uses b xip N) i))))
    ∙ count_lookups owner t (uses b xip N) N h)

pub tracker_count_owner : (b : List ℕ) (xip : ℕ → Bool) (N q : ℕ) → 1 ≤ q → pages_needed b xip N ≤ N → count (λ x. eqb x q) (take N (tracker b xip N)) ≡ pages_of b xip N q
unfolding pages_of
tracker_count_owner b xip N q lo h =
    let z : choose (eqb 0 q) (free_pages b xip N) 0 ≡ 0 = choose_no _ _ (ne_eqb 0 q (λ e. omega arith)) in
    tracker_count b xip N (λ x. eqb x q) h ∙ omega arith

pub tracker_count_free : (b : List ℕ) (xip : ℕ → Bool) (N : ℕ) → 1 ≤ process_count b → pages_needed b xip N ≤ N → count (λ x. eqb x 0) (take N (tracker b xip N)) ≡ free_pages b xip N
unfolding uses
tracker_count_free b xip N p h =
    let f : choose true (free_pages b xip N) 0 ≡ free_pages b xip N = choose_yes _ _ refl in
    let z : count (λ u. eqb (use_owner u) 0) (uses b xip N) ≡ 0
    = count_none _ _ (every_map (Owned b xip p) (λ u. eqb (use_owner u) 0 ≡ false) (order b xip (tracker_pages b N)) (λ u o. ne_eqb (use_owner u) 0 (λ e. omega arith)) (order_owned b xip p (tracker_pages b N))) in
    tracker_count b xip N (λ x. eqb x 0) h ∙ omega arith

-- owners' pages add up to all pages of the order
pub owners_sum : (b : List ℕ) (xip : ℕ → Bool) (N : ℕ) → 1 ≤ process_count b → sum (process_count b) (λ i. pages_of b xip N (i + 1)) ≡ pages_needed b xip N
unfolding pages_of pages_needed uses
owners_sum b xip N p = count_classes use_owner (process_count b) (order b xip (tracker_pages b N)) (order_owned b xip p (tracker_pages b N))
