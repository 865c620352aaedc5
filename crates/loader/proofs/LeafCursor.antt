-- Laws of the walk over the leaf tables of a process.
use Rattle.std.proofs.lemmas.Bool.{lt-leb}
use Rattle.std.proofs.Common.{◌≡◌, refl, ◌∙◌, ◌≢◌, Bool, true, false, List, ℕ, zero, suc, ◌+◌, ◌/◌, ◌≤◌, ◌<◌, max, arith, leb, eqb, eq-eqb, ne_eqb, eqb-true, le-leb}
use Rattle.std.proofs.Math.Decide.{dec_lt, ℕ_discrete}
use Rattle.notation.specs.Choice.{choose}
use Rattle.notation.specs.Lists.{exists}
use Rattle.rules.specs.Block.{first_section_of, sections_of, section_record, first_page_of, last_page_of}
use Rattle.rules.specs.Order.{pages_taken, slots_of, in_slots, has_leaf}
use Rattle.laws.specs.Choice.{false_not_true, by_choose, choose_yes, choose_no, choose_lt, and_both, and_not_left, and_not_right}
use Rattle.laws.specs.Lists.{exists_hit, some_of_tab}
use Rattle.laws.specs.Counts.{sum_le}
use Rattle.block_records.specs.Read.{IsSection}
use Rattle.block_records.specs.declared.Section.{Section}
use Rattle.order_laws.specs.Places.{pages_before, process_pages, section_place, pages_before_none, pages_before_next}
use Rattle.accepted.specs.Sections.{own_slot}
use Rattle.loader.specs.LeafCursor.{First, Walkable, Passed}

-- the first leaf table from root slot m on has slot r; the sections before section j end below it
pub record LeafAt (b : List ℕ) (xip : ℕ → Bool) (q m r j place : ℕ) : Type 0 where
  pub first : First (has_leaf b q) m r
  pub here : has_leaf b q r ≡ true
  pub passed : Passed b xip q r j place

own_kernel : (q : ℕ) → q ≡ 1 → own_slot q ≡ 1023
unfolding own_slot
own_kernel q e = choose_yes _ _ (eq-eqb q 1 e)

own_user : (q : ℕ) → q ≢ 1 → own_slot q ≡ 511
unfolding own_slot
own_user q n = choose_no _ _ (ne_eqb q 1 n)

pub own_inside : (q : ℕ) → own_slot q < 1024
unfolding own_slot
own_inside q = choose_lt (eqb q 1) 1023 511 1024 (omega arith) (omega arith)

-- none is found where none passes
exists_no : (t : ℕ → Bool) (n : ℕ) → ((j : ℕ) → j < n → t j ≡ false) → exists t n ≡ false
unfolding exists
exists_no t zero h = refl
exists_no t (suc n) h = choose_no _ _ (h n (omega arith)) ∙ exists_no t n (λ j l. h j (omega arith))

pub pages_before_le : (b : List ℕ) (xip : ℕ → Bool) (q m n : ℕ) → m ≤ n → pages_before b xip q m ≤ pages_before b xip q n
unfolding pages_before
pages_before_le b xip q m n h = sum_le m n _ h

pub kernel_slot : (b : List ℕ) (q k : ℕ) → q ≡ 1 → has_leaf b q k ≡ true → k ≡ 1023
unfolding has_leaf choose
kernel_slot b q k e h = eqb-true k 1023 (rw (eq-eqb q 1 e) at h)

-- THE SLOTS OF ONE SECTION
module _ (b : List ℕ) (q j : ℕ) where
  abbrev from : ℕ
  from = first_page_of b (section_record b q j) / 1024

  abbrev to : ℕ
  to = last_page_of b (section_record b q j) / 1024

  abbrev at : ℕ → Bool
  at k = in_slots k (slots_of b (section_record b q j))

  not_below : (k : ℕ) → k < from → at k ≡ false
  unfolding in_slots slots_of
  not_below k h = and_not_left _ (lt-leb from k h)

  not_above : (k : ℕ) → to < k → at k ≡ false
  unfolding in_slots slots_of
  not_above k h = and_not_right (leb from k) (lt-leb k to h)

  inside : (k : ℕ) → from ≤ k → k ≤ to → at k ≡ true
  unfolding in_slots slots_of
  inside k f t = and_both (le-leb from k f) (le-leb k to t)

-- the slots after one that is passed
pub passed_later : {b : List ℕ} {xip : ℕ → Bool} {q m j place : ℕ} (n : ℕ) → Passed b xip q m j place → m ≤ n → Passed b xip q n j place
passed_later n p h = record { inside = p.inside; below = λ k a. omega (arith, p.below k a); at_place = p.at_place }

-- WHICH LEAF TABLES THERE ARE
pub own_leaf : (b : List ℕ) (q : ℕ) → has_leaf b q (own_slot q) ≡ true
unfolding has_leaf
own_leaf b q = elim (ℕ_discrete q 1) [
  | yes e ↦ choose_yes _ _ (eq-eqb q 1 e) ∙ eq-eqb (own_slot q) 1023 (own_kernel q e)
  | no e ↦ choose_no _ _ (ne_eqb q 1 e) ∙ choose_yes _ _ (eq-eqb (own_slot q) 511 (own_user q e))
]

module _ {b : List ℕ} {xip : ℕ → Bool} {q : ℕ} (w : Walkable b xip q) where
  section_leaf : (j k : ℕ) → j < sections_of b q → from b q j ≤ k → k ≤ to b q j → has_leaf b q k ≡ true
  unfolding has_leaf
  section_leaf j k h f t = elim (ℕ_discrete q 1) [
    | yes e ↦
        choose_yes _ _ (eq-eqb q 1 e)
        ∙ eq-eqb k 1023 (omega (arith, own_kernel q e, w.rising.kernel_from q j e w.high h, w.rising.up_to q j w.low w.high h))
    | no e ↦ choose_no _ _ (ne_eqb q 1 e)
        ∙ by_choose (λ x. x ≡ true) (eqb k 511) true _ (λ _. refl) (λ _. some_of_tab _ _ _ ∙ exists_hit _ _ j (inside b q j k f t) h)
  ]

  no_leaf : (k : ℕ) → k ≢ own_slot q → ((j : ℕ) → j < sections_of b q → at b q j k ≡ false) → has_leaf b q k ≡ false
  unfolding has_leaf
  no_leaf k n h = elim (ℕ_discrete q 1) [
    | yes e ↦ choose_yes _ _ (eq-eqb q 1 e) ∙ ne_eqb k 1023 (λ z. n (omega (arith, own_kernel q e)))
    | no e ↦ choose_no _ _ (ne_eqb q 1 e) ∙ choose_no _ _ (ne_eqb k 511 (λ z. n (omega (arith, own_user q e)))) ∙ some_of_tab _ _ _ ∙ exists_no _ _ h
  ]

  -- none has a slot above the process's own, and the kernel has no other
  leaf_up_to : (k : ℕ) → has_leaf b q k ≡ true → k ≤ own_slot q
  leaf_up_to k e = elim (dec_lt (own_slot q) k) [
    | yes l ↦ false_not_true (no_leaf k (λ z. omega arith) (λ j h. not_above b q j k (omega (arith, w.rising.up_to q j w.low w.high h)))) e
    | no l ↦ omega arith
  ]

  pub leaf_inside : (k : ℕ) → has_leaf b q k ≡ true → k < 1024
  leaf_inside k e = omega (arith, leaf_up_to k e, own_inside q)

  pub user_slot : (k : ℕ) → q ≢ 1 → has_leaf b q k ≡ true → k ≢ 1023
  user_slot k n e z = omega (arith, leaf_up_to k e, own_user q n)

  -- THE WALK
  -- section j does not end below slot m: the next leaf table is its first from m on
  found : {m j place r : ℕ} → Passed b xip q m j place → j < sections_of b q → m ≤ to b q j → r ≡ max m (from b q j) → LeafAt b xip q m r j place
  found {m} {j} {place} {r} p h l e =
      let own = w.rising.up_to q j w.low w.high h in
      let up = w.rising.ends q j w.low w.high h in
      let rise = w.rising.rise q in
      record {
        first = record {
          low = omega arith;
          high = omega (arith, own_inside q);
          before = λ k a z. no_leaf k (λ s. omega arith) (λ i n. elim (dec_lt i j) [
            | yes y ↦ not_above b q i k (omega (arith, p.below i y))
            | no y ↦ elim (ℕ_discrete i j) [
              | yes s ↦ rw s (not_below b q j k (omega arith))
              | no s ↦ not_below b q i k (omega (arith, rise j i w.low w.high (omega arith) n))
            ]
          ]);
          here = λ _. section_leaf j r h (omega arith) (omega arith);
        };
        here = section_leaf j r h (omega arith) (omega arith);
        passed = passed_later r p (omega arith);
      }

  pub leaf_found : {m j place r n : ℕ} {s : Section} → Passed b xip q m j place → j < sections_of b q → n ≡ section_record b q j → IsSection b n s
      → m ≤ s.last_page.0 / 1024 → r ≡ max m (s.first_page.0 / 1024) → LeafAt b xip q m r j place
  unfolding section_record
  leaf_found p h f is l e = found p h (rw (is.last_page, f) at l) (rw (is.first_page, f) at e)

  -- all sections end below slot m: the next leaf table is the process's own, if it does not
  pub leaf_own : {m j place n r : ℕ} → Passed b xip q m j place → n ≡ sections_of b q → n ≤ j → r ≡ own_slot q → m ≤ r → LeafAt b xip q m r n place
  leaf_own {m} {j} {n = n} {r} p e past own l = record {
    first = record {
      low = omega arith;
      high = omega (arith, own_inside q);
      before = λ k a z. no_leaf k (λ x. omega arith) (λ i h. not_above b q i k (omega (arith, p.below i (omega arith))));
      here = λ _. rw own (own_leaf b q);
    };
    here = rw own (own_leaf b q);
    passed =
        let same : j ≡ n = omega (arith, p.inside) in
        rw same at (passed_later r p l);
  }

  pub leaf_none : {m j place s : ℕ} → Passed b xip q m j place → j ≡ sections_of b q → s ≡ own_slot q → s < m → First (has_leaf b q) m 1024
  leaf_none p e own l = record {
    low = omega arith;
    high = omega arith;
    before = λ k a z. no_leaf k (λ x. omega arith) (λ i n. not_above b q i k (omega (arith, p.below i (omega arith))));
    here = λ x. absurd (omega arith);
  }

  pub passed_room : {m j place : ℕ} → Passed b xip q m j place → place ≤ 4096
  unfolding process_pages
  passed_room {j = j} p = omega (arith, p.at_place, w.room, pages_before_le b xip q j (sections_of b q) p.inside)

-- from the first section, and one section more that ends below the slot
pub passed_none : {b : List ℕ} {xip : ℕ → Bool} {q place : ℕ} (m : ℕ) → place ≡ section_place b xip q → Passed b xip q m 0 place
passed_none {b} {xip} {q} m e = record { inside = omega arith; below = λ k h. absurd (omega arith); at_place = omega (arith, pages_before_none b xip q) }

-- the number of section j's record, from what was read of the process
pub record_number : (b : List ℕ) (q j : ℕ) {n first : ℕ} → n ≡ first + j → first ≡ first_section_of b q → n ≡ section_record b q j
unfolding section_record
record_number b q j e f = rw f at e

pub passed_more : {b : List ℕ} {xip : ℕ → Bool} {q m j place n taken : ℕ} {s : Section} → Passed b xip q m j place → j < sections_of b q → n ≡ section_record b q j
    → IsSection b n s → s.last_page.0 / 1024 < m → taken ≡ choose (xip n) 0 s.pages → Passed b xip q m (j + 1) (place + taken)
unfolding section_record pages_taken
passed_more {b} {xip} {q} {m} {j} p h f is l t = record {
  inside = omega arith;
  below = λ k a. elim (ℕ_discrete k j) [ yes e ↦ rw e (rw (is.last_page, f) at l) | no e ↦ p.below k (omega arith) ];
  at_place = omega (arith, p.at_place, pages_before_next b xip q j, rw (is.page_count_is, f) at t);
}
