-- The sections of a block with no cause of a refusal: each has one owner, lies in its range, and they rise page by page; so a virtual page
-- is of one section of a process at most.
use Rattle.std.specs.Prelude.{◌≡◌, ◌≢◌, List, ◌&&◌, length, leb, eqb}
use Rattle.std.proofs.Math.Path.{sym, ap}
use Rattle.std.proofs.Common.{◌∙◌, not-suc-le-zero, add-one}
use Rattle.std.proofs.Math.Bool.{true, false, not}
use Rattle.std.proofs.Math.Option.{none, some}
use Prim.Native.Nat.{ℕ, zero, suc, ◌+◌, ◌-◌, ◌*◌, ◌/◌, ◌≤◌, ◌<◌}
use Rattle.std.proofs.Math.Decide.{ℕ_discrete, dec_lt}
use native.Mathlib.Omega.{arith}
use borrow.Author.Tests.{eqb-true, eqb-false, eq-eqb, ne_eqb, leb-true, leb-false, ltb-true, ltb-false, le-leb, lt-ltb, not-false}
use Rattle.notation.specs.Choice.{choose}
use Rattle.types.specs.declared.Area.{Area}
use Rattle.rules.specs.Lent.{Image}
use Rattle.rules.specs.Block.{stack_pages, stack_first, process_count, section_count, process_record, sections_of, first_section_of, section_record, has_section, owner_of, address, size, flash_offset_of, is_no_copy, section_end, first_page_of, last_page_of}
use Rattle.rules.specs.Refusals.{sections_before, record_unfit, process_unfit, section_unfit, range_first, range_last, section_misplaced, section_past_flash}
use Rattle.rules.specs.Space.{has_page, section_mapping, section_at_page}
use Rattle.laws.specs.Choice.{false_not_true, by_test, choose_yes, choose_lt, and_both, and_left, and_right, and_rest, any_none}
use Rattle.laws.specs.Lists.{by_find_last}
use Rattle.laws.specs.Counts.{sum_none, sum_le, sum_next}
use Rattle.accepted.specs.NoCause.{NoCause}

pub has_page_first : (b : List ℕ) (v n : ℕ) → has_page b v n ≡ true → first_page_of b n ≤ v
unfolding has_page
has_page_first b v n e = leb-true _ _ (and_left _ _ e)

pub has_page_last : (b : List ℕ) (v n : ℕ) → has_page b v n ≡ true → v ≤ last_page_of b n
unfolding has_page
has_page_last b v n e = leb-true _ _ (and_right (leb (first_page_of b n) v) _ e)

-- the sum of the counts of no process record, of one record more, and up to and with process q
pub sections_before_none : (b : List ℕ) → sections_before b 0 ≡ 0
unfolding sections_before
sections_before_none b = sum_none _

pub sections_before_next : (b : List ℕ) (n : ℕ) → sections_before b (n + 1) ≡ sections_before b n + sections_of b (n + 1)
unfolding sections_before
sections_before_next b n = sum_next n _

sections_up_to : (b : List ℕ) (q : ℕ) → 1 ≤ q → sections_before b q ≡ sections_before b (q - 1) + sections_of b q
sections_up_to b q lo = let e : q - 1 + 1 ≡ q = omega arith in rw e at (sections_before_next b (q - 1))

sections_before_le : (b : List ℕ) (i k : ℕ) → i ≤ k → sections_before b i ≤ sections_before b k
unfolding sections_before
sections_before_le b i k h = sum_le i k _ h

range_in_space : (b : List ℕ) (q : ℕ) → range_last b q < 0xFFFF_FFFF
unfolding range_last stack_first
range_in_space b q = choose_lt (eqb q 1) _ _ 0xFFFF_FFFF (omega arith) (omega arith)

-- the root slot for which process q has a leaf table whatever its sections: the kernel's 1,023, a user's 511
unfoldable pub own_slot : ℕ → ℕ
own_slot q = choose (eqb q 1) 1023 511

-- RISING: no section of a process ends below its start, each starts on a higher page than those before it end on, and none lies in a root
-- slot above its process's own; the kernel's lie in no other
pub record Rising (b : List ℕ) : Type 0 where
  pub ends : (q j : ℕ) → 1 ≤ q → q ≤ process_count b → j < sections_of b q → first_page_of b (section_record b q j) ≤ last_page_of b (section_record b q j)
  pub rise : (q j k : ℕ) → 1 ≤ q → q ≤ process_count b → j < k → k < sections_of b q → last_page_of b (section_record b q j) < first_page_of b (section_record b q k)
  pub up_to : (q j : ℕ) → 1 ≤ q → q ≤ process_count b → j < sections_of b q → last_page_of b (section_record b q j) / 1024 ≤ own_slot q
  pub kernel_from : (q j : ℕ) → q ≡ 1 → q ≤ process_count b → j < sections_of b q → 1023 ≤ first_page_of b (section_record b q j) / 1024

module _ (x : Image) (ram : Area) (ok : NoCause x ram) where
  abbrev b : List ℕ
  b = x.block

  -- 6: the sections of process q come after those of the processes before it, and s has room for them
  first_is : (q : ℕ) → 1 ≤ q → q ≤ process_count b → first_section_of b q ≡ sections_before b (q - 1)
  unfolding process_unfit record_unfit process_record
  first_is q lo hi =
      let f : first_section_of b (q - 1 + 1) ≡ sections_before b (q - 1) = eqb-true _ _ (not-false _ (any_none _ (ok.process_fit (q - 1) (omega arith)) 2)) in
      let e : q - 1 + 1 ≡ q = omega arith in
      rw e at f

  sum_fits : (q : ℕ) → 1 ≤ q → q ≤ process_count b → sections_before b q ≤ section_count b
  unfolding process_unfit record_unfit process_record
  sum_fits q lo hi =
      let f : sections_before b (q - 1) + sections_of b (q - 1 + 1) ≤ section_count b = ltb-false _ _ (any_none _ (ok.process_fit (q - 1) (omega arith)) 3) in
      let e : q - 1 + 1 ≡ q = omega arith in
      rw (sections_up_to b q lo) (rw e at f)

  module _ (q j : ℕ) (lo : 1 ≤ q) (hi : q ≤ process_count b) (has_j : j < sections_of b q) where
    record_is : section_record b q j ≡ sections_before b (q - 1) + j
    unfolding section_record
    record_is = rw (first_is q lo hi)

    pub record_in : section_record b q j < section_count b
    record_in = omega (arith, record_is, sum_fits q lo hi, sections_up_to b q lo)

    -- no other process has this record
    only_owner : (i : ℕ) → i < process_count b → has_section b (section_record b q j) i ≡ true → i + 1 ≡ q
    unfolding has_section
    only_owner i h e =
        let from : first_section_of b (i + 1) ≤ section_record b q j = leb-true _ _ (and_left _ _ e) in
        let to : section_record b q j < first_section_of b (i + 1) + sections_of b (i + 1)
        = ltb-true _ _ (and_right (leb (first_section_of b (i + 1)) (section_record b q j)) _ e) in
        let f : first_section_of b (i + 1) ≡ sections_before b (i + 1 - 1) = first_is (i + 1) (omega arith) (omega arith) in
        let n : sections_before b (i + 1) ≡ sections_before b (i + 1 - 1) + sections_of b (i + 1) = sections_up_to b (i + 1) (omega arith) in
        elim (dec_lt (i + 1) q) [
          | yes l ↦ absurd (omega (arith, record_is, sections_before_le b (i + 1) (q - 1) (omega arith)))
          | no l ↦ elim (dec_lt q (i + 1)) [
            | yes g ↦ absurd (omega (arith, record_is, sections_up_to b q lo, sections_before_le b q (i + 1 - 1) (omega arith)))
            | no g ↦ omega arith
          ]
        ]

    owns : has_section b (section_record b q j) (q - 1) ≡ true
    unfolding has_section section_record
    owns =
        let e : q - 1 + 1 ≡ q = omega arith in
        rw e (and_both (le-leb (first_section_of b q) (first_section_of b q + j) (omega arith)) (lt-ltb (first_section_of b q + j) (first_section_of b q + sections_of b q) (omega arith)))

    pub owner_is : owner_of b (section_record b q j) ≡ q
    unfolding owner_of
    owner_is =
        by_find_last (has_section b (section_record b q j)) (λ m. (elim m as (λ x. ℕ) [ none ↦ 0 | some i ↦ i + 1 ]) ≡ q) (process_count b)
        (λ nobody. false_not_true (nobody (q - 1) (omega arith)) owns)
        (λ i e l. only_owner i l e)

    -- 7 and 8: it has a byte, and lies in its owner's range
    pub section_size : 1 ≤ size b (section_record b q j)
    unfolding section_unfit
    section_size =
        let z : size b (section_record b q j) ≢ 0 = eqb-false _ _ (any_none _ (ok.section_fit _ record_in) 0) in
        elim (ℕ_discrete (size b (section_record b q j)) 0) [ yes e ↦ absurd (z e) | no e ↦ omega arith ]

    pub section_from : range_first q ≤ address b (section_record b q j)
    unfolding section_misplaced
    section_from = rw owner_is at (ltb-false _ (range_first (owner_of b (section_record b q j))) (any_none _ (ok.section_placed _ record_in) 0))

    pub section_to : section_end b (section_record b q j) ≤ range_last b q + 1
    unfolding section_misplaced
    section_to = rw owner_is at (ltb-false (range_last b (owner_of b (section_record b q j)) + 1) _ (any_none _ (ok.section_placed _ record_in) 1))

    first_le_last : first_page_of b (section_record b q j) ≤ last_page_of b (section_record b q j)
    unfolding first_page_of last_page_of section_end
    first_le_last = omega (arith, section_size)

    -- 9: without NOCOPY its bytes are in flash
    pub section_in_flash : (k : ℕ) → k < size b (section_record b q j) → is_no_copy b (section_record b q j) ≡ false
        → flash_offset_of b (section_record b q j) + k < length x.flash.bytes
    unfolding section_past_flash
    section_in_flash k h copied =
        let y : not (is_no_copy b (section_record b q j)) ≡ true = rw copied in
        omega (arith, ltb-false (length x.flash.bytes) (flash_offset_of b (section_record b q j) + size b (section_record b q j)) (and_rest y (ok.section_in_flash _ record_in)))

    pub section_in_space : (k : ℕ) → k < size b (section_record b q j) → address b (section_record b q j) + k < 0x1_0000_0000
    unfolding section_end
    section_in_space k h =
        let e : address b (section_record b q j) + size b (section_record b q j) ≤ range_last b q + 1 = section_to in
        omega (arith, range_in_space b q)

  -- 6: each section record is some process's, and `owner_of` names it
  covered : (m n : ℕ) → n < sections_before b m → (i : ℕ) × (i < m) × (sections_before b i ≤ n) × (n < sections_before b (i + 1))
  covered zero n h = absurd (omega (arith, sections_before_none b))
  covered (suc m) n h = elim (dec_lt n (sections_before b m)) [
    | yes l ↦ let c = covered m n l in (c.0, omega (arith, c.1), c.2, c.3)
    | no l ↦ (m, omega arith, omega arith, rw add-one h)
  ]

  last_sum : 1 ≤ process_count b → sections_before b (process_count b) ≡ section_count b
  unfolding process_unfit record_unfit process_record
  last_sum some_process =
      let i : ℕ = process_count b - 1 in
      let e : i + 1 ≡ process_count b = omega arith in
      let n : ℕ = sections_before b i + sections_of b (i + 1) in
      let f : (eqb (i + 1) (process_count b) && not (eqb n (section_count b))) ≡ false = any_none _ (ok.process_fit i (omega arith)) 4 in
      rw e at (sections_before_next b i ∙ eqb-true n (section_count b) (not-false _ (and_rest (eq-eqb (i + 1) (process_count b) e) f)))

  pub section_owner : (n : ℕ) → 1 ≤ process_count b → n < section_count b
      → (1 ≤ owner_of b n) × (owner_of b n ≤ process_count b) × (j : ℕ) × (j < sections_of b (owner_of b n)) × (n ≡ section_record b (owner_of b n) j)
  unfolding section_record
  section_owner n some_process h =
      let c = covered (process_count b) n (omega (arith, last_sum some_process)) in
      let q : ℕ = c.0 + 1 in
      let lo : 1 ≤ q = omega arith in
      let hi : q ≤ process_count b = omega (arith, c.1) in
      let back : q - 1 ≡ c.0 = omega arith in
      let first : first_section_of b q ≡ sections_before b c.0 = rw back at (first_is q lo hi) in
      let next : sections_before b q ≡ sections_before b c.0 + sections_of b q = rw back at (sections_up_to b q lo) in
      let j : ℕ = n - first_section_of b q in
      let has_j : j < sections_of b q = omega (arith, c.2, c.3) in
      let r : first_section_of b q + j ≡ n = omega (arith, c.2) in
      let o : owner_of b n ≡ q = rw r at (owner_is q j lo hi has_j) in
      rw o (lo, hi, j, has_j, sym r)

  -- 8: the next section of the process starts on a higher page
  next_above : (q j : ℕ) → 1 ≤ q → q ≤ process_count b → suc j < sections_of b q → last_page_of b (section_record b q j) < first_page_of b (section_record b q (suc j))
  unfolding section_misplaced
  next_above q j lo hi h =
      let n : ℕ = section_record b q (suc j) in
      let p : n - 1 ≡ section_record b q j = unfold section_record in omega arith in
      let first : n ≢ first_section_of b q = unfold section_record in λ e. omega arith in
      let o : owner_of b n ≡ q = owner_is q (suc j) lo hi h in
      let later : not (eqb n (first_section_of b (owner_of b n))) ≡ true = rw (o, ne_eqb n (first_section_of b q) first) in
      let above : last_page_of b (n - 1) < first_page_of b n = leb-false _ _ (and_rest later (any_none _ (ok.section_placed n (record_in q (suc j) lo hi h)) 2)) in
      rw p at above

  above : (q j k : ℕ) → 1 ≤ q → q ≤ process_count b → j < k → k < sections_of b q → last_page_of b (section_record b q j) < first_page_of b (section_record b q k)
  above q j zero lo hi h l = absurd (not-suc-le-zero h)
  above q j (suc k) lo hi h l = elim (ℕ_discrete j k) [
    | yes e ↦ rw e (next_above q k lo hi l)
    | no e ↦ omega (arith, above q j k lo hi (omega arith) (omega arith), first_le_last q k lo hi (omega arith), next_above q k lo hi l)
  ]

  kernel_range_first : (q : ℕ) → q ≡ 1 → range_first q ≡ 0xFFC0_0000
  unfolding range_first
  kernel_range_first q e = choose_yes _ _ (eq-eqb q 1 e)

  range_up_to : (q : ℕ) → range_last b q / 0x40_0000 ≤ own_slot q
  unfolding range_last stack_first own_slot
  range_up_to q = by_test (λ c. choose c 0xFFEF_FFFF (4096 * (0x80000 - stack_pages b q) - 1) / 0x40_0000 ≤ choose c 1023 511) (eqb q 1)
      (λ _. unfold choose in omega arith) (λ _. unfold choose in omega arith)

  pub rising : Rising b
  unfolding first_page_of last_page_of
  rising = record {
    ends = first_le_last;
    rise = above;
    up_to = λ q j lo hi h. omega (arith, section_to q j lo hi h, range_up_to q);
    kernel_from = λ q j e hi h. omega (arith, section_from q j (omega arith) hi h, kernel_range_first q e);
  }

  -- a virtual page of a section is a page of no other section of the process
  one_section : (q j k v : ℕ) → 1 ≤ q → q ≤ process_count b → j < sections_of b q → k < sections_of b q
      → has_page b v (section_record b q j) ≡ true → has_page b v (section_record b q k) ≡ true → k ≡ j
  one_section q j k v lo hi hj hk e f = elim (dec_lt k j) [
    | yes l ↦ absurd (omega (arith, above q k j lo hi l hj, has_page_last b v _ f, has_page_first b v _ e))
    | no l ↦ elim (dec_lt j k) [
      | yes g ↦ absurd (omega (arith, above q j k lo hi g hk, has_page_last b v _ e, has_page_first b v _ f))
      | no g ↦ omega arith
    ]
  ]

  pub section_at_page_is : (q j v : ℕ) → 1 ≤ q → q ≤ process_count b → j < sections_of b q → has_page b v (section_record b q j) ≡ true
      → section_at_page b q v ≡ section_mapping b q v (some j)
  unfolding section_at_page
  section_at_page_is q j v lo hi hj e =
      by_find_last (λ j. has_page b v (section_record b q j)) (λ m. section_mapping b q v m ≡ section_mapping b q v (some j)) (sections_of b q)
      (λ nobody. false_not_true (nobody j hj) e)
      (λ k f l. ap (λ (k : ℕ). section_mapping b q v (some k)) (one_section q j k v lo hi hj l e f))

  -- the pages of a section are pages of its owner's range
  pub page_from : (q j v : ℕ) → 1 ≤ q → q ≤ process_count b → j < sections_of b q → has_page b v (section_record b q j) ≡ true → range_first q / 4096 ≤ v
  unfolding first_page_of
  page_from q j v lo hi hj e =
      let f : address b (section_record b q j) / 4096 ≤ v = has_page_first b v (section_record b q j) e in
      omega (arith, section_from q j lo hi hj)

  pub page_to : (q j v : ℕ) → 1 ≤ q → q ≤ process_count b → j < sections_of b q → has_page b v (section_record b q j) ≡ true → v ≤ range_last b q / 4096
  unfolding last_page_of
  page_to q j v lo hi hj e =
      let f : v ≤ (section_end b (section_record b q j) - 1) / 4096 = has_page_last b v (section_record b q j) e in
      omega (arith, section_to q j lo hi hj)
