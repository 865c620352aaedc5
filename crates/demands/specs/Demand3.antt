-- DEMAND 3: "What boots on some RAM boots on any RAM with as many pages or more, at any start, whatever it held (if the new RAM draws
-- neither 1 nor 11), and every process sees the same at every 32-bit address, but for the tracker and the satp words." 02, A6: flash is the
-- same, at the same address, and the new RAM does not draw 13 either.
use Rattle.std.specs.Prelude.{◌≡◌, refl, ◌≢◌, List, true, false, ◌&&◌, ℕ, zero, suc, ◌+◌, ◌-◌, ◌*◌, ◌/◌, ◌%◌, ◌≤◌, ◌<◌, length, eqb, ltb}
use Rattle.std.proofs.Common.{sym, ap, ◌∙◌, arith, eqb-true, eq-eqb, le-ltb, lt-ltb, le-leb, ltb-false}
use Rattle.std.proofs.Math.Decide.{ℕ_discrete}
use Rattle.notation.specs.Choice.{choose}
use Rattle.notation.specs.Words.{byte_of}
use Rattle.rules.specs.Answers.{Verdict, Answer}
use Rattle.types.specs.declared.Area.{Area}
use Rattle.rules.specs.Lent.{Image, Memory, memory_area, pages_in}
use Rattle.rules.specs.Block.{process_count, section_count}
use Rattle.rules.specs.Space.{Data, Mapping, unmapped, stack, maps, in_tracker, kernel_page, mapping_at}
use Rattle.rules.specs.Order.{order, tracker_pages, pages_needed}
use Rattle.rules.specs.Refusals.{block_too_short, format_unknown, counts_out_of_bounds, layout_not_tight, ram_too_small, process_unfit, process_record_check, process_check, section_refusal, section_check, entry_point_check, region_check}
use Rattle.rules.specs.Refusals.{Check, whole, records, lent_checks, header_checks, process_checks, block_checks, content_checks, checks, verdict}
use Rattle.rules.specs.Contents.{process_word, process_list_byte}
use Rattle.rules.specs.Load.{boots, boot_answer, answer_on, answer}
use Rattle.rules.specs.Sees.{byte_at, view_of, sees, sees_on, process_sees}
use Rattle.rules.specs.Compare.{Compared, everything, rights_only, nothing, at_satp, compared, without_byte, Agree}
use Rattle.rules.specs.InPlace.{xip_of}
use Rattle.laws.specs.Choice.{by_test, by_choose, choose_yes, and_both}
use Rattle.laws.specs.Lists.{Every, ◌and◌, every_at}
use Rattle.accepted.specs.Checks.{Passes, Refuses, FirstCause, not_both}
use Rattle.accepted.specs.NoCause.{NoCause, no_cause}
use Rattle.accepted.specs.Tracker.{tracker_pages_lem}
use Rattle.accepted.specs.Counting.{needed_larger, tracker_pages_le, needed_less_tracker}
use Rattle.demands.specs.Demand1.{refusal_is_first_cause}
use Rattle.demands.specs.Mappings.{by_mapping, in_tracker_first, in_tracker_last}
use Rattle.demands.specs.Demand2.{sees_what_the_rules_give}

-- BOOTS ON ANY LARGER RAM
-- a check gives no refusal but 1, 11 and 13
abbrev Only : Check → Type 0
Only c = (v : Verdict) → 1 ≤ v.number → v.number ≢ 1 → v.number ≢ 11 → v.number ≢ 13 → Refuses c v → ⊥

passes_only : (c : Check) → Passes c → Only c
passes_only c p v h _ _ _ r = not_both c v h p r

region_only : (b : List ℕ) (flash ram : Area) (n : ℕ) → Only (records n (region_check b flash ram))
unfolding region_check
region_only b flash ram n v h _ no-11 _ r =
    by_choose (λ z. z ≡ v.number → ⊥) _ 11 0 (λ _ e. no-11 (sym e)) (λ _ e. omega arith) r.1

-- what passes for one RAM draws no other number for a larger one
only_1_11_and_13 : (x : Image) (ram ram' : Area) → (pages_in ram).pages ≤ (pages_in ram').pages → NoCause x ram → Every Only (checks x ram')
unfolding checks lent_checks header_checks process_checks block_checks content_checks process_unfit process_record_check process_check section_refusal section_check entry_point_check ram_too_small choose
only_1_11_and_13 x ram ram' l ok =
    let b : List ℕ = x.block in
    let enough : pages_needed b (xip_of x) (pages_in ram).pages ≤ (pages_in ram).pages = ltb-false _ _ ok.room in
    (λ v h no-1 no-11 no-13 r. no-1 r.1)
    and (λ v h no-1 no-11 no-13 r. no-13 r.1)
    and passes_only (whole 2 (block_too_short b)) ok.block_long
    and passes_only (whole 3 (format_unknown b)) ok.format_known
    and passes_only (whole 4 (counts_out_of_bounds b)) ok.counts_in_bounds
    and passes_only (whole 5 (layout_not_tight b)) ok.layout_tight
    and passes_only (records (process_count b) (process_check b)) (λ i h. rw (ok.process_fit i h))
    and passes_only (records (section_count b) (section_check b (length x.flash.bytes))) (λ n h. rw (ok.section_fit n h, ok.section_placed n h, ok.section_in_flash n h))
    and passes_only (records (process_count b) (entry_point_check b)) (λ i h. rw (ok.entry_point_inside i h))
    and region_only b _ ram' _
    and passes_only (whole 12 (ram_too_small x (pages_in ram').pages)) (le-ltb _ _ (needed_larger b (xip_of x) (pages_in ram).pages (pages_in ram').pages l enough))
    and tt

pub boots_on_larger_ram : (x : Image) (r r' : Memory) → boots x r ≡ true → (pages_in (memory_area r)).pages ≤ (pages_in (memory_area r')).pages
    → (verdict x (memory_area r')).number ≢ 1 → (verdict x (memory_area r')).number ≢ 11 → (verdict x (memory_area r')).number ≢ 13 → boots x r' ≡ true
unfolding boots
boots_on_larger_ram x r r' e l no-1 no-11 no-13 =
    let v : Verdict = verdict x (memory_area r') in
    elim (ℕ_discrete v.number 0) [
      | yes z ↦ eq-eqb v.number 0 z
      | no z ↦
          let c : (1 ≤ v.number) × (v.number ≤ 13) × FirstCause (checks x (memory_area r')) v = refusal_is_first_cause x (memory_area r') z in
          absurd (every_at Only (checks x (memory_area r')) c.2.step
          (only_1_11_and_13 x (memory_area r) (memory_area r') l (no_cause x (memory_area r) (eqb-true _ 0 e))) c.2.there v c.0 no-1 no-11 no-13 c.2.cause)
    ]

-- THE SAME ON BOTH
-- what stands at a virtual page is the same where both trackers have it, or neither has
same_mapping : (b : List ℕ) (T T' q v : ℕ) → in_tracker T v ≡ in_tracker T' v → mapping_at b T q v ≡ mapping_at b T' q v
unfolding mapping_at kernel_page
same_mapping b T T' q v e = rw e

same_rights : (f g : Data → ℕ) (s : Mapping) → without_byte (view_of f s) ≡ without_byte (view_of g s)
unfolding without_byte view_of
same_rights f g unmapped = refl
same_rights f g stack = refl
same_rights f g (maps d t) = refl

same_word : (b : List ℕ) (s s' : ℕ → ℕ) (q w : ℕ) → eqb w 0 ≡ false → process_word b s q w ≡ process_word b s' q w
unfolding process_word
same_word b s s' q zero e = cc
same_word b s s' q (suc zero) e = refl
same_word b s s' q (suc (suc w)) e = refl

-- a byte of the process list that is none of a satp word
same_list : (b : List ℕ) (s s' : ℕ → ℕ) (a : ℕ) → a / 4096 ≡ 0xFFF80 → at_satp b a ≡ false
    → process_list_byte b s (a - 0xFFF8_0000) ≡ process_list_byte b s' (a - 0xFFF8_0000)
unfolding process_list_byte at_satp choose
same_list b s s' a h e =
    let k : ℕ = a - 0xFFF8_0000 in
    let none_here : (ltb k (12 * process_count b) && eqb (k / 4 % 3) 0) ≡ false = rw (eq-eqb (a / 4096) 0xFFF80 h) at e in
    by_test (λ c. (c && eqb (k / 4 % 3) 0) ≡ false
    → choose c (byte_of (process_word b s (k / 12 + 1) (k / 4 % 3)) (k % 4)) 0 ≡ choose c (byte_of (process_word b s' (k / 12 + 1) (k / 4 % 3)) (k % 4)) 0)
    (ltb k (12 * process_count b)) (λ _ z. rw (same_word b s s' (k / 12 + 1) (k / 4 % 3) z)) (λ _ _. refl) none_here

-- off the tracker and the satp words, the byte depends on no board
same_view : (x : Image) (track track' : List ℕ) (s s' : ℕ → ℕ) (T q a : ℕ) → in_tracker T (a / 4096) ≡ false → at_satp x.block a ≡ false
    → view_of (byte_at x track s a) (mapping_at x.block T q (a / 4096)) ≡ view_of (byte_at x track' s' a) (mapping_at x.block T q (a / 4096))
unfolding view_of byte_at
same_view x track track' s s' T q a no-tracker no-satp =
    by_mapping (λ m. view_of (byte_at x track s a) m ≡ view_of (byte_at x track' s' a) m) x.block T q (a / 4096)
    refl (λ _ _. refl) (λ _ _ _ _. refl) (λ _ _ _. refl) (λ _. refl) (λ e. cc) (λ e. rw (same_list x.block s s' a e no-satp))

wider : (T T' v : ℕ) → T ≤ T' → in_tracker T v ≡ true → in_tracker T' v ≡ true
unfolding in_tracker
wider T T' v l e =
    and_both (le-leb 0xFFF40 v (in_tracker_first T v e)) (lt-ltb v (0xFFF40 + T') (omega (arith, in_tracker_last T v e)))

agree : (x : Image) (track track' : List ℕ) (s s' : ℕ → ℕ) (T T' q a : ℕ) → T ≤ T'
    → Agree (compared x.block T T' a)
    (view_of (byte_at x track s a) (mapping_at x.block T q (a / 4096)))
    (view_of (byte_at x track' s' a) (mapping_at x.block T' q (a / 4096)))
unfolding compared
agree x track track' s s' T T' q a l =
    let v : ℕ = a / 4096 in
    let f : Data → ℕ = byte_at x track s a in
    let g : Data → ℕ = byte_at x track' s' a in
    let P : Compared → Type 0 = λ c. Agree c (view_of f (mapping_at x.block T q v)) (view_of g (mapping_at x.block T' q v)) in
    by_choose P (in_tracker T v) rights_only _
    (λ e. rw (same_mapping x.block T T' q v (e ∙ sym (wider T T' v l e))) (same_rights f g (mapping_at x.block T' q v)))
    (λ e. by_choose P (in_tracker T' v) nothing _ (λ _. tt)
    (λ e'. by_choose P (at_satp x.block a) rights_only everything
    (λ _. rw (same_mapping x.block T T' q v (e ∙ sym e')) (same_rights f g (mapping_at x.block T' q v)))
    (λ n. rw (same_mapping x.block T T' q v (e ∙ sym e')) (same_view x track track' s s' T' q a e' n))))

-- the same block and flash on a RAM and on a new RAM with as many pages or more
pub record SameOnBoth (x : Image) (r r' : Memory) : Type 0 where
  -- every process sees the same at every 32-bit address, in all that is compared there
  pub views : (q a : ℕ) → 1 ≤ q → q ≤ process_count x.block → a < 0x1_0000_0000
      → Agree (compared x.block (tracker_pages x.block (pages_in (memory_area r)).pages) (tracker_pages x.block (pages_in (memory_area r')).pages) a)
      (process_sees x r q a) (process_sees x r' q a)
  -- pages taken less tracker pages is the same number in both answers
  pub pages : (answer x r).taken - (answer x r).tracker ≡ (answer x r').taken - (answer x r').tracker

taken_less_tracker : (x : Image) (r : Memory) → boots x r ≡ true → (answer x r).taken - (answer x r).tracker ≡ length (order x.block (xip_of x) 0)
unfolding boots answer answer_on boot_answer
taken_less_tracker x r e = ap (λ (a : Answer). a.taken - a.tracker) (choose_yes _ _ e) ∙ needed_less_tracker x.block (xip_of x) (pages_in (memory_area r)).pages

pub same_on_both : (x : Image) (r r' : Memory) → boots x r ≡ true → boots x r' ≡ true → (pages_in (memory_area r)).pages ≤ (pages_in (memory_area r')).pages
    → SameOnBoth x r r'
unfolding sees_on sees
same_on_both x r r' e e' l = record {
  views = λ q a lo hi h.
      rw (
        (sees_what_the_rules_give x r e q a lo hi h).0,
        (sees_what_the_rules_give x r' e' q a lo hi h).0,
        tracker_pages_lem x.block (xip_of x) (pages_in (memory_area r)).pages,
        tracker_pages_lem x.block (xip_of x) (pages_in (memory_area r')).pages,
      )
      (agree x _ _ _ _ _ _ q a (tracker_pages_le x.block (pages_in (memory_area r)).pages (pages_in (memory_area r')).pages l));
  pages = taken_less_tracker x r e ∙ sym (taken_less_tracker x r' e');
}
