-- The pages of root and leaf tables, written.
use Rattle.std.proofs.Common.{◌≡◌, refl, sym, ap, ◌∙◌, Bool, true, false, List, [], ◌∷◌, append-nil, ℕ, zero, suc, ◌+◌, ◌-◌, ◌*◌, ◌/◌, ◌%◌, ◌≤◌, ◌<◌, min, mod-eq_of_lt, arith, length, get_or, set, replicate, get_or-set_same, get_or-set_other, eq-eqb, ne_eqb, lt-ltb}
use Rattle.std.proofs.Math.Decide.{ℕ_discrete}
use borrow.Rule.Slice.PartMut.{put_mid, mid_of, mid_len}
use Rattle.notation.specs.Choice.{choose}
use Rattle.notation.specs.Lists.{tab, gather, sum}
use Rattle.types.specs.declared.PageRange.{PageRange}
use Rattle.rules.specs.Block.{process_count}
use Rattle.rules.specs.Order.{Use, root_table, leaf_table, has_leaf, table_uses, all_tables, tracker_pages, ram_page}
use Rattle.rules.specs.Entries.{pointer_entry, absent_entry}
use Rattle.rules.specs.Tables.{root_entry, leaf_entry}
use Rattle.rules.specs.Load.{phys_page, data_page, table_byte, page_byte}
use Rattle.laws.specs.Choice.{by_test, choose_yes, choose_no}
use Rattle.laws.specs.Lists.{tab_length, tab_get, tab_by, tab_same, gather_next}
use Rattle.laws.specs.Counts.{one, one_yes, one_no, sum_at, sum_zero}
use Rattle.word_stores.specs.Words.{with_words}
use Rattle.stores.proofs.Written.{Written, written_none, written_more, written_skip}
use Rattle.order_laws.specs.Uses.{kernel_leaf}
use Rattle.order_laws.specs.Places.{leaves_below, leaves_below_none, leaves_below_next, root_place, table_count, place_leaf, ram_page_at, tables_length, tables_before_none}
use Rattle.order_laws.specs.Room.{tables_room}
use Rattle.writing.specs.Pages.{put, put_part, put_same}
use Rattle.writing.specs.Uses.{wrote_page}
use Rattle.writing.specs.Loaded.{content, WroteAny, wrote_any, any_then}
use Rattle.accepted.specs.Fits.{Fits}
use Rattle.accepted.specs.Sections.{own_slot}
use Rattle.order_leaves.proofs.TakenSlots.{sum_span}
use Rattle.loader.specs.LeafCursor.{First}
use Rattle.loader.specs.TablePages.{leaf_uses, leaf_pointer, LeavesAt}
use Rattle.loader.proofs.LeafCursor.{own_inside, own_leaf}

-- a page of at most 4,096 bytes with 1,024 words stored in it
table_stored : (d ws : List ℕ) → length ws ≡ 1024 → length d ≤ 4096 → with_words d ws ≡ tab (length d) (table_byte (λ i. get_or ws i 0))
unfolding with_words table_byte
table_stored d ws e l = tab_same (length d) _ _ 0 (λ k h. choose_yes _ _ (lt-ltb k (4 * length ws) (omega arith)))

pub stored : (r p ws : List ℕ) (k a e : ℕ) → a ≡ min (k * 4096) (length r) → e ≡ min (a + 4096) (length r) → length ws ≡ 1024
    → p ≡ with_words (mid_of a (e - a) r) ws
    → put_mid a (e - a) r p ≡ put r k (table_byte (λ i. get_or ws i 0))
stored r p ws k a e ea ee w ep =
    let m : length (mid_of a (e - a) r) ≡ e - a = mid_len a e r (omega arith) in
    put_part r p k a e (table_byte (λ i. get_or ws i 0)) ea ee (ep ∙ table_stored (mid_of a (e - a) r) ws w (omega arith))

-- a table's bytes, by its entries
pub table_put : (r : List ℕ) (k : ℕ) (f g : ℕ → ℕ) → ((i : ℕ) → i < 1024 → f i ≡ g i) → put r k (table_byte f) ≡ put r k (table_byte g)
unfolding table_byte
table_put r k f g h = put_same r k _ _ (λ o l. rw (h (o / 4) (omega arith)))

-- all entries absent at first
pub blank : replicate {A = ℕ} 1024 0 ≡ tab 1024 (λ i. 0)
unfolding tab
blank = refl

-- ONE LEAF TABLE
pub leaf_page : (b : List ℕ) (xip : ℕ → Bool) (start : ℕ) (ram : PageRange) (q m : ℕ) (r e : List ℕ) {r' : List ℕ} (k : ℕ)
    → e ≡ tab 1024 (leaf_entry b (tracker_pages b ram.pages) (data_page b xip (start / 4096) ram) q m)
    → r' ≡ put r k (table_byte (λ i. get_or e i 0)) → r' ≡ put r k (table_byte (leaf_entry b (tracker_pages b ram.pages) (data_page b xip (start / 4096) ram) q m))
leaf_page b xip start ram q m r e k t p = p ∙ table_put r k _ _ (λ i h. rw t (tab_get 1024 _ i 0 h))

pub one_leaf : (b : List ℕ) (xip : ℕ → Bool) (start : ℕ) (ram : PageRange) (q m : ℕ) (r : List ℕ) (n : ℕ) {r' : List ℕ} {n' k : ℕ} → has_leaf b q m ≡ true
    → n' ≡ n - 1 → k ≡ n - 1 → r' ≡ put r k (table_byte (leaf_entry b (tracker_pages b ram.pages) (data_page b xip (start / 4096) ram) q m))
    → WroteAny b xip start ram (leaf_uses b q m) r n r' n'
unfolding leaf_uses choose content page_byte
one_leaf b xip start ram q m r n e l k p = rw e (wrote_any (λ flash. wrote_page (leaf_table q m) _ l k p (λ o _. refl)))

-- FROM ONE LEAF TO THE NEXT
gather_skip : {A : Type 0} (f : ℕ → List A) (a d : ℕ) → ((k : ℕ) → a ≤ k → k < a + d → f k ≡ []) → gather (a + d) f ≡ gather a f
gather_skip f a zero h = let e : a + 0 ≡ a = omega arith in rw e
gather_skip f a (suc d) h =
    let e : a + suc d ≡ a + d + 1 = omega arith in
    rw (e, gather_next (a + d) f, h (a + d) (omega arith) (omega arith), append-nil) (gather_skip f a d (λ k l m. h k l (omega arith)))

-- a leaf table after those below root slot m, and none up to the next
pub next_leaves : (b : List ℕ) (xip : ℕ → Bool) (start : ℕ) (ram : PageRange) (q : ℕ) {m r : ℕ} {d₀ : List ℕ} {n₀ : ℕ} {d : List ℕ} {n : ℕ} → First (has_leaf b q) m r → m ≤ 1024
    → WroteAny b xip start ram (gather m (leaf_uses b q)) d₀ n₀ d n → WroteAny b xip start ram (gather r (leaf_uses b q)) d₀ n₀ d n
unfolding leaf_uses
next_leaves b xip start ram q {m} {r} f h w =
    let e : m + (r - m) ≡ r = omega (arith, f.low) in
    let none : gather r (leaf_uses b q) ≡ gather m (leaf_uses b q) = rw e at (gather_skip (leaf_uses b q) m (r - m) (λ k l i. choose_no _ _ (f.before k l (omega arith)))) in
    rw none w

-- THE ROOT TABLE
-- the slots below m point to their leaf tables, and `page` is that of the next one
pub record Pointing (b : List ℕ) (q first : ℕ) (d₀ d : List ℕ) (page m : ℕ) : Type 0 where
  pub next : page ≡ first - leaves_below b q m
  pub done : Written (leaf_pointer b q first) 0 m d₀ d

-- no leaves from slot m up to the next one's
below_skip : (b : List ℕ) (q a d : ℕ) → ((k : ℕ) → a ≤ k → k < a + d → has_leaf b q k ≡ false) → leaves_below b q (a + d) ≡ leaves_below b q a
unfolding leaves_below
below_skip b q a d h =
    let f : ℕ → ℕ = λ k. one (has_leaf b q k) in
    let s : sum (a + d) f ≡ sum a f + d * 0 = sum_span f 0 a d (λ k l m. one_no (h k l m)) in
    omega arith

skip_to : (b : List ℕ) (q first : ℕ) {d₀ d : List ℕ} {page m r : ℕ} → d₀ ≡ tab 1024 (λ i. 0) → m ≤ 1024 → Pointing b q first d₀ d page m → First (has_leaf b q) m r → Pointing b q first d₀ d page r
unfolding leaf_pointer
skip_to b q first {d₀} {m = m} {r} z h p f =
    let s : m + (r - m) ≡ r = omega (arith, f.low) in
    let n : leaves_below b q r ≡ leaves_below b q m = rw s at (below_skip b q m (r - m) (λ k l i. f.before k l (omega arith))) in
    record {
      next = p.next ∙ rw n;
      done = written_skip p.done (omega (arith, f.low)) (λ k l i. choose_no _ _ (f.before k l i) ∙ sym (rw z (tab_get {A = ℕ} 1024 (λ i. 0) k 0 (omega (arith, f.high)))));
    }

pub pointing_start : (b : List ℕ) (q first : ℕ) {d : List ℕ} {m : ℕ} → m ≡ 0 → Pointing b q first d d first m
pointing_start b q first {d} z = record { next = rw (z, leaves_below_none b q) (omega arith); done = rw z (written_none _ 0 0 d refl) }

pub pointing_next : (b : List ℕ) (q first : ℕ) {d₀ d d' : List ℕ} {page page' m r n : ℕ} → Pointing b q first d₀ d page m → d₀ ≡ tab 1024 (λ i. 0) → m ≤ 1024 → First (has_leaf b q) m r
    → has_leaf b q r ≡ true → r < 1024 → n ≡ r + 1 → d' ≡ set d r (pointer_entry (page % 0x40_0000)) → page' ≡ page - 1 → Pointing b q first d₀ d' page' n
unfolding leaf_pointer
pointing_next b q first {r = r} p z l f h i en e ep =
    let at = skip_to b q first z l p f in
    record {
      next = rw en (omega (arith, at.next, leaves_below_next b q r, one_yes h));
      done = rw (en, e) (written_more at.done (r + 1) refl (rw at.next (sym (choose_yes _ _ h))) (omega arith));
    }

pub pointing_is : (b : List ℕ) (q first : ℕ) {d₀ d : List ℕ} {page m : ℕ} → Pointing b q first d₀ d page m → d₀ ≡ tab 1024 (λ i. 0) → m ≤ 1024 → First (has_leaf b q) m 1024
    → d ≡ tab 1024 (leaf_pointer b q first)
pointing_is b q first {d₀} {d} p z l f =
    let n : length d₀ ≡ 1024 = ap length z ∙ tab_length 1024 _ in
    let at = skip_to b q first z l p f in
    tab_by 1024 _ 0 d (at.done.size ∙ n) (λ k h. at.done.inside k (omega arith) (omega arith) (omega arith))

root_leaf : (b : List ℕ) (xip : ℕ → Bool) (ram : PageRange) (q first kernel m : ℕ) → LeavesAt b xip ram q first kernel → m < 1024
    → leaf_pointer b q first m ≡ choose (has_leaf b q m) (pointer_entry (phys_page b xip ram (leaf_table q m))) absent_entry
unfolding choose absent_entry leaf_pointer
root_leaf b xip ram q first kernel m at h = by_test (λ c. has_leaf b q m ≡ c
    → choose c (pointer_entry ((first - leaves_below b q m) % 0x40_0000)) 0 ≡ choose c (pointer_entry (phys_page b xip ram (leaf_table q m))) 0)
    (has_leaf b q m)
    (λ _ e.
    let l : first - leaves_below b q m < 0x40_0000 = omega (arith, at.small) in
    rw (at.leaf m h e, mod-eq_of_lt l))
    (λ _ e. refl)
    refl

pub root_page : (b : List ℕ) (xip : ℕ → Bool) (ram : PageRange) (q : ℕ) (r e₁ e₂ : List ℕ) {r' : List ℕ} (k first kernel : ℕ)
    → LeavesAt b xip ram q first kernel → e₁ ≡ tab 1024 (leaf_pointer b q first)
    → e₂ ≡ set e₁ 1023 (pointer_entry (kernel % 0x40_0000))
    → r' ≡ put r k (table_byte (λ i. get_or e₂ i 0)) → r' ≡ put r k (table_byte (root_entry b (phys_page b xip ram) q))
unfolding root_entry
root_page b xip ram q r e₁ e₂ k first kernel at e1 e2 p =
    let n₁ : length e₁ ≡ 1024 = ap length e1 ∙ tab_length 1024 _ in
    let l : kernel < 0x40_0000 = at.kernel_small in
    p ∙ table_put r k _ _ (λ m h. elim (ℕ_discrete m 1023) [
      | yes z ↦ rw (e2, z) (get_or-set_same e₁ 1023 _ 0 (omega arith) ∙ rw (mod-eq_of_lt l, at.kernel_leaf) (sym (choose_yes _ _ (eq-eqb 1023 1023 refl))))
      | no z ↦
          rw e2 (get_or-set_other e₁ 1023 m _ 0 z ∙ rw e1 (tab_get 1024 _ m 0 h
          ∙ root_leaf b xip ram q first kernel m at h ∙ sym (choose_no _ _ (ne_eqb m 1023 z))))
    ])

-- ROOM FOR THE TABLES
leaf_below : (b : List ℕ) (q m : ℕ) → m < 1024 → has_leaf b q m ≡ true → leaves_below b q m < leaves_below b q 1024
unfolding leaves_below
leaf_below b q m h e = omega (arith, sum_at 1024 m (λ k. one (has_leaf b q k)) h, one_yes e)

kernel_below : (b : List ℕ) → leaves_below b 1 1023 ≡ 0
unfolding leaves_below has_leaf choose
kernel_below b = sum_zero 1023 _ (λ k h. one_no (ne_eqb k 1023 (λ e. omega arith)))

-- the root and at least one leaf
two_tables : (b : List ℕ) (q : ℕ) → 1 ≤ leaves_below b q 1024
two_tables b q = omega (arith, leaf_below b q (own_slot q) (own_inside q) (own_leaf b q))

room_for_two : (b : List ℕ) (xip : ℕ → Bool) (ram : PageRange) (q : ℕ) → Fits b xip ram → 1 ≤ q → q ≤ process_count b → root_place b xip (tracker_pages b ram.pages) q + 2 ≤ ram.pages
unfolding table_count
room_for_two b xip ram q f lo hi = omega (arith, tables_room b xip ram.pages q f.enough lo hi, two_tables b q)

-- the page of the first leaf, as it is handed out after the root's and made physical
first_leaf : (b : List ℕ) (xip : ℕ → Bool) (ram : PageRange) (q left : ℕ) {n k P : ℕ} → Fits b xip ram → 1 ≤ q → q ≤ process_count b → left ≡ ram.pages - root_place b xip (tracker_pages b ram.pages) q
    → n ≡ left - 1 → k ≡ n - 1 → P ≡ (ram.base + k) % 0x1_0000_0000 → P ≡ ram.base + left - 2
first_leaf b xip ram q left f lo hi l en ek e = omega (arith, room_for_two b xip ram q f lo hi, f.end)

leaf_phys : (b : List ℕ) (xip : ℕ → Bool) (ram : PageRange) (q m left : ℕ) → Fits b xip ram → 1 ≤ q → q ≤ process_count b → left ≡ ram.pages - root_place b xip (tracker_pages b ram.pages) q
    → m < 1024 → has_leaf b q m ≡ true → phys_page b xip ram (leaf_table q m) ≡ ram.base + left - 2 - leaves_below b q m
unfolding phys_page table_count
leaf_phys b xip ram q m left f lo hi l h e =
    let p : ram_page b xip ram.pages (leaf_table q m) ≡ ram.pages - 1 - (root_place b xip (tracker_pages b ram.pages) q + suc (leaves_below b q m)) = ram_page_at b xip ram.pages _ _ (place_leaf b xip _ q m lo hi h e) in
    rw p (away ram.base ram.pages (root_place b xip (tracker_pages b ram.pages) q) (leaves_below b q m) left l (omega (arith, tables_room b xip ram.pages q f.enough lo hi, leaf_below b q m h e)))
  where
    away : (o n p k left : ℕ) → left ≡ n - p → p + k + 2 ≤ n → o + (n - 1 - (p + suc k)) ≡ o + left - 2 - k
    away o n p k left e h = omega arith

phys_small : (b : List ℕ) (xip : ℕ → Bool) (ram : PageRange) (u : Use) → Fits b xip ram → phys_page b xip ram u < 0x40_0000
unfolding phys_page ram_page
phys_small b xip ram u f = omega (arith, f.end)

pub kernel_at : (b : List ℕ) (xip : ℕ → Bool) (ram : PageRange) (left : ℕ) {n k P : ℕ} → Fits b xip ram → left ≡ ram.pages - root_place b xip (tracker_pages b ram.pages) 1
    → n ≡ left - 1 → k ≡ n - 1 → P ≡ (ram.base + k) % 0x1_0000_0000 → P ≡ phys_page b xip ram (leaf_table 1 1023)
kernel_at b xip ram left f l en ek e =
    first_leaf b xip ram 1 left f (omega arith) f.some_process l en ek e
    ∙ sym (leaf_phys b xip ram 1 1023 left f (omega arith) f.some_process l (omega arith) (kernel_leaf b) ∙ rw (kernel_below b) (omega arith))

pub leaves_at : (b : List ℕ) (xip : ℕ → Bool) (ram : PageRange) (q left kernel : ℕ) {n k first : ℕ} → Fits b xip ram → 1 ≤ q → q ≤ process_count b
    → kernel ≡ phys_page b xip ram (leaf_table 1 1023) → left ≡ ram.pages - root_place b xip (tracker_pages b ram.pages) q
    → n ≡ left - 1 → k ≡ n - 1 → first ≡ (ram.base + k) % 0x1_0000_0000 → LeavesAt b xip ram q first kernel
leaves_at b xip ram q left kernel f lo hi kl l en ek e =
    let s = first_leaf b xip ram q left f lo hi l en ek e in
    record {
      leaf = λ m h t. leaf_phys b xip ram q m left f lo hi l h t ∙ rw s;
      small = omega (arith, f.end);
      kernel_leaf = kl;
      kernel_small = rw kl (phys_small b xip ram _ f);
    }

-- THE TABLES OF ONE PROCESS
pub process_tables : (b : List ℕ) (xip : ℕ → Bool) (start : ℕ) (ram : PageRange) (q : ℕ) (r₀ r₁ : List ℕ) (n₀ k : ℕ) {n₁ : ℕ} {r : List ℕ} {n : ℕ}
    → k ≡ n₀ - 1 → n₁ ≡ n₀ - 1 → r₁ ≡ put r₀ k (table_byte (root_entry b (phys_page b xip ram) q))
    → WroteAny b xip start ram (gather 1024 (leaf_uses b q)) r₁ n₁ r n → WroteAny b xip start ram (table_uses b q) r₀ n₀ r n
unfolding table_uses leaf_uses content page_byte
process_tables b xip start ram q r₀ r₁ n₀ k e e₁ p l =
    any_then {us = root_table q ∷ []} (wrote_any (λ flash. wrote_page (root_table q) _ e₁ e p (λ o _. refl))) l

-- THE TABLES OF ALL
pub next_place : (b : List ℕ) (xip : ℕ → Bool) (start : ℕ) (ram : PageRange) (i : ℕ) {r₀ : List ℕ} {n₀ : ℕ} {r : List ℕ} {n : ℕ} → n₀ ≡ ram.pages - root_place b xip (tracker_pages b ram.pages) 1
    → WroteAny b xip start ram (gather i (λ i. table_uses b (i + 1))) r₀ n₀ r n → n ≡ ram.pages - root_place b xip (tracker_pages b ram.pages) (i + 1)
unfolding root_place
next_place b xip start ram i e t =
    let s : i + 1 - 1 ≡ i = omega arith in
    rw s (omega (arith, t.left, tables_length b i, tables_before_none b))

pub tables_all : (b : List ℕ) (xip : ℕ → Bool) (start : ℕ) (ram : PageRange) (i : ℕ) {r₀ : List ℕ} {n₀ : ℕ} {r : List ℕ} {n : ℕ} → i ≡ process_count b
    → WroteAny b xip start ram (gather i (λ i. table_uses b (i + 1))) r₀ n₀ r n → WroteAny b xip start ram (all_tables b) r₀ n₀ r n
unfolding all_tables
tables_all b xip start ram i e t = rw (← e) t
