-- Laws of the leaf tables: the places of what is mapped, and one mapping written over another.
use Rattle.std.proofs.lemmas.Bool.{lt-leb}
use Rattle.std.proofs.Common.{◌≡◌, refl, sym, ap, ◌∙◌, Bool, true, false, ◌&&◌, List, ℕ, zero, suc, ◌+◌, ◌-◌, ◌*◌, ◌/◌, ◌%◌, ◌≤◌, ◌<◌, mod-eq_of_lt, arith, leb, eqb, length, get_or, eq-eqb, ne_eqb, eqb-true, leb-true, ltb-true, le-leb, lt-ltb, le-ltb}
use Rattle.std.proofs.Math.Option.{none, some}
use Rattle.std.proofs.Math.Decide.{dec_lt, ℕ_discrete}
use Rattle.notation.specs.Choice.{choose}
use Rattle.notation.specs.Lists.{tab, find_last}
use Rattle.laws.specs.Numbers.{leb_one}
use Rattle.laws.specs.Choice.{false_not_true, choose_same, choose_yes, choose_no, choose_map, and_left, and_right, and_not_left, and_not_right}
use Rattle.laws.specs.Lists.{tab_length, tab_get, tab_same, find_last_next, by_find_last}
use Rattle.types.specs.declared.PageRange.{PageRange}
use Rattle.types.specs.declared.Rights.{Rights}
use Rattle.block_records.specs.Read.{IsSection}
use Rattle.block_records.specs.declared.Section.{Section}
use Rattle.rules.specs.Block.{process_count, stack_pages, sections_of, section_record, first_section_of, flash_offset_of, first_page_of, last_page_of, page_count}
use Rattle.rules.specs.Space.{Data, section_page, tracker_page, process_list, block_copy, Mapping, stack, maps, section_rights, kernel_read, kernel_write, has_page, section_mapping, section_at_page, in_tracker, kernel_page, in_stack, user_page, mapping_at}
use Rattle.rules.specs.Order.{Use, holds, pages_taken, pages_for, tracker_pages, uses, pages_needed}
use Rattle.rules.specs.Entries.{absent_entry, reserved_entry, page_entry}
use Rattle.rules.specs.Tables.{entry_for, leaf_entry}
use Rattle.laws.specs.Counts.{sum_le}
use Rattle.rules.specs.Load.{phys_page, flash_page, data_page}
use Rattle.order_laws.specs.Places.{At, pages_before, process_pages, user_pages, section_place, tracker_place, user_pages_none, user_pages_next, pages_before_next, place_section, place_tracker, place_process_list, place_block_copy, ram_page_at}
use Rattle.order_laws.specs.Room.{needed_parts}
use Rattle.sv32_tables.specs.Filled.{nth_page, pages_mapped, stack_reserved, stack_reserved_lem}
use Rattle.accepted.specs.Fits.{Fits}
use Rattle.loader.specs.LeafCursor.{Walkable, Passed}
use Rattle.loader.specs.LeafEntries.{FlashNumbers, entries_of, rights_of}
use Rattle.loader.proofs.LeafCursor.{pages_before_le}

-- PLACES
user_pages_le : (b : List ℕ) (xip : ℕ → Bool) (m n : ℕ) → m ≤ n → user_pages b xip m ≤ user_pages b xip n
unfolding user_pages
user_pages_le b xip m n h = sum_le m n _ h

kernel_place : (b : List ℕ) (xip : ℕ → Bool) (q n : ℕ) → q ≡ 1 → n ≡ process_count b → section_place b xip q ≡ 4 + user_pages b xip (n - 1)
unfolding section_place
kernel_place b xip q n e c = rw (choose_yes _ _ (eq-eqb q 1 e), c)

user_place : (b : List ℕ) (xip : ℕ → Bool) (q : ℕ) → (q ≡ 1 → ⊥) → section_place b xip q ≡ 4 + user_pages b xip (q - 2)
unfolding section_place
user_place b xip q n = rw (choose_no _ _ (ne_eqb q 1 n))

-- process 2's sections come first, and those of process q + 1 after those of process q
pub first_user_place : (b : List ℕ) (xip : ℕ → Bool) (q : ℕ) → q ≡ 1 → section_place b xip (q + 1) ≡ 4
first_user_place b xip q e =
    let s : q + 1 - 2 ≡ 0 = omega arith in
    user_place b xip (q + 1) (λ z. omega arith) ∙ rw (s, user_pages_none b xip)

pub next_user_place : (b : List ℕ) (xip : ℕ → Bool) (q : ℕ) → 1 ≤ q → (q ≡ 1 → ⊥) → section_place b xip (q + 1) ≡ section_place b xip q + process_pages b xip q
next_user_place b xip q lo n =
    let s : q - 2 + 2 ≡ q = omega arith in
    let t : q + 1 - 2 ≡ q - 2 + 1 = omega arith in
    let next : user_pages b xip (q - 2 + 1) ≡ user_pages b xip (q - 2) + process_pages b xip q = rw s at (user_pages_next b xip (q - 2)) in
    user_place b xip (q + 1) (λ z. omega arith) ∙ rw t (omega (arith, user_place b xip q n))

-- the sections of process q end where the tracker begins, or before
sections_le : (b : List ℕ) (xip : ℕ → Bool) (q : ℕ) → 1 ≤ q → q ≤ process_count b → section_place b xip q + process_pages b xip q ≤ tracker_place b xip
unfolding tracker_place
sections_le b xip q lo hi = elim (ℕ_discrete q 1) [
  | yes e ↦ rw e (omega arith)
  | no e ↦
      omega (arith, next_user_place b xip q lo e, user_place b xip (q + 1) (λ z. omega arith), kernel_place b xip 1 _ refl refl, user_pages_le b xip (q + 1 - 2) (process_count b - 1) (omega arith))
]

module _ {b : List ℕ} {xip : ℕ → Bool} {ram : PageRange} (fits : Fits b xip ram) where
  -- the tracker, the process list and the block copy have their places
  pub tracker_room : tracker_place b xip + tracker_pages b ram.pages + 2 ≤ ram.pages
  tracker_room = omega (arith, fits.enough, needed_parts b xip ram.pages)

  pub tracker_some : 1 ≤ tracker_pages b ram.pages
  unfolding tracker_pages pages_for
  tracker_some = omega (arith, tracker_room)

  -- the tracker's last virtual page has a number of 32 bits
  pub tracker_end : (T : ℕ) → T ≡ tracker_pages b ram.pages → 0xFFF40 + (T - 1) < 0x1_0000_0000
  tracker_end T e = omega (arith, tracker_room, fits.few_pages)

  -- the sections of a process can be gone through
  pub walkable : (q : ℕ) → 1 ≤ q → q ≤ process_count b → Walkable b xip q
  walkable q lo hi = record { low = lo; high = hi; rising = fits.sections_rise; room = omega (arith, tracker_room, sections_le b xip q lo hi, fits.few_pages) }

  section_room : (q j : ℕ) → 1 ≤ q → q ≤ process_count b → j ≤ sections_of b q → section_place b xip q + pages_before b xip q j + 2 ≤ ram.pages
  unfolding process_pages
  section_room q j lo hi h = omega (arith, tracker_room, sections_le b xip q lo hi, pages_before_le b xip q j (sections_of b q) h)

  -- the physical page of a use; a page number of its own size is the same modulo 0x400000
  phys_at : (u : Use) (i P : ℕ) → At b xip (tracker_pages b ram.pages) u i → P ≡ ram.base + (ram.pages - 1 - i) → P ≡ phys_page b xip ram u
  unfolding phys_page
  phys_at u i P a e = e ∙ sym (rw (ram_page_at b xip ram.pages u i a))

  phys_mod : (u : Use) (i P : ℕ) → At b xip (tracker_pages b ram.pages) u i → P ≡ ram.base + (ram.pages - 1 - i) → P % 0x40_0000 ≡ phys_page b xip ram u
  unfolding pages_needed uses
  phys_mod u i P a e = mod-eq_of_lt (omega (arith, fits.end, fits.enough, a.inside)) ∙ phys_at u i P a e

-- ONE MAPPING OVER ANOTHER
-- T pages, as a first and a last one
tracker_test : (T v : ℕ) → 1 ≤ T → (leb 0xFFF40 v && leb v (0xFFF40 + (T - 1))) ≡ in_tracker T v
unfolding in_tracker
tracker_test T v h = elim (dec_lt v (0xFFF40 + T)) [
  | yes l ↦ rw (lt-ltb v (0xFFF40 + T) l, le-leb v (0xFFF40 + (T - 1)) (omega arith))
  | no l ↦ rw (le-ltb v (0xFFF40 + T) (omega arith), lt-leb v (0xFFF40 + (T - 1)) (omega arith))
]

module _ (page : Data → ℕ) (m : ℕ) where
  entries_same : (f g : ℕ → Mapping) → ((v : ℕ) → f v ≡ g v) → entries_of page f m ≡ entries_of page g m
  unfolding entries_of
  entries_same f g h = tab_same 1024 _ _ 0 (λ i _. rw (h (1024 * m + i)))

  -- where the test passes `new` is written over `old`
  over : (old new : ℕ → Mapping) (t : ℕ → Bool) (x : ℕ → ℕ) (e : List ℕ)
      → e ≡ entries_of page old m
      → ((i : ℕ) → i < 1024 → t (1024 * m + i) ≡ true → x i ≡ entry_for page (new (1024 * m + i)))
      → tab (length e) (λ i. choose (t (1024 * m + i)) (x i) (get_or e i 0)) ≡ entries_of page (λ v. choose (t v) (new v) (old v)) m
  unfolding entries_of
  over old new t x e p h =
      let f : ℕ → ℕ = λ i. entry_for page (old (1024 * m + i)) in
      rw (p, tab_length) (tab_same 1024 _ _ 0 (λ i l.
      let v : ℕ = 1024 * m + i in
      rw (tab_get 1024 f i 0 l) (choose_same (t v) _ _ _ (h i l) ∙ sym (choose_map (entry_for page) (t v) (new v) (old v)))))

  -- the virtual pages lo to hi are mapped over `old`, where `test` says the same of a page as lo and hi do
  pages_over : (old new : ℕ → Mapping) (lo hi first : ℕ) (rises : Bool) (t : Rights) (test : ℕ → Bool) (e : List ℕ)
      → e ≡ entries_of page old m
      → ((v : ℕ) → (leb lo v && leb v hi) ≡ test v)
      → ((v : ℕ) → test v ≡ true → page_entry (nth_page first rises (v - lo) % 0x40_0000) t ≡ entry_for page (new v))
      → pages_mapped e m lo hi first rises t ≡ entries_of page (λ v. choose (test v) (new v) (old v)) m
  unfolding pages_mapped
  pages_over old new lo hi first rises t test e p s h =
      over old new (λ v. leb lo v && leb v hi) _ e p (λ i _ c. h (1024 * m + i) (rw (s (1024 * m + i)) at c))
      ∙ entries_same _ _ (λ v. rw (s v))

  page_over : (old : ℕ → Mapping) (x P : ℕ) (d : Data) (t : Rights) (e : List ℕ)
      → e ≡ entries_of page old m
      → P % 0x40_0000 ≡ page d
      → pages_mapped e m x x P false t ≡ entries_of page (λ v. choose (eqb v x) (maps d t) (old v)) m
  unfolding entry_for nth_page
  page_over old x P d t e p h = pages_over old (λ _. maps d t) x x P false t (λ v. eqb v x) e p (leb_one x) (λ v c.
      let s : v ≡ x = eqb-true v x c in
      let z : P - (v - x) ≡ P = omega arith in
      rw (choose_no {A = ℕ} {c = false} (P + (v - x)) (P - (v - x)) refl, z, h))

-- SECTIONS
-- a search that finds nothing, and one that finds nothing from number a on
find_last_no : (t : ℕ → Bool) (n : ℕ) → ((j : ℕ) → j < n → t j ≡ false) → find_last t n ≡ none
find_last_no t n h = by_find_last t (λ m. m ≡ none) n (λ _. refl) (λ j e l. false_not_true (h j l) e)

find_last_up : (t : ℕ → Bool) (a d : ℕ) → ((k : ℕ) → a ≤ k → k < a + d → t k ≡ false) → find_last t (a + d) ≡ find_last t a
find_last_up t a zero h = let e : a + 0 ≡ a = omega arith in rw e
find_last_up t a (suc d) h =
    let e : a + suc d ≡ a + d + 1 = omega arith in
    rw e (find_last_next t (a + d) ∙ choose_no _ _ (h (a + d) (omega arith) (omega arith)) ∙ find_last_up t a d (λ k l m. h k l (omega arith)))

find_last_skip : (t : ℕ → Bool) (a n : ℕ) → a ≤ n → ((k : ℕ) → a ≤ k → k < n → t k ≡ false) → find_last t a ≡ find_last t n
find_last_skip t a n l h = let e : a + (n - a) ≡ n = omega arith in sym (rw e at (find_last_up t a (n - a) (λ k i m. h k i (omega arith))))

-- what stands at virtual page v once the first n sections of process q are mapped
unfoldable pub of_first : List ℕ → ℕ → ℕ → ℕ → Mapping
of_first b q n v = section_mapping b q v (find_last (λ j. has_page b v (section_record b q j)) n)

-- MAPPED: the first j sections of process q are mapped in the leaf table for root slot m, and `place` is the place after their pages
pub record Mapped (b : List ℕ) (xip : ℕ → Bool) (F : ℕ) (ram : PageRange) (q m j place : ℕ) (e : List ℕ) : Type 0 where
  pub at_place : place ≡ section_place b xip q + pages_before b xip q j
  pub room : place + 2 ≤ ram.pages
  pub done : e ≡ entries_of (data_page b xip F ram) (of_first b q j) m

-- those that end below the slot have no page in the table
pub mapped_from : {b : List ℕ} {xip : ℕ → Bool} {F : ℕ} {ram : PageRange} → Fits b xip ram → {q m j place : ℕ} → Walkable b xip q → Passed b xip q m j place → {e : List ℕ}
    → e ≡ tab 1024 (λ i. 0) → Mapped b xip F ram q m j place e
unfolding entries_of of_first section_mapping has_page entry_for absent_entry
mapped_from {b} fits {q} {m} {j} w p z = record {
  at_place = p.at_place;
  room = omega (arith, p.at_place, section_room fits q j w.low w.high p.inside);
  done = z ∙ tab_same 1024 _ _ 0 (λ i _. rw (find_last_no _ j (λ k h.
      and_not_right (leb (first_page_of b (section_record b q k)) (1024 * m + i)) (lt-leb (1024 * m + i) (last_page_of b (section_record b q k)) (omega (arith, p.below k h))))));
}

-- one section more
module _ {b : List ℕ} {xip : ℕ → Bool} {F : ℕ} {ram : PageRange} (fits : Fits b xip ram) (numbers : FlashNumbers b xip F) (q j : ℕ) (lo : 1 ≤ q) (hi : q ≤ process_count b) (h : j < sections_of b q) where
  abbrev n : ℕ
  n = section_record b q j

  -- its page at virtual page v, where it is copied, and where it is used in place
  copied_page : (v P : ℕ) → xip n ≡ false → has_page b v n ≡ true → P ≡ ram.base + (ram.pages - 1 - (section_place b xip q + pages_before b xip q j))
      → nth_page P false (v - first_page_of b n) % 0x40_0000 ≡ data_page b xip F ram (section_page q j (v - first_page_of b n))
  unfolding has_page pages_taken page_count pages_needed uses data_page nth_page
  copied_page v P x c e =
      let from : first_page_of b n ≤ v = leb-true _ _ (and_left _ _ c) in
      let to : v ≤ last_page_of b n = leb-true _ _ (and_right (leb (first_page_of b n) v) _ c) in
      let taken : v - first_page_of b n < choose (xip n) 0 (last_page_of b n + 1 - first_page_of b n) = rw (choose_no {A = ℕ} 0 _ x) (omega arith) in
      let a = place_section b xip (tracker_pages b ram.pages) q j (v - first_page_of b n) lo hi h taken in
      rw (choose_no {A = ℕ} {c = false} (P + (v - first_page_of b n)) (P - (v - first_page_of b n)) refl, choose_no {A = ℕ} (flash_page b F n (v - first_page_of b n)) _ x)
      (phys_mod fits _ _ _ a (omega (arith, fits.enough, a.inside)))

  flash_page_is : (v P : ℕ) → xip n ≡ true → has_page b v n ≡ true → P ≡ F + flash_offset_of b n / 4096
      → nth_page P true (v - first_page_of b n) % 0x40_0000 ≡ data_page b xip F ram (section_page q j (v - first_page_of b n))
  unfolding has_page page_count data_page nth_page flash_page
  flash_page_is v P x c e =
      let from : first_page_of b n ≤ v = leb-true _ _ (and_left _ _ c) in
      let to : v ≤ last_page_of b n = leb-true _ _ (and_right (leb (first_page_of b n) v) _ c) in
      let i : ℕ = v - first_page_of b n in
      let small : F + flash_offset_of b n / 4096 + i < 0x10_0000 = numbers.number q j i lo hi h x (omega arith) in
      rw (choose_yes {A = ℕ} {c = true} (P + i) (P - i) refl, choose_yes {A = ℕ} (F + flash_offset_of b n / 4096 + i) (phys_page b xip ram (holds (section_page q j i))) x, e)
      (mod-eq_of_lt (omega arith))

  section_entry : (c : Bool) (v P : ℕ) → c ≡ xip n → has_page b v n ≡ true
      → P ≡ choose c (F + flash_offset_of b n / 4096) (ram.base + (ram.pages - 1 - (section_place b xip q + pages_before b xip q j)))
      → nth_page P c (v - first_page_of b n) % 0x40_0000 ≡ data_page b xip F ram (section_page q j (v - first_page_of b n))
  section_entry true v P x has e = flash_page_is v P (sym x) has (e ∙ choose_yes _ _ refl)
  section_entry false v P x has e = copied_page v P (sym x) has (e ∙ choose_no _ _ refl)

  section_over : (m P : ℕ) (c : Bool) (e : List ℕ) → e ≡ entries_of (data_page b xip F ram) (of_first b q j) m → c ≡ xip n
      → P ≡ choose c (F + flash_offset_of b n / 4096) (ram.base + (ram.pages - 1 - (section_place b xip q + pages_before b xip q j)))
      → pages_mapped e m (first_page_of b n) (last_page_of b n) P c (section_rights b q n) ≡ entries_of (data_page b xip F ram) (of_first b q (j + 1)) m
  unfolding has_page of_first section_mapping entry_for
  section_over m P c e p x a =
      pages_over (data_page b xip F ram) m (of_first b q j) (λ v. section_mapping b q v (some j)) (first_page_of b n) (last_page_of b n) P c _ (λ v. has_page b v n) e p
      (λ _. refl) (λ v has. rw (section_entry c v P x has a))
      ∙ entries_same _ m _ _ (λ v. sym (rw find_last_next (choose_map (section_mapping b q v) (has_page b v n) (some j) _)))

pub mapped_more : {b : List ℕ} {xip : ℕ → Bool} {F : ℕ} {ram : PageRange} {q m j place : ℕ} {e : List ℕ} → Mapped b xip F ram q m j place e
    → Fits b xip ram → FlashNumbers b xip F → Walkable b xip q
    → {n count P taken : ℕ} {c : Bool} {s : Section} {t : Rights} {e' : List ℕ}
    → n ≡ section_record b q j
    → count ≡ sections_of b q
    → j < count
    → IsSection b n s
    → t ≡ rights_of q s.writable s.executable
    → c ≡ xip n
    → P ≡ choose c (F + s.flash_offset / 4096) ((ram.base + (ram.pages - 1 - place)) % 0x1_0000_0000)
    → taken ≡ choose (xip n) 0 s.pages
    → e' ≡ pages_mapped e m s.first_page.0 s.last_page.0 P c t
    → Mapped b xip F ram q m (j + 1) (place + taken) e'
unfolding section_record section_rights pages_taken
mapped_more {b} {xip} {ram = ram} {q} {m} {j} {place} {e} t fits numbers walk {P = P} {taken} {c} {s} f o l is rights x a k w =
    let next = pages_before_next b xip q j in
    let taken_is : taken ≡ choose (xip (first_section_of b q + j)) 0 (page_count b (first_section_of b q + j)) = rw f at (rw is.page_count_is at k) in
    let at_place : place + taken ≡ section_place b xip q + pages_before b xip q (j + 1) = omega (arith, t.at_place) in
    let inside : (ram.base + (ram.pages - 1 - place)) % 0x1_0000_0000 ≡ ram.base + (ram.pages - 1 - (section_place b xip q + pages_before b xip q j))
    = rw (← t.at_place) (mod-eq_of_lt (omega (arith, fits.end, t.room))) in
    record {
      at_place = at_place;
      room = omega (arith, section_room fits q (j + 1) walk.low walk.high (omega arith));
      done = w ∙ rw (is.first_page, is.last_page, rights, is.is_writable, is.is_executable, f)
          (section_over fits numbers q j walk.low walk.high (omega arith) m P c e t.done (rw f at x) (rw (is.flash_offset, inside, f) at a));
    }

pub mapped_all : {b : List ℕ} {xip : ℕ → Bool} {F : ℕ} {ram : PageRange} {q m j place : ℕ} {e : List ℕ} → Mapped b xip F ram q m j place e → j ≡ sections_of b q
    → e ≡ entries_of (data_page b xip F ram) (section_at_page b q) m
unfolding of_first section_at_page
mapped_all t l = rw l at t.done

-- the sections from j on start above page v
none_from : {b : List ℕ} {xip : ℕ → Bool} {q : ℕ} → Walkable b xip q → (j v : ℕ) → j < sections_of b q → v < first_page_of b (section_record b q j) → of_first b q j v ≡ section_at_page b q v
unfolding of_first section_at_page has_page
none_from {b} {q} w j v h l = ap (section_mapping b q v) (find_last_skip _ j (sections_of b q) (omega arith) (λ k a z.
    and_not_left _ (lt-leb (first_page_of b (section_record b q k)) v (elim (ℕ_discrete k j) [
      | yes e ↦ rw e l
      | no e ↦ omega (arith, w.rising.rise q j k w.low w.high (omega arith) z, w.rising.ends q j w.low w.high h)
    ]))))

pub mapped_stop : {b : List ℕ} {xip : ℕ → Bool} {F : ℕ} {ram : PageRange} {q m j place : ℕ} {e : List ℕ} → Mapped b xip F ram q m j place e → Walkable b xip q → {n : ℕ} {s : Section}
    → n ≡ section_record b q j → j < sections_of b q → IsSection b n s → m < s.first_page.0 / 1024
    → e ≡ entries_of (data_page b xip F ram) (section_at_page b q) m
unfolding entries_of section_record
mapped_stop {b} {xip} {F} {ram} {q} {m} {j} t w f h is l =
    let from : m < first_page_of b (section_record b q j) / 1024 = rw (is.first_page, f) at l in
    t.done ∙ tab_same 1024 _ _ 0 (λ i n. ap (entry_for (data_page b xip F ram)) (none_from w j (1024 * m + i) h (omega arith)))

-- THE WHOLE TABLE
module _ {b : List ℕ} {xip : ℕ → Bool} {ram : PageRange} (F : ℕ) (fits : Fits b xip ram) where
  tracker_phys : (v P : ℕ) → in_tracker (tracker_pages b ram.pages) v ≡ true → P ≡ ram.base + (ram.pages - 1 - tracker_place b xip)
      → nth_page P false (v - 0xFFF40) % 0x40_0000 ≡ data_page b xip F ram (tracker_page (v - 0xFFF40))
  unfolding in_tracker pages_needed uses data_page nth_page
  tracker_phys v P c e =
      let T : ℕ = tracker_pages b ram.pages in
      let from : 0xFFF40 ≤ v = leb-true _ _ (and_left _ _ c) in
      let to : v < 0xFFF40 + T = ltb-true _ _ (and_right (leb 0xFFF40 v) _ c) in
      let a = place_tracker b xip T (v - 0xFFF40) (omega arith) in
      rw (choose_no {A = ℕ} {c = false} (P + (v - 0xFFF40)) (P - (v - 0xFFF40)) refl) (phys_mod fits _ _ _ a (omega (arith, fits.enough, a.inside)))

  pub kernel_is : (place T copy first list : ℕ) (e₁ e₂ e₃ e₄ : List ℕ)
      → place ≡ tracker_place b xip
      → T ≡ tracker_pages b ram.pages
      → first ≡ ram.base + (ram.pages - 1 - place)
      → list ≡ ram.base + (ram.pages - 1 - (place + T))
      → copy ≡ ram.base + (ram.pages - 1 - (place + T + 1))
      → e₁ ≡ entries_of (data_page b xip F ram) (section_at_page b 1) 1023
      → e₂ ≡ pages_mapped e₁ 1023 0xFFF00 0xFFF00 copy false kernel_read
      → e₃ ≡ pages_mapped e₂ 1023 0xFFF40 (0xFFF40 + (T - 1)) first false kernel_write
      → e₄ ≡ pages_mapped e₃ 1023 0xFFF80 0xFFF80 list false kernel_read
      → e₄ ≡ entries_of (data_page b xip F ram) (kernel_page b (tracker_pages b ram.pages)) 1023
  unfolding kernel_page entry_for data_page
  kernel_is place T copy first list e₁ e₂ e₃ e₄ at_place pages at_first at-list at_copy p₁ p₂ p₃ p₄ =
      let K : ℕ = tracker_pages b ram.pages in
      let page : Data → ℕ = data_page b xip F ram in
      let sections : ℕ → Mapping = section_at_page b 1 in
      let copied : ℕ → Mapping = λ v. choose (eqb v 0xFFF00) (maps block_copy kernel_read) (sections v) in
      let tracked : ℕ → Mapping = λ v. choose (in_tracker K v) (maps (tracker_page (v - 0xFFF40)) kernel_write) (copied v) in
      let q₂ : e₂ ≡ entries_of page copied 1023
      = p₂ ∙ page_over page 1023 sections 0xFFF00 copy block_copy kernel_read e₁ p₁ (phys_mod fits _ _ copy (place_block_copy b xip K) (omega arith)) in
      let q₃ : e₃ ≡ entries_of page tracked 1023
      = p₃ ∙ rw pages (pages_over page 1023 copied (λ v. maps (tracker_page (v - 0xFFF40)) kernel_write) 0xFFF40 (0xFFF40 + (K - 1)) first false kernel_write (in_tracker K) e₂ q₂
      (λ v. tracker_test K v (tracker_some fits)) (λ v c. rw (tracker_phys v first c (omega arith)))) in
      p₄ ∙ page_over page 1023 tracked 0xFFF80 list process_list kernel_read e₃ q₃ (phys_mod fits _ _ list (place_process_list b xip K) (omega arith))

pub user_is : (page : Data → ℕ) (b : List ℕ) (q m : ℕ) (e : List ℕ) {e' : List ℕ} → {pages : ℕ} → e ≡ entries_of page (section_at_page b q) m
    → pages ≡ stack_pages b q → e' ≡ stack_reserved e m pages → e' ≡ entries_of page (user_page b q) m
unfolding user_page entry_for
user_is page b q m e p s r =
    r ∙ rw s (stack_reserved_lem b q e m ∙ over page m (section_at_page b q) (λ _. stack) (in_stack b q) (λ _. reserved_entry) e p (λ i _ _. refl))

pub leaf_kernel : (page : Data → ℕ) (b : List ℕ) (T q m : ℕ) {e : List ℕ} → m ≡ 1023 → e ≡ entries_of page (kernel_page b T) 1023 → e ≡ tab 1024 (leaf_entry b T page q m)
unfolding entries_of leaf_entry mapping_at
leaf_kernel page b T q m s p = p ∙ tab_same 1024 _ _ 0 (λ i l. rw s (rw (choose_yes _ _ (eq-eqb ((1024 * 1023 + i) / 1024) 1023 (omega arith)))))

pub leaf_user : (page : Data → ℕ) (b : List ℕ) (T q m : ℕ) {e : List ℕ} → (q ≡ 1 → ⊥) → (m ≡ 1023 → ⊥) → e ≡ entries_of page (user_page b q) m
    → e ≡ tab 1024 (leaf_entry b T page q m)
unfolding entries_of leaf_entry mapping_at
leaf_user page b T q m k n p =
    p ∙ tab_same 1024 _ _ 0 (λ i l.
    rw (choose_no _ _ (ne_eqb ((1024 * m + i) / 1024) 1023 (λ z. n (omega arith))), choose_no _ _ (ne_eqb q 1 k)))
