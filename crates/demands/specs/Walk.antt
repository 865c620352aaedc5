-- The walk of loaded RAM is what the rules give. All that is known of RAM here is its length, its place, and the bytes of each use.
use Rattle.std.proofs.Math.Path.{◌≡◌, refl, sym, ap}
use Rattle.std.proofs.Common.{◌∙◌, inl, inr}
use Rattle.std.specs.Prelude.{List, Bool, false, eqb}
use Rattle.std.proofs.Math.Option.{some}
use Rattle.std.proofs.Math.Bool.{true}
use Prim.Native.Nat.{ℕ, suc, ◌+◌, ◌-◌, ◌*◌, ◌/◌, ◌%◌, ◌≤◌, ◌<◌}
use Rattle.std.proofs.Math.Nat.{div-div-eq-div-mul}
use native.Mathlib.Omega.{arith}
use Rattle.std.proofs.Math.ListN.{length, get_or}
use borrow.Author.Tests.{eqb-true, eqb-false, ne_eqb, le-leb}
use Rattle.notation.specs.Lists.{tab}
use Rattle.notation.specs.Words.{word, byte_of}
use Rattle.types.specs.declared.PageRange.{PageRange}
use Rattle.types.specs.declared.Rights.{Rights}
use Rattle.types.specs.declared.Entry.{Entry}
use Rattle.types.specs.declared.Entry.TheVariants.{Absent, Reserved, Page}
use Rattle.types.specs.declared.View.TheVariants as S
use Rattle.rules.specs.Lent.{Image, Memory, memory_of, memory_area, area_of, page_area, lies_in}
use Rattle.rules.specs.Block.{process_count, section_record, address, size, section_end, first_page_of}
use Rattle.rules.specs.Space.{Data, section_page, tracker_page, process_list, block_copy, Mapping, unmapped, stack, maps, mapping_at}
use Rattle.rules.specs.Order.{Use, holds, root_table, leaf_table, has_leaf, order, uses, tracker_pages, ram_page}
use Rattle.rules.specs.Tables.{root_entry, entry_for, leaf_entry}
use Rattle.rules.specs.Entries.{page_entry, decode}
use Rattle.rules.specs.Contents.{section_page_byte, tracker, data_byte}
use Rattle.rules.specs.Load.{phys_page, flash_page, data_page, satp_word, table_byte, page_byte}
use Rattle.rules.specs.Reader.{table_entry, page_answer, leaf_answer, root_answer, walk, page_in, page_bytes}
use Rattle.rules.specs.Sees.{section_byte, byte_at, view_of, shown}
use Rattle.rules.specs.InPlace.{xip_of}
use Rattle.laws.specs.Choice.{by_choose, choose_lt, choose_yes, choose_no, and_both}
use Rattle.laws.specs.Lists.{Occurs, tab_length, tab_get}
use Rattle.laws.specs.Numbers.{leb_shift}
use Rattle.laws.specs.Words.{word_of_bytes}
use Rattle.accepted.specs.InPlace.{InFlash}
use Rattle.accepted.specs.Fits.{Fits}
use Rattle.order_laws.specs.Uses.{InRam, kernel_leaf, in_ram, order_root, order_leaf, order_process_list}
use Rattle.demands.specs.Mappings.{Readable, readable, Flashed, Copied, Stored, copied_page, flashed_page, AtHome, at_home, home_of, no_leaf, kernel_part}
use Rattle.demands.specs.Entries.{decode_page, decode_pointer, decode_absent, decode_reserved, page_entry_word, pointer_entry_word, pointer_entry_flags, pointer_entry_page}

-- the word at entry i of the table at physical page number P
unfoldable pub table_word : Memory → ℕ → ℕ → ℕ
table_word r P i = word r.bytes (4096 * P - r.start + 4 * i)

-- ENTRIES
-- the walk's answer at what stands there
unfoldable pub answer_for : (Data → ℕ) → Mapping → Entry
answer_for page unmapped = Absent
answer_for page stack = Reserved
answer_for page (maps d t) = Page t (record { 0 = page d })

page_answer_readable : (t : Rights) (P : ℕ) → t.read ≡ true → page_answer t P ≡ Page t (record { 0 = P })
unfolding page_answer
page_answer_readable t P e = by_choose (λ a. a ≡ Page t (record { 0 = P })) t.write _ _ (λ _. choose_yes _ _ e) (λ _. refl)

leaf_answer_lem : (page : Data → ℕ) (s : Mapping) → Readable s → leaf_answer (decode (entry_for page s)) ≡ answer_for page s
unfolding entry_for answer_for leaf_answer
leaf_answer_lem page unmapped r = rw decode_absent
leaf_answer_lem page stack r = rw decode_reserved
leaf_answer_lem page (maps d t) r = rw (decode_page _ t r) (page_answer_readable t _ r)

-- the number of a page that stands there has 20 bits
abbrev Small : (Data → ℕ) → Mapping → Type 0
Small page unmapped = Unit {0}
Small page stack = Unit {0}
Small page (maps d t) = page d < 0x10_0000

entry_for_word : (page : Data → ℕ) (s : Mapping) → Small page s → entry_for page s < 0x1_0000_0000
unfolding entry_for Rattle.rules.specs.Entries.absent_entry Rattle.rules.specs.Entries.reserved_entry
entry_for_word page unmapped h = omega arith
entry_for_word page stack h = omega arith
entry_for_word page (maps d t) h = page_entry_word _ t h

root_entry_word : (b : List ℕ) (phys : Use → ℕ) → ((u : Use) → phys u < 0x10_0000) → (q m : ℕ) → root_entry b phys q m < 0x1_0000_0000
unfolding root_entry Rattle.rules.specs.Entries.absent_entry
root_entry_word b phys h q m =
    choose_lt (eqb m 1023) _ _ _ (pointer_entry_word _ (h (leaf_table 1 1023)))
    (choose_lt (has_leaf b q m) _ _ _ (pointer_entry_word _ (h (leaf_table q m))) (omega arith))

-- BYTES: by page and offset, and by address
section_byte_at : (x : Image) (n i a : ℕ) → first_page_of x.block n + i ≡ a / 4096 → section_page_byte x n i (a % 4096) ≡ section_byte x n a
unfolding section_page_byte section_byte section_end first_page_of
section_byte_at x n i a h =
    let b : List ℕ = x.block in
    let at : ℕ = 4096 * i + a % 4096 in
    let offset : ℕ = address b n % 4096 in
    let s : a + offset ≡ address b n + at = omega arith in
    let d : at - offset ≡ a - address b n = omega arith in
    rw (leb_shift offset at (address b n) a (omega arith), leb_shift (suc at) (offset + size b n) (suc a) (address b n + size b n) (omega arith), d)

pub byte_at_lem : (x : Image) (track : List ℕ) (satp : ℕ → ℕ) (a : ℕ) (d : Data) → home_of x.block d ≡ a / 4096
    → data_byte x track satp d (a % 4096) ≡ byte_at x track satp a d
unfolding data_byte byte_at home_of
byte_at_lem x track satp a (section_page q j i) h = section_byte_at x (section_record x.block q j) i a h
byte_at_lem x track satp a (tracker_page i) h = let e : 4096 * i + a % 4096 ≡ a - 0xFFF4_0000 = omega arith in rw e
byte_at_lem x track satp a process_list h = let e : a % 4096 ≡ a - 0xFFF8_0000 = omega arith in rw e
byte_at_lem x track satp a block_copy h = let e : a % 4096 ≡ a - 0xFFF0_0000 = omega arith in rw e

-- WHAT IS SHOWN at a page that has the bytes f 0, f 1, ..
pub shown_page : (ram flash : Memory) (a P : ℕ) (t : Rights) (f : ℕ → ℕ) → page_bytes ram flash P ≡ tab 4096 f
    → shown ram flash a (Page t (record { 0 = P })) ≡ S.Page t (f (a % 4096))
unfolding shown
shown_page ram flash a P t f e =
    rw (e, tab_length 4096 f) (choose_no _ _ (ne_eqb 4096 0 (λ z. omega arith)) ∙ ap (S.Page t) (tab_get 4096 f (a % 4096) 0 (omega arith)))

-- a page of flash that is none of RAM has flash's own bytes
pub flash_bytes : (ram flash : Memory) (P : ℕ) → lies_in (page_area P) (memory_area ram) ≡ false → lies_in (page_area P) (memory_area flash) ≡ true
    → page_bytes ram flash P ≡ tab 4096 (λ k. get_or flash.bytes (4096 * P - flash.start + k) 0)
unfolding page_bytes page_in
flash_bytes ram flash P not_ram inside = choose_no _ _ not_ram ∙ choose_yes _ _ inside

-- RAM with these pages, in which the page of each use has the use's bytes, and flash with the pages of sections that are used in place
module _ (x : Image) (ram : PageRange) (fits : Fits x.block (xip_of x) ram) (before bytes : List ℕ) (len : length bytes ≡ 4096 * ram.pages)
    (held : (u : Use) → InRam x.block (xip_of x) ram.pages u → (k : ℕ) → k < 4096
    → get_or bytes (4096 * ram_page x.block (xip_of x) ram.pages u + k) 0 ≡ page_byte x (xip_of x) ram (some u) (get_or before (4096 * ram_page x.block (xip_of x) ram.pages u + k) 0) k)
    (flashed : (q j i : ℕ) → Flashed x.block (xip_of x) (section_page q j i) → InFlash x (area_of (4096 * ram.base) (length bytes)) (section_record x.block q j) i) where
  abbrev b : List ℕ
  b = x.block

  abbrev xip : ℕ → Bool
  xip = xip_of x

  abbrev N : ℕ
  N = ram.pages

  -- the physical page of a page of data
  abbrev page : Data → ℕ
  page = data_page b xip (x.flash.start / 4096) ram

  abbrev r : Memory
  r = memory_of (4096 * ram.base) bytes

  use_in_ram : (u : Use) → Occurs (order b xip (tracker_pages b N)) u → InRam b xip N u
  unfolding uses
  use_in_ram u o = in_ram b xip N u fits.enough o

  some_page : 1 ≤ N
  some_page = omega (arith, (use_in_ram (holds process_list) (order_process_list b xip (tracker_pages b N))).inside)

  phys_small : (u : Use) → phys_page b xip ram u < 0x10_0000
  unfolding phys_page ram_page
  phys_small u = omega (arith, some_page, fits.end)

  stored_small : (d : Data) → Stored b xip (tracker_pages b N) d → page d < 0x10_0000
  stored_small d (inr c) = rw (copied_page b xip _ ram d c.0) (phys_small (holds d))
  stored_small (section_page q j i) (inl f) = rw (flashed_page b xip _ ram q j i f.3) (flashed q j i f).number
  stored_small (tracker_page i) (inl f) = absurd f
  stored_small process_list (inl f) = absurd f
  stored_small block_copy (inl f) = absurd f

  small : (v : ℕ) (s : Mapping) → AtHome b xip (tracker_pages b N) v s → Small page s
  small v unmapped h = tt
  small v stack h = tt
  small v (maps d t) h = stored_small d h.0

  -- entry i of the table of a use, whose entries are f 0, f 1, ..
  table_word_is : (u : Use) (f : ℕ → ℕ) → InRam b xip N u
      → ((k : ℕ) → k < 4096 → get_or bytes (4096 * ram_page b xip N u + k) 0 ≡ table_byte f k)
      → (i : ℕ) → i < 1024 → f i < 0x1_0000_0000
      → table_word r (phys_page b xip ram u) i ≡ f i
  unfolding table_word phys_page table_byte
  table_word_is u f p is i h l =
      let m : ℕ = ram_page b xip N u in
      let e : 4096 * (ram.base + m) - 4096 * ram.base + 4 * i ≡ 4096 * m + 4 * i = omega arith in
      let four : (c : ℕ) → c < 4 → get_or bytes (4096 * m + 4 * i + c) 0 ≡ byte_of (f i) c = λ c z.
      let p : 4096 * m + 4 * i + c ≡ 4096 * m + (4 * i + c) = omega arith in
      let d : (4 * i + c) / 4 ≡ i = omega arith in
      let s : (4 * i + c) % 4 ≡ c = omega arith in
      rw p (is (4 * i + c) (omega arith) ∙ rw (d, s)) in
      rw e (word_of_bytes bytes (4096 * m + 4 * i) (f i) l four)

  root_word : (q m : ℕ) → 1 ≤ q → q ≤ process_count b → m < 1024
      → table_word r (phys_page b xip ram (root_table q)) m ≡ root_entry b (phys_page b xip ram) q m
  unfolding page_byte
  root_word q m lo hi h =
      let p : InRam b xip N (root_table q) = use_in_ram _ (order_root b xip _ q lo hi) in
      table_word_is (root_table q) (root_entry b (phys_page b xip ram) q) p (held _ p) m h (root_entry_word b (phys_page b xip ram) phys_small q m)

  leaf_word_is : (q m i : ℕ) → 1 ≤ q → q ≤ process_count b → m < 1024 → has_leaf b q m ≡ true → i < 1024
      → table_word r (phys_page b xip ram (leaf_table q m)) i ≡ entry_for page (mapping_at b (tracker_pages b N) q (1024 * m + i))
  unfolding page_byte leaf_entry
  leaf_word_is q m i lo hi h e l =
      let p : InRam b xip N (leaf_table q m) = use_in_ram _ (order_leaf b xip _ q m lo hi h e) in
      table_word_is (leaf_table q m) (leaf_entry b (tracker_pages b N) page q m) p (held _ p) i l (entry_for_word page (mapping_at b (tracker_pages b N) q (1024 * m + i)) (small (1024 * m + i) (mapping_at b (tracker_pages b N) q (1024 * m + i)) (at_home b xip (tracker_pages b N) q (1024 * m + i) lo hi)))

  -- a table of a use lies in RAM, so its words are read
  table_read : (u : Use) (i : ℕ) → InRam b xip N u → table_entry r (phys_page b xip ram u) i ≡ decode (table_word r (phys_page b xip ram u) i)
  unfolding table_entry table_word lies_in phys_page
  table_read u i p =
      let m : ℕ = ram_page b xip N u in
      choose_yes _ _ (and_both (le-leb (4096 * ram.base) (4096 * (ram.base + m)) (omega arith)) (le-leb (4096 * (ram.base + m) + 4096) (4096 * ram.base + length bytes) (omega (arith, p.inside, len))))

  root_read : (q m : ℕ) → 1 ≤ q → q ≤ process_count b → m < 1024
      → table_entry r (phys_page b xip ram (root_table q)) m ≡ decode (root_entry b (phys_page b xip ram) q m)
  root_read q m lo hi h = table_read (root_table q) m (use_in_ram _ (order_root b xip _ q lo hi)) ∙ ap decode (root_word q m lo hi h)

  leaf_read : (q m i : ℕ) → 1 ≤ q → q ≤ process_count b → m < 1024 → has_leaf b q m ≡ true → i < 1024
      → leaf_answer (table_entry r (phys_page b xip ram (leaf_table q m)) i)
      ≡ answer_for page (mapping_at b (tracker_pages b N) q (1024 * m + i))
  leaf_read q m i lo hi h e l =
      ap leaf_answer (table_read (leaf_table q m) i (use_in_ram _ (order_leaf b xip _ q m lo hi h e)) ∙ ap decode (leaf_word_is q m i lo hi h e l))
      ∙ leaf_answer_lem page (mapping_at b (tracker_pages b N) q (1024 * m + i)) (readable b (tracker_pages b N) q (1024 * m + i))

  -- the walk on from an entry of process q's root
  from_root : (q v : ℕ) → 1 ≤ q → q ≤ process_count b → v < 0x10_0000
      → root_answer r (v % 1024) (decode (root_entry b (phys_page b xip ram) q (v / 1024)))
      ≡ answer_for page (mapping_at b (tracker_pages b N) q v)
  unfolding root_entry answer_for root_answer
  from_root q v lo hi h =
      let T : ℕ = tracker_pages b N in
      let P : ℕ → Type 0 = λ n. root_answer r (v % 1024) (decode n) ≡ answer_for page (mapping_at b T q v) in
      by_choose P (eqb (v / 1024) 1023) _ _
      (λ e.
      let f : v / 1024 ≡ 1023 = eqb-true (v / 1024) 1023 e in
      let g : 1024 * 1023 + v % 1024 ≡ v = omega arith in
      rw decode_pointer (leaf_read 1 1023 (v % 1024) (omega arith) (omega arith) (omega arith) (kernel_leaf b) (omega arith)
      ∙ rw g (ap (answer_for page) (kernel_part b T q v f))))
      (λ e. by_choose P (has_leaf b q (v / 1024)) _ _
      (λ f.
      let d : 1024 * (v / 1024) + v % 1024 ≡ v = omega arith in
      rw decode_pointer (leaf_read q (v / 1024) (v % 1024) lo hi (omega arith) f (omega arith) ∙ rw d))
      (λ f. rw (decode_absent, no_leaf b T q v (eqb-false (v / 1024) 1023 e) f)))

  -- the walk of process q's tables at an address answers what stands at its virtual page
  pub walk_answers : (q a : ℕ) → 1 ≤ q → q ≤ process_count b → a < 0x1_0000_0000
      → walk r (phys_page b xip ram (root_table q)) a ≡ answer_for page (mapping_at b (tracker_pages b N) q (a / 4096))
  unfolding walk
  walk_answers q a lo hi h =
      rw (root_read q (a / 4194304) lo hi (omega arith), ← (div-div-eq-div-mul a 4096 1024)) (from_root q (a / 4096) lo hi (omega arith))

  -- where process q has a page: the pointer in its root, and the entry in the leaf table there
  pub page_words : (q v : ℕ) → 1 ≤ q → q ≤ process_count b → v < 0x10_0000 → (d : Data) (t : Rights)
      → mapping_at b (tracker_pages b N) q v ≡ maps d t
      → (table_word r (phys_page b xip ram (root_table q)) (v / 1024) % 1024 ≡ 1)
      × (table_word r (table_word r (phys_page b xip ram (root_table q)) (v / 1024) / 1024) (v % 1024) ≡ page_entry (page d) t)
  unfolding root_entry entry_for
  page_words q v lo hi h d t e =
      let T : ℕ = tracker_pages b N in
      let P : ℕ → Type 0 = λ n. (n % 1024 ≡ 1) × (table_word r (n / 1024) (v % 1024) ≡ page_entry (page d) t) in
      rw (root_word q (v / 1024) lo hi (omega arith))
      (by_choose P (eqb (v / 1024) 1023) _ _
      (λ k.
      let f : v / 1024 ≡ 1023 = eqb-true (v / 1024) 1023 k in
      let g : 1024 * 1023 + v % 1024 ≡ v = omega arith in (
        pointer_entry_flags _,
        rw pointer_entry_page (leaf_word_is 1 1023 (v % 1024) (omega arith) (omega arith) (omega arith) (kernel_leaf b) (omega arith)
            ∙ rw g (ap (entry_for page) (kernel_part b T q v f ∙ e))),
      ))
      (λ k. by_choose P (has_leaf b q (v / 1024)) _ _
      (λ f.
      let g : 1024 * (v / 1024) + v % 1024 ≡ v = omega arith in
      (pointer_entry_flags _, rw pointer_entry_page (leaf_word_is q (v / 1024) (v % 1024) lo hi (omega arith) f (omega arith) ∙ rw g (ap (entry_for page) e))))
      (λ f.
      let n : unmapped ≡ maps d t = sym (no_leaf b T q v (eqb-false (v / 1024) 1023 k) f) ∙ e in
      let z : ◌≡◌ {A = ℕ} 0 1 = cc in
      absurd (omega arith))))

  -- the bytes of a page of data: of a RAM page, and of one of flash
  copied_bytes : (d : Data) → Copied b xip d → InRam b xip N (holds d)
      → page_bytes r x.flash (page d) ≡ tab 4096 (λ k. get_or bytes (4096 * phys_page b xip ram (holds d) - 4096 * ram.base + k) 0)
  unfolding page_bytes page_in lies_in phys_page
  copied_bytes d c p =
      let m : ℕ = ram_page b xip N (holds d) in
      let in_ram : lies_in (page_area (ram.base + m)) (memory_area r) ≡ true
      = and_both (le-leb (4096 * ram.base) (4096 * (ram.base + m)) (omega arith)) (le-leb (4096 * (ram.base + m) + 4096) (4096 * ram.base + length bytes) (omega (arith, p.inside, len))) in
      rw (copied_page b xip (x.flash.start / 4096) ram d c) (choose_yes _ _ in_ram ∙ choose_yes _ _ in_ram)

  flashed_bytes : (q j i : ℕ) → Flashed b xip (section_page q j i)
      → page_bytes r x.flash (page (section_page q j i))
      ≡ tab 4096 (λ k. get_or x.flash.bytes (4096 * flash_page b (x.flash.start / 4096) (section_record b q j) i - x.flash.start + k) 0)
  flashed_bytes q j i f =
      rw (flashed_page b xip (x.flash.start / 4096) ram q j i f.3) (flash_bytes r x.flash _ (flashed q j i f).not_ram (flashed q j i f).inside)

  -- what is shown at the answered page
  shown_data : (a : ℕ) (d : Data) (t : Rights) → Stored b xip (tracker_pages b N) d → home_of b d ≡ a / 4096
      → shown r x.flash a (Page t (record { 0 = page d })) ≡ S.Page t (byte_at x (tracker b xip N) (satp_word b xip ram) a d)
  unfolding phys_page page_byte data_byte
  shown_data a d t (inr c) h =
      let p : InRam b xip N (holds d) = use_in_ram _ c.1 in
      let m : ℕ = ram_page b xip N (holds d) in
      let e : 4096 * (ram.base + m) - 4096 * ram.base + a % 4096 ≡ 4096 * m + a % 4096 = omega arith in
      shown_page r x.flash a (page d) t _ (copied_bytes d c.0 p)
      ∙ ap (S.Page t) (rw e (held (holds d) p (a % 4096) (omega arith) ∙ byte_at_lem x (tracker b xip N) (satp_word b xip ram) a d h))
  shown_data a (section_page q j i) t (inl f) h =
      shown_page r x.flash a _ t _ (flashed_bytes q j i f)
      ∙ ap (S.Page t) ((flashed q j i f).bytes (a % 4096) (omega arith) ∙ byte_at_lem x (tracker b xip N) (satp_word b xip ram) a (section_page q j i) h)
  shown_data a (tracker_page i) t (inl f) h = absurd f
  shown_data a process_list t (inl f) h = absurd f
  shown_data a block_copy t (inl f) h = absurd f

  shown_answer : (a : ℕ) (s : Mapping) → AtHome b xip (tracker_pages b N) (a / 4096) s
      → shown r x.flash a (answer_for page s) ≡ view_of (byte_at x (tracker b xip N) (satp_word b xip ram) a) s
  unfolding shown answer_for view_of
  shown_answer a unmapped g = refl
  shown_answer a stack g = refl
  shown_answer a (maps d t) g = shown_data a d t g.0 g.1

  pub sees_rules : (q a : ℕ) → 1 ≤ q → q ≤ process_count b → a < 0x1_0000_0000
      → shown r x.flash a (walk r (phys_page b xip ram (root_table q)) a)
      ≡ view_of (byte_at x (tracker b xip N) (satp_word b xip ram) a) (mapping_at b (tracker_pages b N) q (a / 4096))
  sees_rules q a lo hi h =
      rw (walk_answers q a lo hi h) (shown_answer a (mapping_at b (tracker_pages b N) q (a / 4096)) (at_home b xip (tracker_pages b N) q (a / 4096) lo hi))
