-- DEMAND 2: "After success, walking each process's tables by the Sv32 rules shows exactly the sections 01 gives it, zero around them,
-- those rights, and nothing else but the kernel's own mapping and the stack reserve. A RAM page reached from a user section has one
-- owner and one virtual page. Owners' pages, counted by 01's order, and free pages add up to RAM."
use Rattle.std.specs.Prelude.{◌≡◌, refl, ◌≢◌, ◌⊎◌, List, Bool, ◌&&◌, get_or, take, eqb}
use Rattle.std.proofs.Math.Path.{sym, ap}
use Rattle.std.proofs.Common.{◌∙◌, inl, inr, ne_eqb, le-leb}
use Rattle.std.proofs.Math.Bool.{true, false}
use Prim.Native.Nat.{ℕ, ◌+◌, ◌-◌, ◌*◌, ◌/◌, ◌%◌, ◌≤◌, ◌<◌}
use native.Mathlib.Omega.{arith}
use Rattle.std.proofs.Math.ListN.{length}
use Rattle.std.proofs.Math.Dec.{leb}
use Rattle.notation.specs.Choice.{choose}
use Rattle.notation.specs.Lists.{count, sum}
use Rattle.types.specs.declared.PageRange.{PageRange}
use Rattle.types.specs.declared.PhysPage.{PhysPage}
use Rattle.types.specs.declared.Rights.{Rights}
use Rattle.types.specs.declared.Entry.TheVariants.{Page}
use Rattle.types.specs.declared.View.{View}
use Rattle.types.specs.declared.View.TheVariants as S
use Rattle.rules.specs.Answers.{Answer}
use Rattle.rules.specs.Lent.{Image, Memory, memory_area, page_area, pages_in, lies_in}
use Rattle.rules.specs.Block.{process_count, sections_of, section_record, owner_of, address, size, flash_offset_of, is_no_copy, first_page_of, last_page_of, page_count}
use Rattle.rules.specs.Space.{Data, section_page, tracker_page, process_list, block_copy, Mapping, unmapped, stack, maps, section_rights, kernel_write, has_page, section_mapping, mapping_at}
use Rattle.rules.specs.Order.{Use, holds, order, uses, tracker_pages, pages_needed, free_pages, pages_of, ram_page, use_owner, data_owner, owner}
use Rattle.rules.specs.Contents.{tracker}
use Rattle.rules.specs.Load.{phys_page, flash_page, data_page, page_byte, loaded, boots, ram_after, after, boot_answer, answer_on, answer}
use Rattle.rules.specs.Reader.{walk}
use Rattle.rules.specs.Sees.{sees, sees_on, section_view, seen_from, root_of, process_sees}
use Rattle.rules.specs.InPlace.{flash_from, xip_of}
use Rattle.laws.specs.Choice.{false_not_true, by_choose, and_both, choose_yes}
use Rattle.laws.specs.Lists.{Occurs}
use Rattle.order_laws.specs.Uses.{InRam, in_ram, one_use, use_free, use_top}
use Rattle.order_laws.specs.Places.{tracker_place, place_tracker, ram_page_at}
use Rattle.accepted.specs.NoCause.{NoCause, booted}
use Rattle.accepted.specs.Fits.{Whole, Fits, whole, fits}
use Rattle.accepted.specs.Sections.{owner_is, section_in_space, section_in_flash}
use Rattle.accepted.specs.InPlace.{InPlace, in_place_lem, flash_start, InFlash, in_flash}
use Rattle.accepted.specs.Tracker.{tracker_pages_lem, tracker_byte_lem}
use Rattle.accepted.specs.Counting.{owners_sum, tracker_count_owner, tracker_count_free}
use Rattle.demands.specs.Mappings.{Flashed, Copied, Stored, copied_page, flashed_page, AtHome, at_home, home_of, SectionRights, Own, own}
use Rattle.demands.specs.Walk.{answer_for, walk_answers, shown_page, flash_bytes, sees_rules}
use Rattle.demands.specs.Loaded.{loaded_length, loaded_byte, loaded_use, after_boot, after_length, flashed}
use Rattle.demands.specs.Exactly.{Exactly, exactly, StackReservation, stack_reserved_lem, section_page_is, tracker_two, tracker_page_lem}

-- WHAT THE DEMAND SAYS of RAM `r` before a call, its bytes after the call, and the call's answer
-- the RAM page at physical page P, which process q reaches at address a in RAM `end`
pub record OneOwner (x : Image) (r end : Memory) (q a : ℕ) (P : PhysPage) : Type 0 where
  -- it is RAM page k, and the tracker names process q there
  pub k : ℕ
  pub inside : k < (pages_in (memory_area r)).pages
  pub number : P.0 ≡ (pages_in (memory_area r)).base + k
  pub tracked : get_or (tracker x.block (xip_of x) (pages_in (memory_area r)).pages) k 0 ≡ q
  -- whoever reaches it, with whatever rights, is process q at the same virtual page
  pub only : (q' a' : ℕ) → 1 ≤ q' → q' ≤ process_count x.block → a' < 0x1_0000_0000 → (t' : Rights)
      → walk end (root_of x r q') a' ≡ Page t' P → (q' ≡ q) × (a' / 4096 ≡ a / 4096)

-- so of each RAM page that a process reaches with the user right
abbrev pub OneOwnerEach : Image → Memory → Memory → Type 0
OneOwnerEach x r end =
    (q a : ℕ) → 1 ≤ q → q ≤ process_count x.block → a < 0x1_0000_0000 → (t : Rights) (P : PhysPage)
    → walk end (root_of x r q) a ≡ Page t P → t.user ≡ true → lies_in (page_area P.0) (memory_area end) ≡ true → OneOwner x r end q a P

-- a page with these rights lies in RAM; or in flash, and then no process can write it, and a user can read it
abbrev pub InRamOrFlash : Image → Memory → Rights → PhysPage → Type 0
InRamOrFlash x end t P =
    (lies_in (page_area P.0) (memory_area end) ≡ true)
    ⊎ ((lies_in (page_area P.0) (memory_area x.flash) ≡ true) × (t.write ≡ false) × (t.user ≡ true))

-- where address a is on page i of a section of process q that is used in place, v has the byte at that place of the section's i-th flash page
abbrev pub FlashByte : Image → ℕ → ℕ → View → Type 0
FlashByte x q a v =
    (j i : ℕ) → let n = section_record x.block q j in j < sections_of x.block q → xip_of x n ≡ true → i < page_count x.block n
    → a / 4096 ≡ first_page_of x.block n + i
    → v ≡ S.Page (section_rights x.block q n) (get_or x.flash.bytes (flash_from x.block n + 4096 * i + a % 4096) 0)

-- owners' pages, counted by the order of pages, and free pages add up to RAM's N pages; they are the answer's counts, the four pages at
-- the top among those taken; and the tracker's bytes for RAM's pages count the same, owner by owner
pub record AddUp (x : Image) (N : ℕ) (full : Answer) : Type 0 where
  pub total : sum (process_count x.block) (λ i. pages_of x.block (xip_of x) N (i + 1)) + free_pages x.block (xip_of x) N ≡ N
  pub taken : full.taken ≡ sum (process_count x.block) (λ i. pages_of x.block (xip_of x) N (i + 1))
  pub free : full.free ≡ free_pages x.block (xip_of x) N
  pub tracked : (q : ℕ) → 1 ≤ q → count (λ y. eqb y q) (take N (tracker x.block (xip_of x) N)) ≡ pages_of x.block (xip_of x) N q
  pub tracked_free : count (λ y. eqb y 0) (take N (tracker x.block (xip_of x) N)) ≡ free_pages x.block (xip_of x) N

-- a page answered at virtual page v of process q; F is flash's first page
record Reached (b : List ℕ) (xip : ℕ → Bool) (F : ℕ) (ram : PageRange) (q v : ℕ) (t : Rights) (P : PhysPage) : Type 0 where
  page : Data
  stored : Stored b xip (tracker_pages b ram.pages) page
  number : P.0 ≡ data_page b xip F ram page
  home : home_of b page ≡ v
  -- with the user right it is the process's own, which is not the kernel; without it the kernel's
  owner_is : data_owner page ≡ choose t.user q 1
  user : t.user ≡ true → q ≢ 1
  rights : SectionRights b page t

by_answer : (b : List ℕ) (xip : ℕ → Bool) (F : ℕ) (ram : PageRange) (q v : ℕ) (t : Rights) (P : PhysPage) (s : Mapping)
    → AtHome b xip (tracker_pages b ram.pages) v s → Own b q s → answer_for (data_page b xip F ram) s ≡ Page t P → Reached b xip F ram q v t P
unfolding answer_for
by_answer b xip F ram q v t P unmapped g o e = let z : ◌≡◌ {A = ℕ} 0 1 = cc in absurd (omega arith)
by_answer b xip F ram q v t P stack g o e = let z : ◌≡◌ {A = ℕ} 0 1 = cc in absurd (omega arith)
by_answer b xip F ram q v t P (maps d s) g o e =
    let p : record { 0 = data_page b xip F ram d } ≡ P = cc in
    let r : s ≡ t = cc in
    let u : s.user ≡ t.user = ap (λ (t : Rights). t.user) r in
    record {
      page = d;
      stored = g.0;
      number = sym (ap (λ (p : PhysPage). p.0) p);
      home = g.1;
      owner_is = o.0 ∙ ap (λ (c : Bool). choose c q 1) u;
      user = λ e. o.1 (u ∙ e);
      rights = rw (← r) o.2;
    }

module _ (x : Image) (r : Memory) (boot : boots x r ≡ true) where
  abbrev b : List ℕ
  b = x.block

  abbrev xip : ℕ → Bool
  xip = xip_of x

  abbrev ram : PageRange
  ram = pages_in (memory_area r)

  -- the physical page of a page of data
  abbrev page : Data → ℕ
  page = data_page b xip (x.flash.start / 4096) ram

  abbrev ReachedPage : ℕ → ℕ → Rights → PhysPage → Type 0
  ReachedPage = Reached b xip (x.flash.start / 4096) ram

  ok : NoCause x (memory_area r)
  ok = booted x r boot

  whole_ram : Whole (memory_area r)
  whole_ram = whole x (memory_area r) ok

  fits_ram : Fits b xip ram
  fits_ram = fits x (memory_area r) ok

  -- the walk of RAM after the boot, by way of process q's root
  walked : (q a : ℕ) → 1 ≤ q → q ≤ process_count b → a < 0x1_0000_0000
      → walk (after x r) (root_of x r q) a ≡ answer_for page (mapping_at b (tracker_pages b ram.pages) q (a / 4096))
  unfolding root_of
  walked q a lo hi h =
      rw (after_boot x r boot)
      (rw whole_ram.start_whole at (walk_answers x ram fits_ram r.bytes (loaded x r)
      (loaded_length x r ∙ sym whole_ram.length_whole) (loaded_use x r whole_ram) (flashed x r boot) q a lo hi h))

  -- a page that process q reaches at an address: the page of data behind it
  reached : (q a : ℕ) → 1 ≤ q → q ≤ process_count b → a < 0x1_0000_0000 → (t : Rights) (P : PhysPage)
      → walk (after x r) (root_of x r q) a ≡ Page t P → ReachedPage q (a / 4096) t P
  reached q a lo hi h t P e =
      let T : ℕ = tracker_pages b ram.pages in
      by_answer b xip _ ram q (a / 4096) t P (mapping_at b T q (a / 4096)) (at_home b xip T q (a / 4096) lo hi) (own b T q (a / 4096)) (sym (walked q a lo hi h) ∙ e)

  -- RAM lies where it lay
  same_area : memory_area (after x r) ≡ memory_area r
  same_area = rw (after_length x r)

  -- a page of data that is copied lies in RAM
  copied_in_ram : (d : Data) → Copied b xip d → InRam b xip ram.pages (holds d) → lies_in (page_area (page d)) (memory_area r) ≡ true
  unfolding lies_in phys_page
  copied_in_ram d c p =
      let k : ℕ = ram_page b xip ram.pages (holds d) in
      rw (copied_page b xip (x.flash.start / 4096) ram d c)
      (and_both (le-leb r.start (4096 * (ram.base + k)) (omega (arith, whole_ram.start_whole)))
      (le-leb (4096 * (ram.base + k) + 4096) (r.start + length r.bytes) (omega (arith, p.inside, whole_ram.start_whole, whole_ram.length_whole))))

  place : (u : Use) → Occurs (order b xip (tracker_pages b ram.pages)) u → InRam b xip ram.pages u
  unfolding uses
  place u o = in_ram b xip ram.pages u fits_ram.enough o

  -- a page of a section that is used in place lies in flash; it is a user's, and cannot be written
  flashed_in_flash : (q j i : ℕ) → Flashed b xip (section_page q j i)
      → (lies_in (page_area (page (section_page q j i))) (memory_area x.flash) ≡ true) × ((section_rights b q (section_record b q j)).write ≡ false) × ((section_rights b q (section_record b q j)).user ≡ true)
  unfolding section_rights
  flashed_in_flash q j i f =
      let n : ℕ = section_record b q j in
      let p : InPlace b x.flash.bytes (owner_of b n) n = in_place_lem b x.flash.bytes n f.3 in
      let o : owner_of b n ≡ q = owner_is x (memory_area r) ok q j f.0 f.1 f.2 in (
        rw (flashed_page b xip (x.flash.start / 4096) ram q j i f.3) (in_flash x (memory_area r) ok q j i f.0 f.1 f.2 f.3 f.4).inside,
        p.read_only,
        rw (ne_eqb q 1 (λ e. omega (arith, p.user))),
      )

  where_reached : (d : Data) (t : Rights) (P : PhysPage) → P.0 ≡ page d → Stored b xip (tracker_pages b ram.pages) d → SectionRights b d t → InRamOrFlash x (after x r) t P
  where_reached d t P e (inr c) s = inl (rw (same_area, e) (copied_in_ram d c.0 (place _ c.1)))
  where_reached (section_page q j i) t P e (inl f) s = inr (rw (e, s) (flashed_in_flash q j i f))
  where_reached (tracker_page i) t P e (inl f) s = absurd f
  where_reached process_list t P e (inl f) s = absurd f
  where_reached block_copy t P e (inl f) s = absurd f

  -- EVERY PROCESS SEES WHAT THE RULES GIVE IT: absent, reserved, or a page with those rights and that byte of RAM or flash; and the
  -- answered page lies in RAM, or in flash, read-only
  pub sees_what_the_rules_give : (q a : ℕ) → 1 ≤ q → q ≤ process_count b → a < 0x1_0000_0000
      → (process_sees x r q a ≡ sees_on x ram q a)
      × ((t : Rights) (P : PhysPage) → walk (after x r) (root_of x r q) a ≡ Page t P → InRamOrFlash x (after x r) t P)
  unfolding process_sees seen_from sees_on sees root_of
  sees_what_the_rules_give q a lo hi h = (
    rw (after_boot x r boot, tracker_pages_lem b xip ram.pages)
        (rw whole_ram.start_whole at (sees_rules x ram fits_ram r.bytes (loaded x r)
        (loaded_length x r ∙ sym whole_ram.length_whole) (loaded_use x r whole_ram) (flashed x r boot) q a lo hi h)),
    λ t P e. let p : ReachedPage q (a / 4096) t P = reached q a lo hi h t P e in where_reached p.page t P p.number p.stored p.rights,
  )

  -- EXACTLY ITS SECTIONS, zero around them, those rights, and nothing else but the kernel's own mapping and the stack reservation
  pub sees_exactly : (q a : ℕ) → 1 ≤ q → q ≤ process_count b → a < 0x1_0000_0000 → Exactly x ram q a (process_sees x r q a)
  sees_exactly q a lo hi h = rw (sees_what_the_rules_give q a lo hi h).0 (exactly x (memory_area r) ok q a lo hi)

  -- byte k of section j of process q is seen at the section's address + k; without NOCOPY it lies in flash
  pub section_seen : (q j k : ℕ) → 1 ≤ q → q ≤ process_count b → j < sections_of b q → k < size b (section_record b q j)
      → (address b (section_record b q j) + k < 0x1_0000_0000)
      × (process_sees x r q (address b (section_record b q j) + k) ≡ section_view x q (section_record b q j) k)
      × (is_no_copy b (section_record b q j) ≡ false → flash_offset_of b (section_record b q j) + k < length x.flash.bytes)
  section_seen q j k lo hi hj hk =
      let small : address b (section_record b q j) + k < 0x1_0000_0000 = section_in_space x (memory_area r) ok q j lo hi hj k hk in
      (small, (sees_exactly q _ lo hi small).section q j k (inl refl) hj hk refl, section_in_flash x (memory_area r) ok q j lo hi hj k hk)

  -- 02, A6: the entries of a section that is used in place name the flash pages that hold its bytes: its page i the i-th of them
  pub section_in_place : (q j i a : ℕ) → 1 ≤ q → q ≤ process_count b → j < sections_of b q → xip (section_record b q j) ≡ true
      → i < page_count b (section_record b q j) → a / 4096 ≡ first_page_of b (section_record b q j) + i → a < 0x1_0000_0000
      → walk (after x r) (root_of x r q) a
      ≡ Page (section_rights b q (section_record b q j)) (record { 0 = flash_page b (x.flash.start / 4096) (section_record b q j) i })
  unfolding section_mapping answer_for has_page page_count
  section_in_place q j i a lo hi hj e hi' v h =
      let n : ℕ = section_record b q j in
      let here : (leb (first_page_of b n) (a / 4096) && leb (a / 4096) (last_page_of b n)) ≡ true
      = and_both (le-leb (first_page_of b n) (a / 4096) (omega arith)) (le-leb (a / 4096) (last_page_of b n) (omega arith)) in
      let d : a / 4096 - first_page_of b n ≡ i = omega arith in
      walked q a lo hi h
      ∙ rw (section_page_is x (memory_area r) ok (tracker_pages b ram.pages) q q j (a / 4096) lo hi (inl refl) hj here, d, flashed_page b xip (x.flash.start / 4096) ram q j i e)

  -- and the byte that its process sees there is flash's own
  pub flash_byte_seen : (q a : ℕ) → 1 ≤ q → q ≤ process_count b → a < 0x1_0000_0000 → FlashByte x q a (process_sees x r q a)
  unfolding process_sees seen_from flash_page flash_from
  flash_byte_seen q a lo hi h j i hj e hi' v =
      let n : ℕ = section_record b q j in
      let P : ℕ = flash_page b (x.flash.start / 4096) n i in
      let f : InFlash x (memory_area r) n i = in_flash x (memory_area r) ok q j i lo hi hj e hi' in
      let at : 4096 * P - x.flash.start + a % 4096 ≡ flash_from b n + 4096 * i + a % 4096 = omega (arith, flash_start x (memory_area r) ok) in
      rw (section_in_place q j i a lo hi hj e hi' v h)
      (shown_page (after x r) x.flash a P (section_rights b q n) _ (flash_bytes (after x r) x.flash P (rw same_area f.not_ram) f.inside) ∙ rw at)

  -- 02, A7: what it sees reserved is just its stack, of as many pages as its kind word says
  pub stack_seen : (q a : ℕ) → 1 ≤ q → q ≤ process_count b → a < 0x1_0000_0000 → StackReservation x q a (process_sees x r q a)
  stack_seen q a lo hi h = rw (sees_what_the_rules_give q a lo hi h).0 (stack_reserved_lem x ram q a)

  -- the tracker's lower part is in the higher RAM page: page i is i RAM pages below the first, in every process
  pub tracker_pages_descend : (q i : ℕ) → 1 ≤ q → q ≤ process_count b → i < tracker_pages b ram.pages
      → walk (after x r) (root_of x r q) (0xFFF4_0000 + 4096 * i)
      ≡ Page kernel_write (record { 0 = ram.base + (ram_page b xip ram.pages (holds (tracker_page 0)) - i) })
  unfolding answer_for data_page phys_page
  tracker_pages_descend q i lo hi h =
      let N : ℕ = ram.pages in
      let T : ℕ = tracker_pages b N in
      let two : T ≤ 2 = tracker_two x (memory_area r) ok in
      let v : (0xFFF4_0000 + 4096 * i) / 4096 ≡ 0xFFF40 + i = omega arith in
      let at_i : ram_page b xip N (holds (tracker_page i)) ≡ N - 1 - (tracker_place b xip + i) = ram_page_at b xip N _ _ (place_tracker b xip T i h) in
      let at-0 : ram_page b xip N (holds (tracker_page 0)) ≡ N - 1 - (tracker_place b xip + 0) = ram_page_at b xip N _ _ (place_tracker b xip T 0 (omega arith)) in
      let e : ram_page b xip N (holds (tracker_page i)) ≡ ram_page b xip N (holds (tracker_page 0)) - i = omega arith in
      walked q (0xFFF4_0000 + 4096 * i) lo hi (omega arith) ∙ rw (v, tracker_page_lem b T q i h two, e)

  -- the tracker names the owner of a page of data
  owned : {d : Data} → InRam b xip ram.pages (holds d) → get_or (tracker b xip ram.pages) (ram_page b xip ram.pages (holds d)) 0 ≡ data_owner d
  unfolding owner use_owner
  owned p = tracker_byte_lem b xip _ _ p.inside ∙ rw p.used

  -- what is behind a RAM page
  behind : (d : Data) (P : PhysPage) → P.0 ≡ page d → Stored b xip (tracker_pages b ram.pages) d → lies_in (page_area P.0) (memory_area (after x r)) ≡ true
      → InRam b xip ram.pages (holds d) × (P.0 ≡ ram.base + ram_page b xip ram.pages (holds d))
  unfolding phys_page
  behind d P e (inr c) l = (place _ c.1, e ∙ copied_page b xip _ ram d c.0)
  behind (section_page q j i) P e (inl f) l =
      let n : lies_in (page_area (flash_page b (x.flash.start / 4096) (section_record b q j) i)) (memory_area r) ≡ false
      = (in_flash x (memory_area r) ok q j i f.0 f.1 f.2 f.3 f.4).not_ram in
      false_not_true n (rw (same_area, e, flashed_page b xip (x.flash.start / 4096) ram q j i f.3) at l)
  behind (tracker_page i) P e (inl f) l = absurd f
  behind process_list P e (inl f) l = absurd f
  behind block_copy P e (inl f) l = absurd f

  -- A RAM PAGE REACHED WITH THE USER RIGHT HAS ONE OWNER AND ONE VIRTUAL PAGE
  pub one_owner_one_virtual_page : OneOwnerEach x r (after x r)
  one_owner_one_virtual_page q a lo hi h t P e u l =
      let p : ReachedPage q (a / 4096) t P = reached q a lo hi h t P e in
      let here : InRam b xip ram.pages (holds p.page) × (P.0 ≡ ram.base + ram_page b xip ram.pages (holds p.page)) = behind p.page P p.number p.stored l in
      let mine : data_owner p.page ≡ q = p.owner_is ∙ choose_yes q 1 u in
      record {
        k = ram_page b xip ram.pages (holds p.page);
        inside = here.0.inside;
        number = here.1;
        tracked = owned here.0 ∙ mine;
        only = λ q' a' lo' hi' h' t' e'.
            let p' : ReachedPage q' (a' / 4096) t' P = reached q' a' lo' hi' h' t' P e' in
            let there : InRam b xip ram.pages (holds p'.page) × (P.0 ≡ ram.base + ram_page b xip ram.pages (holds p'.page)) = behind p'.page P p'.number p'.stored l in
            let w : holds p'.page ≡ holds p.page = one_use b xip ram.pages _ _ there.0 here.0 (omega (arith, here.1, there.1)) in
            let d : p'.page ≡ p.page = cc in
            let o : choose t'.user q' 1 ≡ q = sym p'.owner_is ∙ ap data_owner d ∙ mine in (
              by_choose (λ n. n ≡ q → q' ≡ q) t'.user q' 1 (λ _ z. z) (λ _ z. absurd (p.user u (sym z))) o,
              sym p'.home ∙ ap (home_of b) d ∙ p.home,
            );
      }

  total_pages : {n : ℕ} → n ≡ pages_needed b xip ram.pages → n + free_pages b xip ram.pages ≡ ram.pages
  unfolding free_pages
  total_pages e = omega (arith, fits_ram.enough)

  -- OWNERS' PAGES AND FREE PAGES ADD UP TO RAM
  pub pages_add_up : AddUp x ram.pages (answer x r)
  unfolding boots answer answer_on boot_answer
  pages_add_up =
      let n : sum (process_count b) (λ i. pages_of b xip ram.pages (i + 1)) ≡ pages_needed b xip ram.pages = owners_sum b xip _ fits_ram.some_process in
      record {
        total = total_pages n;
        taken = ap (λ (a : Answer). a.taken) (choose_yes _ _ boot) ∙ sym n;
        free = ap (λ (a : Answer). a.free) (choose_yes _ _ boot);
        tracked = λ q lo. tracker_count_owner b xip _ q lo fits_ram.enough;
        tracked_free = tracker_count_free b xip _ fits_ram.some_process fits_ram.enough;
      }

  -- PAGES NOT TAKEN AND THE FOUR AT THE TOP KEEP THEIR BYTES
  pub untouched : (k o : ℕ) → o < 4096 → (k < free_pages b xip ram.pages) ⊎ ((ram.pages ≤ k + 4) × (k < ram.pages))
      → get_or (ram_after x r) (4096 * k + o) 0 ≡ get_or r.bytes (4096 * k + o) 0
  unfolding page_byte free_pages
  untouched k o h (inl f) =
      rw (after_boot x r boot) (loaded_byte x r k o h (omega (arith, whole_ram.length_whole)) ∙ rw (use_free b xip ram.pages k f))
  untouched k o h (inr t) =
      rw (after_boot x r boot) (loaded_byte x r k o h (omega (arith, whole_ram.length_whole)) ∙ rw (use_top b xip ram.pages k t.0 t.1))
