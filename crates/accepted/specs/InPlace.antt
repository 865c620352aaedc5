-- 02, A6: what is known of a section that is used in place.
use Rattle.std.specs.Prelude.{◌≡◌, refl, ◌⊎◌, ◌↔◌, true, not, ◌&&◌, List, length, leb, eqb}
use Rattle.std.proofs.Math.Path.{sym}
use Rattle.std.proofs.Common.{ap, ◌∙◌, inl, inr}
use Rattle.std.proofs.Math.Bool.{false}
use Prim.Native.Nat.{ℕ, ◌+◌, ◌-◌, ◌*◌, ◌/◌, ◌%◌, ◌≤◌, ◌<◌, min, max}
use Rattle.std.proofs.Math.Decide.{ℕ_discrete, dec_lt}
use native.Mathlib.Omega.{arith}
use Rattle.std.proofs.Math.ListN.{get_or}
use Rattle.std.proofs.Math.Dec.{ltb}
use borrow.Author.Tests.{eqb-true, eq-eqb, ne_eqb, leb-true, ltb-true, ltb-false, not-true, not-false, le-leb, lt-ltb, lt-leb, le-ltb}
use Rattle.notation.specs.Choice.{choose, all}
use Rattle.types.specs.declared.Area.{Area}
use Rattle.rules.specs.Lent.{Image, image_of, memory_area, page_area, lies_in, share_address}
use Rattle.rules.specs.Block.{process_count, section_count, kind, sections_of, section_record, owner_of, address, size, flash_offset_of, is_no_copy, writable, section_end, first_page_of, last_page_of, page_count}
use Rattle.rules.specs.InPlace.{flash_from, flash_to, zero_between, in_place, xip_of}
use Rattle.rules.specs.Refusals.{flash_unfit}
use Rattle.rules.specs.Contents.{section_page_byte}
use Rattle.rules.specs.Load.{flash_page}
use Rattle.laws.specs.Choice.{false_not_true, choose_yes, choose_no, and_both, and_not_left, and_not_right, any_none, all_pass, all_fails}
use Rattle.laws.specs.Lists.{exists_hit, exists_miss}
use Rattle.accepted.specs.NoCause.{NoCause}
use Rattle.accepted.specs.Sections.{record_in, section_size, owner_is}

-- 02'S WORDS for section record n of process q. Its flash pages are the image's pages, counted from its start, that hold a byte of it
pub record InPlace (b flash : List ℕ) (q n : ℕ) : Type 0 where
  pub user : 2 ≤ q
  pub kind_is : kind b q ≡ 1
  pub has_bytes : is_no_copy b n ≡ false
  pub read_only : writable b n ≡ false
  pub offsets_agree : flash_offset_of b n % 4096 ≡ address b n % 4096
  -- the page that holds byte j lies wholly in the image, and its bytes outside the section are zero
  pub page_inside : (j : ℕ) → j < size b n → 4096 * ((flash_offset_of b n + j) / 4096) + 4096 ≤ length flash
  pub zero_outside : (j k : ℕ) → j < size b n → k / 4096 ≡ (flash_offset_of b n + j) / 4096
      → (k < flash_offset_of b n) ⊎ (flash_offset_of b n + size b n ≤ k) → get_or flash k 0 ≡ 0

zero_between_lem : (l : List ℕ) (from to k : ℕ) → zero_between l from to ≡ true → from ≤ k → k < to → get_or l k 0 ≡ 0
unfolding zero_between
zero_between_lem l from to k e lo hi = elim (ℕ_discrete (get_or l k 0) 0) [
  | yes z ↦ z
  | no z ↦
      let s : from + (k - from) ≡ k = omega arith in
      false_not_true (not-true _ e) (exists_hit (λ k. not (eqb (get_or l (from + k) 0) 0)) (to - from) (k - from) (rw (s, ne_eqb (get_or l k 0) 0 z)) (omega arith))
]

all_zero_between : (l : List ℕ) (from to : ℕ) → ((k : ℕ) → from ≤ k → k < to → get_or l k 0 ≡ 0) → zero_between l from to ≡ true
unfolding zero_between
all_zero_between l from to h =
    rw (exists_miss (λ k. not (eqb (get_or l (from + k) 0) 0)) (to - from) (λ k l'. rw (h (from + k) (omega arith) (omega arith))))

-- the rule says 02's words of the owner
pub in_place_lem : (b flash : List ℕ) (n : ℕ) → in_place b flash n ≡ true → InPlace b flash (owner_of b n) n
unfolding in_place flash_from flash_to
in_place_lem b flash n e = record {
  user = ltb-true 1 _ (all_pass _ e 1);
  kind_is = eqb-true _ 1 (all_pass _ e 2);
  has_bytes = not-true _ (all_pass _ e 3);
  read_only = not-true _ (all_pass _ e 4);
  offsets_agree = eqb-true _ _ (all_pass _ e 5);
  page_inside = λ j h. omega (arith, leb-true _ (length flash) (all_pass _ e 6));
  zero_outside = λ j k h f out. elim out [
    | inl before ↦ zero_between_lem flash _ _ k (all_pass _ e 7) (omega arith) before
    | inr after ↦ zero_between_lem flash _ _ k (all_pass _ e 8) after (omega arith)
  ];
}

-- and no more, of a section that has a byte
in_place_if : (b flash : List ℕ) (n : ℕ) → n < section_count b → 1 ≤ size b n → InPlace b flash (owner_of b n) n → in_place b flash n ≡ true
unfolding in_place flash_from flash_to all
in_place_if b flash n in_block some_byte p =
    and_both (lt-ltb n (section_count b) in_block)
    (and_both (lt-ltb 1 (owner_of b n) p.user)
    (and_both (eq-eqb (kind b (owner_of b n)) 1 p.kind_is)
    (and_both (ap not p.has_bytes)
    (and_both (ap not p.read_only)
    (and_both (eq-eqb (flash_offset_of b n % 4096) (address b n % 4096) p.offsets_agree)
    (and_both (le-leb _ (length flash) (omega (arith, p.page_inside (size b n - 1) (omega arith))))
    (and_both (all_zero_between flash (4096 * (flash_offset_of b n / 4096)) (flash_offset_of b n) (λ k lo hi. p.zero_outside 0 k some_byte (omega arith) (inl hi)))
    (and_both (all_zero_between flash (flash_offset_of b n + size b n) (4096 * ((flash_offset_of b n + size b n - 1) / 4096 + 1)) (λ k lo hi. p.zero_outside (size b n - 1) k (omega arith) (omega arith) (inr lo))) refl))))))))

-- ITS FLASH PAGES are as many as its virtual pages: the one that holds page i lies in the image, and has the bytes that the rules give page i
module _ (b flash : List ℕ) (q n : ℕ) (p : InPlace b flash q n) (some_byte : 1 ≤ size b n) (i : ℕ) (h : i < page_count b n) where
  -- a byte of the section that it holds
  byte_there : (j : ℕ) × (j < size b n) × ((flash_offset_of b n + j) / 4096 ≡ flash_offset_of b n / 4096 + i)
  unfolding page_count last_page_of first_page_of section_end
  byte_there = (4096 * i - address b n % 4096, omega arith, omega (arith, p.offsets_agree))

  pub flash_page_inside : 4096 * (flash_offset_of b n / 4096 + i) + 4096 ≤ length flash
  flash_page_inside = rw (← byte_there.2) (p.page_inside byte_there.0 byte_there.1)

  -- it has no bytes but the section's and zeros
  pub flash_page_byte : (start o : ℕ) → o < 4096 → get_or flash (4096 * (flash_offset_of b n / 4096 + i) + o) 0 ≡ section_page_byte (image_of b start flash) n i o
  unfolding section_page_byte
  flash_page_byte start o l =
      let at : ℕ = 4096 * i + o in
      let offset : ℕ = address b n % 4096 in
      let k : ℕ = 4096 * (flash_offset_of b n / 4096 + i) + o in
      let s : k + offset ≡ flash_offset_of b n + at = omega (arith, p.offsets_agree) in
      let zero-there : (k < flash_offset_of b n) ⊎ (flash_offset_of b n + size b n ≤ k) → get_or flash k 0 ≡ 0
      = p.zero_outside byte_there.0 k byte_there.1 (omega (arith, byte_there.2)) in
      let outside : (leb offset at && ltb at (offset + size b n)) ≡ false → get_or flash k 0 ≡ 0
      → get_or flash k 0 ≡ choose (is_no_copy b n) 0 (choose (leb offset at && ltb at (offset + size b n)) (get_or flash (flash_offset_of b n + (at - offset)) 0) 0)
      = λ e z. z ∙ sym (choose_no _ _ p.has_bytes ∙ choose_no _ _ e) in
      elim (dec_lt at offset) [
        | yes before ↦ outside (and_not_left _ (lt-leb offset at before)) (zero-there (inl (omega arith)))
        | no from ↦ elim (dec_lt at (offset + size b n)) [
          | yes inside ↦
              let d : k ≡ flash_offset_of b n + (at - offset) = omega arith in
              rw d (sym (choose_no _ _ p.has_bytes ∙ choose_yes _ _ (and_both (le-leb offset at (omega arith)) (lt-ltb at (offset + size b n) inside))))
          | no after ↦ outside (and_not_right (leb offset at) (le-ltb at (offset + size b n) (omega arith))) (zero-there (inr (omega arith)))
        ]
      ]

-- 13: FLASH is apart from RAM, at whole pages, and ends within 32 bits
module _ (x : Image) (ram : Area) (ok : NoCause x ram) where
  abbrev flash : Area
  flash = memory_area x.flash

  pub flash_start : 4096 * (flash.start / 4096) ≡ flash.start
  unfolding flash_unfit
  flash_start = let s : flash.start % 4096 ≡ 0 = eqb-true _ _ (not-false _ (any_none _ ok.flash_fit 0)) in omega arith

  pub flash_end : flash.start + flash.length ≤ 0x1_0000_0000
  unfolding flash_unfit
  flash_end = ltb-false 0x1_0000_0000 _ (any_none _ ok.flash_fit 1)

  -- a page of flash is none of RAM
  pub flash_page_not_ram : (P : ℕ) → flash.start ≤ 4096 * P → 4096 * P + 4096 ≤ flash.start + flash.length → lies_in (page_area P) ram ≡ false
  unfolding flash_unfit share_address lies_in
  flash_page_not_ram P lo hi =
      let apart : min (flash.start + flash.length) (ram.start + ram.length) ≤ max flash.start ram.start = ltb-false _ _ (any_none _ ok.flash_fit 2) in
      elim (dec_lt (4096 * P) ram.start) [
        | yes below ↦ and_not_left _ (lt-leb ram.start (4096 * P) below)
        | no from ↦ and_not_right (leb ram.start (4096 * P)) (lt-leb (4096 * P + 4096) (ram.start + ram.length) (omega arith))
      ]

-- IN FLASH: page i of section record n, where it is used in place, is a physical page of flash and none of RAM, and has the bytes that the
-- rules give page i
pub record InFlash (x : Image) (ram : Area) (n i : ℕ) : Type 0 where
  pub number : flash_page x.block (x.flash.start / 4096) n i < 0x10_0000
  pub not_ram : lies_in (page_area (flash_page x.block (x.flash.start / 4096) n i)) ram ≡ false
  pub inside : lies_in (page_area (flash_page x.block (x.flash.start / 4096) n i)) (memory_area x.flash) ≡ true
  pub bytes : (o : ℕ) → o < 4096
      → get_or x.flash.bytes (4096 * flash_page x.block (x.flash.start / 4096) n i - x.flash.start + o) 0 ≡ section_page_byte x n i o

pub in_flash : (x : Image) (ram : Area) (ok : NoCause x ram) (q j i : ℕ) → 1 ≤ q → q ≤ process_count x.block → j < sections_of x.block q
    → xip_of x (section_record x.block q j) ≡ true → i < page_count x.block (section_record x.block q j) → InFlash x ram (section_record x.block q j) i
unfolding flash_page lies_in
in_flash x ram ok q j i lo hi hj e h =
    let b : List ℕ = x.block in
    let n : ℕ = section_record b q j in
    let l : List ℕ = x.flash.bytes in
    let F : ℕ = x.flash.start / 4096 in
    let p : InPlace b l (owner_of b n) n = in_place_lem b l n e in
    let some_byte : 1 ≤ size b n = section_size x ram ok q j lo hi hj in
    let whole : 4096 * F ≡ x.flash.start = flash_start x ram ok in
    let inside : 4096 * (flash_offset_of b n / 4096 + i) + 4096 ≤ length l = flash_page_inside b l (owner_of b n) n p some_byte i h in
    let end : x.flash.start + length l ≤ 0x1_0000_0000 = flash_end x ram ok in
    let P : ℕ = F + flash_offset_of b n / 4096 + i in
    record {
      number = omega arith;
      not_ram = flash_page_not_ram x ram ok P (omega arith) (omega arith);
      inside = and_both (le-leb x.flash.start (4096 * P) (omega arith)) (le-leb (4096 * P + 4096) (x.flash.start + length l) (omega arith));
      bytes = λ o h'.
          let d : 4096 * P - x.flash.start + o ≡ 4096 * (flash_offset_of b n / 4096 + i) + o = omega arith in
          rw d (flash_page_byte b l (owner_of b n) n p some_byte i h x.flash.start o h');
    }

-- EXACTLY THESE: where no cause of a refusal holds, section j of process q is used in place just where 02 says
pub in_place_exactly : (x : Image) (ram : Area) (ok : NoCause x ram) (q j : ℕ) → 1 ≤ q → q ≤ process_count x.block → j < sections_of x.block q
    → (xip_of x (section_record x.block q j) ≡ true) ↔ InPlace x.block x.flash.bytes q (section_record x.block q j)
in_place_exactly x ram ok q j lo hi hj =
    let n : ℕ = section_record x.block q j in
    let o : owner_of x.block n ≡ q = owner_is x ram ok q j lo hi hj in (
      λ e. rw o at (in_place_lem x.block x.flash.bytes n e),
      λ p. in_place_if x.block x.flash.bytes n (record_in x ram ok q j lo hi hj) (section_size x ram ok q j lo hi hj) (rw o p),
    )

-- a section record that the block has not, and one of the kernel's, are not used in place
pub none_past : (b flash : List ℕ) (n : ℕ) → section_count b ≤ n → in_place b flash n ≡ false
unfolding in_place
none_past b flash n h = all_fails _ 0 (le-ltb n (section_count b) h)

pub kernel_copied : (x : Image) (ram : Area) (ok : NoCause x ram) (j : ℕ) → 1 ≤ process_count x.block → j < sections_of x.block 1
    → xip_of x (section_record x.block 1 j) ≡ false
unfolding in_place
kernel_copied x ram ok j some_process hj = all_fails _ 1 (le-ltb 1 (owner_of x.block (section_record x.block 1 j)) (omega (arith, owner_is x ram ok 1 j (omega arith) some_process hj)))
