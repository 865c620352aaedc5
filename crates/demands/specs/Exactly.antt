-- DEMAND 2, "exactly the sections 01 gives it, zero around them, those rights, and nothing else but the kernel's own mapping and the stack
-- reserve": what that says of a view, and that `sees` keeps to it where no cause of a refusal holds.
use Rattle.std.specs.Prelude.{◌≡◌, ◌≢◌, ◌⊎◌, ◌↔◌, List, true, false, ◌&&◌, ℕ, zero, suc, ◌+◌, ◌-◌, ◌*◌, ◌/◌, ◌≤◌, ◌<◌, get_or, leb, ltb}
use Rattle.std.proofs.Math.Path.{refl, ap}
use Rattle.std.proofs.Common.{◌∙◌, inl, inr, add-one}
use Rattle.std.proofs.Math.Option.{some}
use Rattle.std.proofs.Math.Decide.{ℕ_discrete}
use native.Mathlib.Omega.{arith}
use borrow.Author.Tests.{eq-eqb, ne_eqb, le-leb, lt-leb, lt-ltb, le-ltb, ltb-false}
use Rattle.notation.specs.Choice.{choose}
use Rattle.types.specs.declared.Area.{Area}
use Rattle.types.specs.declared.PageRange.{PageRange}
use Rattle.types.specs.declared.Rights.{Rights}
use Rattle.types.specs.declared.View.{View}
use Rattle.types.specs.declared.View.TheVariants as S
use Rattle.rules.specs.Lent.{Image, pages_in}
use Rattle.rules.specs.Block.{stack_pages, stack_first, process_count, region_count, sections_of, section_record, address, size, section_end, first_page_of, last_page_of, flash_offset_of, is_no_copy, region_pages, io_pages_of, io_pages}
use Rattle.rules.specs.Refusals.{ram_unfit, range_first, range_last, region_unfit}
use Rattle.rules.specs.Space.{Data, tracker_page, process_list, block_copy, Mapping, unmapped, stack, maps, section_rights, kernel_read, kernel_write, section_mapping, has_page, in_tracker, kernel_page, in_stack, user_page, mapping_at}
use Rattle.rules.specs.Order.{pages_for, tracker_pages, owner, use_of}
use Rattle.rules.specs.Contents.{tracker, process_list_byte}
use Rattle.rules.specs.Load.{satp_word}
use Rattle.rules.specs.Sees.{section_byte, byte_at, view_of, sees, sees_on, section_view}
use Rattle.rules.specs.InPlace.{xip_of}
use Rattle.laws.specs.Choice.{false_not_true, by_choose, and_both, and_not_left, and_not_right, choose_yes, choose_no, any_none}
use Rattle.laws.specs.Counts.{sum_none}
use Rattle.accepted.specs.NoCause.{NoCause}
use Rattle.accepted.specs.Sections.{section_at_page_is, page_from, page_to}
use Rattle.accepted.specs.Stacks.{kernel_stack, stack_at_most, range_ends}
use Rattle.accepted.specs.Tracker.{tracker_pages_lem, tracker_byte_lem, tracker_io}
use Rattle.demands.specs.Mappings.{in_stack_first, in_stack_last, in_stack_slot, by_mapping}

-- v is what process q is to see at address a, where RAM has these pages. Its sections are its own and the kernel's
pub record Exactly (x : Image) (ram : PageRange) (q a : ℕ) (v : View) : Type 0 where
  -- byte k of section j of process p
  pub section : (p j k : ℕ) → (p ≡ q) ⊎ (p ≡ 1) → j < sections_of x.block p → k < size x.block (section_record x.block p j) → a ≡ address x.block (section_record x.block p j) + k
      → v ≡ section_view x p (section_record x.block p j) k
  -- zero around it: on its pages, before it and after it
  pub around : (p j : ℕ) → (p ≡ q) ⊎ (p ≡ 1) → j < sections_of x.block p → has_page x.block (a / 4096) (section_record x.block p j) ≡ true
      → (a < address x.block (section_record x.block p j)) ⊎ (section_end x.block (section_record x.block p j) ≤ a)
      → v ≡ S.Page (section_rights x.block p (section_record x.block p j)) 0
  -- the stack reservation of a user process
  pub stack : q ≢ 1 → in_stack x.block q (a / 4096) ≡ true → v ≡ S.Reserved
  -- the kernel's own mapping, in every process: the block copy, the tracker (owners of RAM pages rising, then zero for the I/O pages and
  -- behind them), the process list
  pub block_copy_is : (k : ℕ) → k < 4096 → a ≡ 0xFFF0_0000 + k → v ≡ S.Page kernel_read (get_or x.block k 0)
  pub tracker_ram : (k : ℕ) → k < ram.pages → a ≡ 0xFFF4_0000 + k → v ≡ S.Page kernel_write (owner (use_of x.block (xip_of x) ram.pages k))
  pub tracker_rest : (k : ℕ) → ram.pages ≤ k → k < 4096 * tracker_pages x.block ram.pages → a ≡ 0xFFF4_0000 + k → v ≡ S.Page kernel_write 0
  pub process_list_is : (k : ℕ) → k < 4096 → a ≡ 0xFFF8_0000 + k → v ≡ S.Page kernel_read (process_list_byte x.block (satp_word x.block (xip_of x) ram) k)
  -- and nothing else
  pub nothing_else : ((p j : ℕ) → (p ≡ q) ⊎ (p ≡ 1) → j < sections_of x.block p → has_page x.block (a / 4096) (section_record x.block p j) ≡ false)
      → (q ≢ 1 → in_stack x.block q (a / 4096) ≡ false) → a / 4096 ≢ 0xFFF00 → in_tracker (tracker_pages x.block ram.pages) (a / 4096) ≡ false → a / 4096 ≢ 0xFFF80
      → v ≡ S.Absent

-- 01: at most 4,096 I/O pages in all
io_pages_few : (x : Image) (ram : Area) → NoCause x ram → io_pages x.block ≤ 4096
unfolding io_pages io_pages_of region_unfit
io_pages_few x ram ok = go (region_count x.block) (λ i h. ltb-false 4096 _ (any_none _ (ok.region_fit i h) 6))
  where
    go : (n : ℕ) → ((i : ℕ) → i < n → io_pages_of x.block (i + 1) ≤ 4096) → io_pages_of x.block n ≤ 4096
    go zero h = omega (arith, sum_none (region_pages x.block))
    go (suc n) h = rw add-one at (h n (omega arith))

-- so the tracker has at most two pages, and ends below the process list
pub tracker_two : (x : Image) (ram : Area) → NoCause x ram → tracker_pages x.block (pages_in ram).pages ≤ 2
unfolding tracker_pages pages_for ram_unfit
tracker_two x ram ok =
    let few : ram.length / 4096 ≤ 4096 = ltb-false _ _ (any_none _ ok.ram_fit 1) in
    omega (arith, io_pages_few x ram ok)

-- and it holds a byte for each RAM page
tracker_holds : (b : List ℕ) (N k : ℕ) → k < N → k < 4096 * tracker_pages b N
unfolding tracker_pages pages_for
tracker_holds b N k h = omega arith

section_byte_in : (x : Image) (n k : ℕ) → k < size x.block n
    → section_byte x n (address x.block n + k) ≡ choose (is_no_copy x.block n) 0 (get_or x.flash.bytes (flash_offset_of x.block n + k) 0)
unfolding section_byte section_end
section_byte_in x n k h =
    let b : List ℕ = x.block in
    let d : address b n + k - address b n ≡ k = omega arith in
    let i : (leb (address b n) (address b n + k) && ltb (address b n + k) (address b n + size b n)) ≡ true
    = and_both (le-leb (address b n) (address b n + k) (omega arith)) (lt-ltb (address b n + k) (address b n + size b n) (omega arith)) in
    ap (choose (is_no_copy b n) 0) (choose_yes _ _ i ∙ rw d)

section_byte_around : (x : Image) (n a : ℕ) → (a < address x.block n) ⊎ (section_end x.block n ≤ a) → section_byte x n a ≡ 0
unfolding section_byte
section_byte_around x n a out =
    let b : List ℕ = x.block in
    let e : (leb (address b n) a && ltb a (section_end b n)) ≡ false = elim out [
      | inl before ↦ and_not_left _ (lt-leb (address b n) a before)
      | inr after ↦ and_not_right (leb (address b n) a) (le-ltb a (section_end b n) after)
    ] in
    by_choose (λ x. x ≡ 0) (is_no_copy b n) 0 _ (λ _. refl) (λ _. choose_no _ _ e)

has_page_in : (b : List ℕ) (n k : ℕ) → k < size b n → has_page b ((address b n + k) / 4096) n ≡ true
unfolding has_page first_page_of last_page_of section_end
has_page_in b n k h =
    and_both (le-leb (address b n / 4096) ((address b n + k) / 4096) (omega arith))
    (le-leb ((address b n + k) / 4096) ((address b n + size b n - 1) / 4096) (omega arith))

-- WHAT STANDS where the stack and the kernel's own pages are
stack_page : (b : List ℕ) (T q v : ℕ) → q ≢ 1 → in_stack b q v ≡ true → mapping_at b T q v ≡ stack
unfolding mapping_at user_page choose
stack_page b T q v user e = rw (ne_eqb (v / 1024) 1023 (λ z. omega (arith, in_stack_slot b q v e)), ne_eqb q 1 user, e)

block_copy_page : (b : List ℕ) (T q : ℕ) → mapping_at b T q 0xFFF00 ≡ maps block_copy kernel_read
unfolding mapping_at kernel_page in_tracker choose
block_copy_page b T q = refl

process_list_page : (b : List ℕ) (T q : ℕ) → mapping_at b T q 0xFFF80 ≡ maps process_list kernel_read
unfolding mapping_at kernel_page choose
process_list_page b T q = refl

pub tracker_page_lem : (b : List ℕ) (T q i : ℕ) → i < T → T ≤ 2 → mapping_at b T q (0xFFF40 + i) ≡ maps (tracker_page i) kernel_write
unfolding mapping_at kernel_page in_tracker choose
tracker_page_lem b T q i h l =
    let d : 0xFFF40 + i - 0xFFF40 ≡ i = omega arith in
    rw (
      eq-eqb ((0xFFF40 + i) / 1024) 1023 (omega arith),
      ne_eqb (0xFFF40 + i) 0xFFF80 (λ z. omega arith),
      le-leb 0xFFF40 (0xFFF40 + i) (omega arith),
      lt-ltb (0xFFF40 + i) (0xFFF40 + T) (omega arith),
      d,
    )

-- THE STACK RESERVATION: v is reserved just where address a is one of the pages of process q's stack, which ends at 0x80000000. The kernel
-- has none
abbrev pub StackReservation : Image → ℕ → ℕ → View → Type 0
StackReservation x q a v = (v ≡ S.Reserved) ↔ ((0x8000_0000 - 4096 * stack_pages x.block q ≤ a) × (a < 0x8000_0000))

page_not_reserved : {A : Type 0} {t : Rights} {y : ℕ} → S.Page t y ≡ S.Reserved → A
page_not_reserved e = let z : ◌≡◌ {A = ℕ} 0 1 = cc in absurd (omega arith)

reserved_page : (byte : Data → ℕ) (b : List ℕ) (T q v : ℕ) → view_of byte (mapping_at b T q v) ≡ S.Reserved → in_stack b q v ≡ true
unfolding view_of
reserved_page byte b T q v =
    by_mapping (λ s. view_of byte s ≡ S.Reserved → in_stack b q v ≡ true) b T q v
    (λ e. let z : ◌≡◌ {A = ℕ} 0 1 = cc in absurd (omega arith))
    (λ _ e _. e)
    (λ _ _ _ _. page_not_reserved)
    (λ _ _ _. page_not_reserved)
    (λ _. page_not_reserved)
    (λ _. page_not_reserved)
    (λ _. page_not_reserved)

pub stack_reserved_lem : (x : Image) (ram : PageRange) (q a : ℕ) → StackReservation x q a (sees_on x ram q a)
unfolding sees_on sees view_of in_stack stack_first
stack_reserved_lem x ram q a =
    let b : List ℕ = x.block in
    let n : ℕ = stack_pages b q in
    let v : ℕ = a / 4096 in (
      λ e. let here : in_stack b q v ≡ true = reserved_page _ b _ q v e in
          (omega (arith, stack_at_most b q, in_stack_first b q v here), omega (arith, in_stack_last b q v here)),
      λ p. rw (stack_page b _ q v (λ e. omega (arith, kernel_stack b q e, p.0, p.1))
          (and_both (le-leb (0x80000 - n) v (omega (arith, stack_at_most b q, p.0))) (lt-ltb v 0x80000 (omega (arith, p.1))))),
    )

-- WHAT STANDS AT A PAGE OF A SECTION: neither the stack nor a page of the kernel's own
module _ (x : Image) (ram : Area) (ok : NoCause x ram) where
  abbrev b : List ℕ
  b = x.block

  -- of a section of the kernel's, in every process
  kernel_section_page : (T q j v : ℕ) → 1 ≤ process_count b → j < sections_of b 1 → has_page b v (section_record b 1 j) ≡ true
      → mapping_at b T q v ≡ section_mapping b 1 v (some j)
  unfolding mapping_at kernel_page in_tracker range_first range_last choose
  kernel_section_page T q j v some_process hj e =
      let from : 0xFFC00 ≤ v = page_from x ram ok 1 j v (omega arith) some_process hj e in
      let to : v ≤ 0xFFEFF = page_to x ram ok 1 j v (omega arith) some_process hj e in
      rw (eq-eqb (v / 1024) 1023 (omega arith), ne_eqb v 0xFFF80 (λ y. omega arith), lt-leb 0xFFF40 v (omega arith), ne_eqb v 0xFFF00 (λ y. omega arith))
      (section_at_page_is x ram ok 1 j v (omega arith) some_process hj e)

  -- the range of a user process ends below its stack, which ends below the kernel's 4 MiB
  below_stack : (q v : ℕ) → q ≢ 1 → v ≤ range_last b q / 4096 → (v < stack_first b q) × (stack_first b q ≤ 0x80000)
  unfolding stack_first
  below_stack q v user h = (omega (arith, range_ends b q user, stack_at_most b q), omega arith)

  user_section_page : (T q j v : ℕ) → q ≢ 1 → 1 ≤ q → q ≤ process_count b → j < sections_of b q → has_page b v (section_record b q j) ≡ true
      → mapping_at b T q v ≡ section_mapping b q v (some j)
  unfolding mapping_at user_page in_stack choose
  user_section_page T q j v user lo hi hj e =
      let below = below_stack q v user (page_to x ram ok q j v lo hi hj e) in
      rw (ne_eqb (v / 1024) 1023 (λ y. omega arith), ne_eqb q 1 user, lt-leb (stack_first b q) v below.0) (section_at_page_is x ram ok q j v lo hi hj e)

  -- of a section of process p, in process q: its own and the kernel's
  pub section_page_is : (T q p j v : ℕ) → 1 ≤ q → q ≤ process_count b → (p ≡ q) ⊎ (p ≡ 1) → j < sections_of b p → has_page b v (section_record b p j) ≡ true
      → mapping_at b T q v ≡ section_mapping b p v (some j)
  section_page_is T q p j v lo hi of hj e = elim (ℕ_discrete p 1) [
    | yes k ↦ rw k (kernel_section_page T q j v (omega arith) (rw k at hj) (rw k at e))
    | no u ↦
        let own : p ≡ q = elim of [ inl o ↦ o | inr k ↦ absurd (u k) ] in
        rw (← own) (user_section_page T p j v u (omega arith) (omega arith) hj e)
  ]

module _ (x : Image) (ram : Area) (ok : NoCause x ram) (q a : ℕ) (lo : 1 ≤ q) (hi : q ≤ process_count x.block) where
  abbrev N : ℕ
  N = (pages_in ram).pages

  abbrev given : View
  given = sees_on x (pages_in ram) q a

  -- the view of what stands at virtual page v
  given_is : {s : Mapping} (v : ℕ) → a / 4096 ≡ v → mapping_at x.block (tracker_pages x.block N) q v ≡ s
      → given ≡ view_of (byte_at x (tracker x.block (xip_of x) N) (satp_word x.block (xip_of x) (pages_in ram)) a) s
  unfolding sees_on sees
  given_is v h e = rw (tracker_pages_lem x.block (xip_of x) N, h, e)

  on_section : (p j : ℕ) → (p ≡ q) ⊎ (p ≡ 1) → j < sections_of x.block p → has_page x.block (a / 4096) (section_record x.block p j) ≡ true
      → given ≡ S.Page (section_rights x.block p (section_record x.block p j)) (section_byte x (section_record x.block p j) a)
  unfolding section_mapping view_of byte_at section_rights
  on_section p j of hj e = given_is (a / 4096) refl (section_page_is x ram ok (tracker_pages x.block N) q p j (a / 4096) lo hi of hj e)

  on_tracker : (k : ℕ) → k < 4096 * tracker_pages x.block N → a ≡ 0xFFF4_0000 + k
      → given ≡ S.Page kernel_write (get_or (tracker x.block (xip_of x) N) k 0)
  unfolding view_of byte_at
  on_tracker k h e =
      let d : a - 0xFFF4_0000 ≡ k = omega arith in
      given_is (0xFFF40 + k / 4096) (omega arith) (tracker_page_lem x.block (tracker_pages x.block N) q (k / 4096) (omega arith) (tracker_two x ram ok))
      ∙ rw d

  pub exactly : Exactly x (pages_in ram) q a given
  unfolding section_view view_of byte_at
  exactly = record {
    section = λ p j k of hj hk e.
        on_section p j of hj (rw e (has_page_in x.block _ k hk)) ∙ rw e (ap (S.Page (section_rights x.block p (section_record x.block p j))) (section_byte_in x _ k hk));
    around = λ p j of hj e out. on_section p j of hj e ∙ ap (S.Page (section_rights x.block p (section_record x.block p j))) (section_byte_around x _ a out);
    stack = λ user e. given_is (a / 4096) refl (stack_page x.block _ q (a / 4096) user e);
    block_copy_is = λ k h e.
        let d : a - 0xFFF0_0000 ≡ k = omega arith in given_is 0xFFF00 (omega arith) (block_copy_page x.block _ q) ∙ rw d;
    tracker_ram = λ k h e. on_tracker k (tracker_holds x.block N k h) e ∙ rw (tracker_byte_lem x.block (xip_of x) N k h);
    tracker_rest = λ k h l e. on_tracker k l e ∙ rw (tracker_io x.block (xip_of x) N k h);
    process_list_is = λ k h e.
        let d : a - 0xFFF8_0000 ≡ k = omega arith in given_is 0xFFF80 (omega arith) (process_list_page x.block _ q) ∙ rw d;
    nothing_else = λ no-section no_Stack no_copy no-tracker no-list.
        given_is (a / 4096) refl
        (by_mapping (λ m. m ≡ unmapped) x.block (tracker_pages x.block N) q (a / 4096) refl
        (λ user e. false_not_true (no_Stack user) e)
        (λ _ j hj e. false_not_true (no-section q j (inl refl) hj) e)
        (λ j hj e. false_not_true (no-section 1 j (inr refl) hj) e)
        (λ e. absurd (no_copy e))
        (λ e. false_not_true no-tracker e)
        (λ e. absurd (no-list e)));
  }
