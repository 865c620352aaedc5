-- 02, A7: worked figures. Which kind words draw 6, how many pages a stack has, where sections end below it, and the reserved entries.
use Rattle.std.specs.Prelude.{◌≡◌, refl, Bool, true, false, List, [], ◌∷◌, map, ℕ, ◌-◌, ◌^◌, leb, ltb, eqb}
use Rattle.std.proofs.Math.Decide.{ℕ_discrete}
use Rattle.notation.specs.Choice.{choose, choices}
use Rattle.notation.specs.Lists.{tab, lists}
use Rattle.notation.specs.Words.{words}
use Rattle.rules.specs.Lent.{area_rules}
use Rattle.rules.specs.Block.{stack_pages, block_rules}
use Rattle.rules.specs.Space.{space_rules}
use Rattle.rules.specs.InPlace.{in_place_rules}
use Rattle.rules.specs.Order.{order_rules}
use Rattle.rules.specs.Refusals.{kind_unfit, range_last, refusal_rules}
use Rattle.rules.specs.Entries.{entry_rules}
use Rattle.rules.specs.Tables.{leaf_entry, table_rules}
use Rattle.rules.specs.Load.{load_rules}
use Rattle.rules.specs.Examples.{board, Example, all_hold, example_rules}

-- WHICH KIND WORDS DRAW 6. Of the words with one bit, bit k for k from 0 to 31: on the kernel all; on a user process all but bit 0 and bits 8
-- to 15
pub kernel_bits : tab 32 (λ k. kind_unfit (2 ^ k) 0) ≡ tab 32 (λ k. true)
unfolding refusal_rules block_rules lists choices
kernel_bits = refl

pub user_bits : tab 32 (λ k. kind_unfit (2 ^ k) 1) ≡ tab 32 (λ k. choose (eqb k 0) false (choose (ltb k 8) true (leb 16 k)))
unfolding refusal_rules block_rules lists choices
user_bits = refl

-- and of others: the word, and whether it draws 6 on the kernel and on a user process
pub record Kind : Type 0 where
  pub word : ℕ
  pub kernel : Bool
  pub user : Bool

unfoldable pub kinds : List Kind
kinds =
    record { word = 0; kernel = false; user = false }
    -- kinds 0 and 1 with stacks
    ∷ record { word = 0x0400; kernel = true; user = false }
    ∷ record { word = 0x0401; kernel = true; user = false }
    ∷ record { word = 0xFF01; kernel = true; user = false }
    -- kinds 2, 3 and 255 with stacks; bit 16 and bit 31 with kind 1
    ∷ record { word = 0x0402; kernel = true; user = true }
    ∷ record { word = 0x0403; kernel = true; user = true }
    ∷ record { word = 0xFFFF; kernel = true; user = true }
    ∷ record { word = 0x1_0001; kernel = true; user = true }
    ∷ record { word = 0x8000_0401; kernel = true; user = true }
    ∷ []

pub kernel_kinds : map (λ (x : Kind). kind_unfit x.word 0) kinds ≡ map (λ (x : Kind). x.kernel) kinds
unfolding kinds refusal_rules block_rules choices
kernel_kinds = refl

pub user_kinds : map (λ (x : Kind). kind_unfit x.word 1) kinds ≡ map (λ (x : Kind). x.user) kinds
unfolding kinds refusal_rules block_rules choices
user_kinds = refl

-- THE SMALL BOARD with the kind word of process 2 and the address of B, which is 4,096 bytes long, as given
unfoldable pub with_stack : ℕ → ℕ → List ℕ
with_stack kind_word_of B = board 0x0001_0020 kind_word_of B 0xF000_0000

-- STACKS of process 2: the kind word, the pages, and the last address for its sections
pub record Stack : Type 0 where
  pub kind_word_of : ℕ
  pub pages : ℕ
  pub last : ℕ

unfoldable pub stacks : List Stack
stacks =
    record { kind_word_of = 0; pages = 16; last = 0x7FFE_FFFF }
    ∷ record { kind_word_of = 0x0001; pages = 16; last = 0x7FFE_FFFF }
    ∷ record { kind_word_of = 0x0100; pages = 1; last = 0x7FFF_EFFF }
    ∷ record { kind_word_of = 0x0401; pages = 4; last = 0x7FFF_BFFF }
    ∷ record { kind_word_of = 0x1000; pages = 16; last = 0x7FFE_FFFF }
    ∷ record { kind_word_of = 0xFF00; pages = 255; last = 0x7FF0_0FFF }
    ∷ []

pub stack_sizes : map (λ (x : Stack). stack_pages (with_stack x.kind_word_of 0x0002_0000) 2) stacks ≡ map (λ (x : Stack). x.pages) stacks
unfolding with_stack stacks example_rules block_rules words lists choices
stack_sizes = refl

pub stack_ranges : map (λ (x : Stack). range_last (with_stack x.kind_word_of 0x0002_0000) 2) stacks ≡ map (λ (x : Stack). x.last) stacks
unfolding with_stack stacks example_rules refusal_rules block_rules words lists choices
stack_ranges = refl

-- THE ANSWERS: B up to the last byte below the stack, and one byte further. B's leaf table is the stack's, as in P10
unfoldable pub examples : List Example
examples =
    record { block = with_stack 0 0x7FFE_F000; flash = 320; pages = 16; number = 0; place = 0; free = 1; offset = 0 }
    ∷ record { block = with_stack 0 0x7FFE_F001; flash = 320; pages = 16; number = 8; place = 2; free = 0; offset = 96 }
    ∷ record { block = with_stack 0x0100 0x7FFF_E000; flash = 320; pages = 16; number = 0; place = 0; free = 1; offset = 0 }
    ∷ record { block = with_stack 0x0100 0x7FFF_E001; flash = 320; pages = 16; number = 8; place = 2; free = 0; offset = 96 }
    ∷ record { block = with_stack 0xFF00 0x7FF0_0000; flash = 320; pages = 16; number = 0; place = 0; free = 1; offset = 0 }
    ∷ record { block = with_stack 0xFF00 0x7FF0_0001; flash = 320; pages = 16; number = 8; place = 2; free = 0; offset = 96 }
    -- P10's B with 0 in the stack bits
    ∷ record { block = with_stack 0 0x7FFF_B000; flash = 320; pages = 16; number = 8; place = 2; free = 0; offset = 96 }
    -- 6 before 8
    ∷ record { block = with_stack 0x0402 0x7FFF_B001; flash = 320; pages = 16; number = 6; place = 1; free = 0; offset = 48 }
    ∷ record { block = with_stack 0x1_0400 0x7FFF_B001; flash = 320; pages = 16; number = 6; place = 1; free = 0; offset = 48 }
    ∷ []

pub stack_examples : all_hold examples ≡ true
unfolding with_stack examples example_rules load_rules refusal_rules order_rules in_place_rules block_rules area_rules words lists choices
stack_examples = refl

-- THE RESERVED ENTRIES, 22, of the leaf table of process 2 for root slot 511, up to its last: the kind word, and the index of the first
pub record Reserved : Type 0 where
  pub kind_word_of : ℕ
  pub first : ℕ

unfoldable pub reserves : List Reserved
reserves =
    record { kind_word_of = 0; first = 1008 }
    ∷ record { kind_word_of = 0x0100; first = 1023 }
    ∷ record { kind_word_of = 0x0401; first = 1020 }
    ∷ record { kind_word_of = 0xFF00; first = 769 }
    ∷ []

-- entry 0, the one before the first reserved, that one, and the last
unfoldable pub edges : Reserved → List ℕ
edges x = map (leaf_entry (with_stack x.kind_word_of 0x0002_0000) 1 (λ d. 0) 2 511) (0 ∷ (x.first - 1) ∷ x.first ∷ 1023 ∷ [])

pub reserved_entries : map edges reserves ≡ map (λ (x : Reserved). 0 ∷ 0 ∷ 22 ∷ 22 ∷ []) reserves
unfolding ℕ_discrete with_stack reserves edges example_rules table_rules entry_rules order_rules space_rules block_rules words lists choices
reserved_entries = refl
