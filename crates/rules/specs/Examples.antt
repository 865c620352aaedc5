-- 01, "The small board, whole": the examples marked P, as one table under one claim.
use Rattle.std.specs.Prelude.{◌≡◌, refl, Bool, true, ◌&&◌, List, [], ◌∷◌, ℕ, ◌*◌, eqb}
use Rattle.notation.specs.Choice.{choices}
use Rattle.notation.specs.Lists.{tab, lists}
use Rattle.notation.specs.Words.{bytes_of, words}
use Rattle.rules.specs.Answers.{Answer}
use Rattle.rules.specs.Lent.{image_of, area_of, area_rules}
use Rattle.rules.specs.Block.{block_rules}
use Rattle.rules.specs.InPlace.{in_place_rules}
use Rattle.rules.specs.Order.{order_rules}
use Rattle.rules.specs.Refusals.{refusal_rules}
use Rattle.rules.specs.Load.{answer_on, load_rules}

-- the small board's block, with the entry point and the kind word of process 2, the address of B and the start of the region as given
unfoldable pub board : ℕ → ℕ → ℕ → ℕ → List ℕ
board entry kind_word_of B region = bytes_of
    (1 ∷ 120 ∷ 2 ∷ 32 ∷ 3 ∷ 64 ∷ 1 ∷ 112
    ∷ 0xFFC0_0010 ∷ 0 ∷ 1 ∷ 0
    ∷ entry ∷ 1 ∷ 2 ∷ kind_word_of
    ∷ 0xFFC0_0000 ∷ 256 ∷ 0 ∷ 4
    ∷ 0x0001_0020 ∷ 64 ∷ 256 ∷ 4
    ∷ B ∷ 4096 ∷ 0 ∷ 3
    ∷ region ∷ 2
    ∷ [])

unfoldable pub small_board : List ℕ
small_board = board 0x0001_0020 0 0x0002_0000 0xF000_0000

-- an example: the block, the bytes of flash from 0x20000000 on, the pages of RAM from 0x40000000 on, and the answer's number, place, free pages and
-- offset
pub record Example : Type 0 where
  pub block : List ℕ
  pub flash : ℕ
  pub pages : ℕ
  pub number : ℕ
  pub place : ℕ
  pub free : ℕ
  pub offset : ℕ

unfoldable pub given : Example → Answer
given x = answer_on (image_of x.block 0x2000_0000 (tab x.flash (λ k. 0))) (area_of 0x4000_0000 (4096 * x.pages))

unfoldable pub example_holds : Example → Bool
example_holds x =
    let a = given x in
    eqb a.number x.number && (eqb a.place x.place && (eqb a.free x.free && eqb a.offset x.offset))

unfoldable pub all_hold : List Example → Bool
all_hold [] = true
all_hold (x ∷ xs) = example_holds x && all_hold xs

-- P1 to P12, the last with its two halves. P10 and P11 ask for a stack of four pages (02, A7)
unfoldable pub examples : List Example
examples =
    record { block = small_board; flash = 320; pages = 16; number = 0; place = 0; free = 1; offset = 0 }
    ∷ record { block = small_board; flash = 320; pages = 15; number = 0; place = 0; free = 0; offset = 0 }
    ∷ record { block = small_board; flash = 320; pages = 14; number = 12; place = 0; free = 0; offset = 0 }
    ∷ record { block = []; flash = 320; pages = 16; number = 2; place = 0; free = 0; offset = 0 }
    ∷ record { block = board 0x0001_005F 0 0x0002_0000 0xF000_0000; flash = 320; pages = 16; number = 0; place = 0; free = 1; offset = 0 }
    ∷ record { block = board 0x0001_0060 0 0x0002_0000 0xF000_0000; flash = 320; pages = 16; number = 10; place = 1; free = 0; offset = 48 }
    ∷ record { block = small_board; flash = 319; pages = 16; number = 9; place = 1; free = 0; offset = 80 }
    ∷ record { block = board 0x0001_0020 0 0x0001_0060 0xF000_0000; flash = 320; pages = 16; number = 8; place = 2; free = 0; offset = 96 }
    ∷ record { block = board 0x0001_0020 0 0x0001_1000 0xF000_0000; flash = 320; pages = 16; number = 0; place = 0; free = 1; offset = 0 }
    ∷ record { block = board 0x0001_0020 0x0400 0x7FFF_B000 0xF000_0000; flash = 320; pages = 16; number = 0; place = 0; free = 1; offset = 0 }
    ∷ record { block = board 0x0001_0020 0x0400 0x7FFF_B001 0xF000_0000; flash = 320; pages = 16; number = 8; place = 2; free = 0; offset = 96 }
    ∷ record { block = board 0x0001_0020 0 0x0002_0000 0x4000_F000; flash = 320; pages = 16; number = 11; place = 0; free = 0; offset = 112 }
    ∷ record { block = board 0x0001_0020 0 0x0002_0000 0x4001_0000; flash = 320; pages = 16; number = 0; place = 0; free = 1; offset = 0 }
    ∷ []

-- the definitions above, to be unfolded as one
unfoldable pub example_rules : Unit {0}
unfolding board small_board given example_holds all_hold examples
example_rules = tt

-- all examples hold
-- where this is refused: `--` before rows of `examples`, from the last up, with `rt check` in this crate's folder after each, until it passes
pub P1-to-P12 : all_hold examples ≡ true
unfolding example_rules load_rules refusal_rules order_rules in_place_rules block_rules area_rules words lists choices
P1-to-P12 = refl
