-- The block writer on the small board of 01, and on lists that it refuses: worked figures as one table under one claim.
use Rattle.std.specs.Prelude.{◌≡◌, refl, Bool, true, ◌&&◌, List, [], ◌∷◌, ◌++◌, ℕ, ◌*◌, eqb}
use Rattle.notation.specs.Choice.{choices}
use Rattle.notation.specs.Lists.{tab, gather, lists}
use Rattle.notation.specs.Words.{words}
use Rattle.rules.specs.Block.{block_rules}
use Rattle.rules.specs.Refusals.{refusal_rules}
use Rattle.rules.specs.Examples.{board, small_board}
use Rattle.rules.specs.Writer.{Records, records_in, written, buffer_after, writer_rules}

-- the small board's records
unfoldable pub kernel : List ℕ
kernel = 0xFFC0_0010 ∷ 0 ∷ 1 ∷ 0 ∷ []

unfoldable pub user : List ℕ
user = 0x0001_0020 ∷ 1 ∷ 2 ∷ 0 ∷ []

unfoldable pub three_sections : List ℕ
three_sections =
    0xFFC0_0000 ∷ 256 ∷ 0 ∷ 4
    ∷ 0x0001_0020 ∷ 64 ∷ 256 ∷ 4
    ∷ 0x0002_0000 ∷ 4096 ∷ 0 ∷ 3
    ∷ []

unfoldable pub region : List ℕ
region = 0xF000_0000 ∷ 2 ∷ []

unfoldable pub small_records : Records
small_records = records_in (kernel ++ user) three_sections region

-- written into a buffer of 122 bytes, each 7, they give the small board's block, and two bytes stay
pub small_board_written : buffer_after small_records (tab 122 (λ k. 7)) ≡ small_board ++ (7 ∷ 7 ∷ [])
unfolding kernel user three_sections region small_records board small_board writer_rules refusal_rules block_rules words lists choices
small_board_written = refl

-- an example: the records, the bytes of the buffer, and the answer's number, place, length and offset
pub record Example : Type 0 where
  pub records : Records
  pub room : ℕ
  pub number : ℕ
  pub place : ℕ
  pub length : ℕ
  pub offset : ℕ

unfoldable pub example_holds : Example → Bool
example_holds x =
    let a = written x.records x.room in
    eqb a.number x.number && (eqb a.place x.place && (eqb a.length x.length && eqb a.offset x.offset))

unfoldable pub all_hold : List Example → Bool
all_hold [] = true
all_hold (x ∷ xs) = example_holds x && all_hold xs

-- the same record n times
unfoldable pub times : ℕ → List ℕ → List ℕ
times n r = gather n (λ i. r)

unfoldable pub examples : List Example
examples =
    record { records = small_records; room = 120; number = 0; place = 0; length = 120; offset = 0 }
    ∷ record { records = small_records; room = 4096; number = 0; place = 0; length = 120; offset = 0 }
    -- 22: a buffer one byte short, and none
    ∷ record { records = small_records; room = 119; number = 22; place = 0; length = 0; offset = 0 }
    ∷ record { records = small_records; room = 0; number = 22; place = 0; length = 0; offset = 0 }
    -- 21, before 22 and 6: a list that is not whole records, no process, 17 processes, no section, 65 sections, 33 regions
    ∷ record { records = records_in (kernel ++ user) three_sections (0xF000_0000 ∷ []); room = 0; number = 21; place = 0; length = 0; offset = 0 }
    ∷ record { records = records_in [] three_sections region; room = 4096; number = 21; place = 0; length = 0; offset = 0 }
    ∷ record { records = records_in (times 17 kernel) three_sections region; room = 4096; number = 21; place = 0; length = 0; offset = 0 }
    ∷ record { records = records_in (kernel ++ user) [] region; room = 4096; number = 21; place = 0; length = 0; offset = 0 }
    ∷ record { records = records_in kernel (times 65 kernel) []; room = 4096; number = 21; place = 0; length = 0; offset = 0 }
    ∷ record { records = records_in (kernel ++ user) three_sections (times 33 region); room = 4096; number = 21; place = 0; length = 0; offset = 0 }
    -- the largest block
    ∷ record { records = records_in (gather 16 (λ i. 0 ∷ 4 * i ∷ 4 ∷ 0 ∷ [])) (times 64 kernel) (times 32 region); room = 4096; number = 0; place = 0; length = 1568; offset = 0 }
    -- a user process of kind 1, and one with a stack of 255 pages besides
    ∷ record { records = records_in (kernel ++ (0x0001_0020 ∷ 1 ∷ 2 ∷ 1 ∷ [])) three_sections region; room = 120; number = 0; place = 0; length = 120; offset = 0 }
    ∷ record { records = records_in (kernel ++ (0x0001_0020 ∷ 1 ∷ 2 ∷ 0xFF01 ∷ [])) three_sections region; room = 120; number = 0; place = 0; length = 120; offset = 0 }
    -- 22 before 6; then 6: a kind of 2, bit 16, a kernel of kind 1, one with a stack, no section, a first section that is not the sum before it, a sum that passes s,
    -- a sum short of s
    ∷ record { records = records_in (kernel ++ kernel) three_sections region; room = 119; number = 22; place = 0; length = 0; offset = 0 }
    ∷ record { records = records_in (kernel ++ (0x0001_0020 ∷ 1 ∷ 2 ∷ 2 ∷ [])) three_sections region; room = 120; number = 6; place = 1; length = 0; offset = 48 }
    ∷ record { records = records_in (kernel ++ (0x0001_0020 ∷ 1 ∷ 2 ∷ 0x1_0000 ∷ [])) three_sections region; room = 120; number = 6; place = 1; length = 0; offset = 48 }
    ∷ record { records = records_in ((0xFFC0_0010 ∷ 0 ∷ 1 ∷ 1 ∷ []) ++ user) three_sections region; room = 120; number = 6; place = 0; length = 0; offset = 32 }
    ∷ record { records = records_in ((0xFFC0_0010 ∷ 0 ∷ 1 ∷ 0x0100 ∷ []) ++ user) three_sections region; room = 120; number = 6; place = 0; length = 0; offset = 32 }
    ∷ record { records = records_in ((0xFFC0_0010 ∷ 0 ∷ 0 ∷ 0 ∷ []) ++ user) three_sections region; room = 120; number = 6; place = 0; length = 0; offset = 32 }
    ∷ record { records = records_in (kernel ++ kernel) three_sections region; room = 120; number = 6; place = 1; length = 0; offset = 48 }
    ∷ record { records = records_in (kernel ++ (0x0001_0020 ∷ 1 ∷ 3 ∷ 0 ∷ [])) three_sections region; room = 120; number = 6; place = 1; length = 0; offset = 48 }
    ∷ record { records = records_in (kernel ++ (0x0001_0020 ∷ 1 ∷ 1 ∷ 0 ∷ [])) three_sections region; room = 120; number = 6; place = 1; length = 0; offset = 48 }
    -- nothing else is asked: sections that draw 7 are written
    ∷ record { records = records_in kernel (0 ∷ 0 ∷ 0 ∷ 0xFFFF_FFFF ∷ []) []; room = 64; number = 0; place = 0; length = 64; offset = 0 }
    ∷ []

pub writer_examples : all_hold examples ≡ true
unfolding kernel user three_sections region small_records example_holds all_hold times examples writer_rules refusal_rules block_rules words lists choices
writer_examples = refl
