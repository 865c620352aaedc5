-- What a call answers, in 01's numbers.
use Rattle.std.specs.Prelude.{ℕ}

-- of the check of one record: the number of the refusal, or 0, and the record's byte offset in the block
pub record RecordCheck : Type 0 where
  pub number : ℕ
  pub offset : ℕ

-- number, place and offset 0: it boots. Else the number of the refusal, its place, which is the record it was found at, counted from 0, and
-- that record's byte offset in the block; both 0 where it is of no record
pub record Verdict : Type 0 where
  pub number : ℕ
  pub place : ℕ
  pub offset : ℕ

-- the full answer of the loader: number, place and offset as in a verdict. In a refusal the three counts are 0
pub record Answer : Type 0 where
  pub number : ℕ
  pub place : ℕ
  pub taken : ℕ
  pub free : ℕ
  pub tracker : ℕ
  pub offset : ℕ

-- of the block writer: number, place and offset as in a verdict, and the length of the block; in a refusal it is 0
pub record Written : Type 0 where
  pub number : ℕ
  pub place : ℕ
  pub length : ℕ
  pub offset : ℕ
