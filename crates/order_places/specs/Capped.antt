-- A place as it is told.
use Rattle.std.specs.Prelude.{ℕ, min}

-- a place, or 65,536 where it is larger: past any RAM
abbrev pub capped : ℕ → ℕ
capped n = min n 0x1_0000
