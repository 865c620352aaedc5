-- Laws of capped places.
use Rattle.std.proofs.Common.{◌≡◌, ℕ, ◌≤◌, arith}
use Rattle.order_places.specs.Capped.{capped}

-- a place inside RAM is told as it is
pub uncapped : (n r : ℕ) → r ≡ capped n → n ≤ 0x1_0000 → r ≡ n
uncapped n r e h = omega arith
