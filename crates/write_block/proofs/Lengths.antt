-- The length of the block that is written.
use Rattle.std.proofs.Common.{length, take, sym, length-take-le, ◌≡◌, ◌≤◌, Bool, true, false, ℕ, List, Some, None, eqb-true, ltb-false, arith, refl}
use Rattle.notation.specs.Choice.{choose}
use Rattle.rules.specs.Writer.{written, buffer_too_short, writer_verdict}
use Rattle.round_trips.specs.Accepting.{accepts}
use Rattle.write_report.specs.Replies.{length_from, records_from, at_fault}

-- where there is a length, no line is at fault and the number is 0
chosen : (fault none : Bool) (m n : ℕ) → choose fault None (choose none (Some m) None) ≡ Some n → (none ≡ true) × (m ≡ n)
unfolding choose
chosen true none m n e = absurd (cc)
chosen false true m n e = (refl, cc)
chosen false false m n e = absurd (cc)

-- it has room in its buffer
pub block_in_buffer : (t : List ℕ) (room n : ℕ) → length_from t room ≡ Some n → n ≤ room
unfolding length_from written buffer_too_short choose
block_in_buffer t room n e =
    let (zero, long) = chosen (at_fault t) _ _ n e in
    let tight = rw zero at long in
    let fits = ltb-false room _ (accepts (records_from t) room (eqb-true (writer_verdict (records_from t) room).number 0 zero)).buffer_long in
    omega arith

-- so many bytes of it are the block
pub block_part : (t : List ℕ) (room n : ℕ) (buffer : List ℕ) → length_from t room ≡ Some n → length buffer ≡ room → n ≡ length (take n buffer)
block_part t room n buffer e f = sym (length-take-le n buffer (let fits = block_in_buffer t room n e in omega arith))
