-- What number 0 says: of the checks 2 to 6 of a block, and of the writer's checks.
use Rattle.std.specs.Prelude.{◌≡◌, false, List, ℕ}
use Rattle.std.proofs.Common.{arith}
use Rattle.laws.specs.Lists.{Every, ◌and◌}
use Rattle.rules.specs.Refusals.{process_record_check, process_check, accepted, header_checks, process_checks, block_checks}
use Rattle.rules.specs.Writer.{Records, block_of, lists_unfit, buffer_too_short, writer_checks, writer_verdict}
use Rattle.accepted.specs.Checks.{Passes, Numbered, one_number, all_checks_pass, all_checks_accepted}

pub block_numbered : (b : List ℕ) → Every (Numbered 12) (block_checks b)
unfolding block_checks header_checks process_checks process_record_check process_check
block_numbered b = (omega arith) and (omega arith) and (omega arith) and (omega arith) and (λ i. one_number _ 6 12 (omega arith)) and tt

pub writer_numbered : (l : Records) (room : ℕ) → Every (Numbered 22) (writer_checks l room)
unfolding writer_checks process_checks process_record_check process_check
writer_numbered l room = (omega arith) and (omega arith) and (λ i. one_number _ 6 22 (omega arith)) and tt

-- what the writer's number 0 says: not 21, not 22, not 6
pub record Accepted (l : Records) (room : ℕ) : Type 0 where
  pub lists_fit : lists_unfit l ≡ false
  pub buffer_long : buffer_too_short l room ≡ false
  pub processes_fit : Every Passes (process_checks (block_of l))

pub accepts : (l : Records) (room : ℕ) → (writer_verdict l room).number ≡ 0 → Accepted l room
unfolding writer_verdict writer_checks
accepts l room e = let ps = (all_checks_pass 22 (writer_checks l room) (writer_numbered l room)).0 e in
    record { lists_fit = ps.0; buffer_long = ps.1.0; processes_fit = ps.1.1 }

-- with number 0 place and offset are 0 too
pub accepted_whole : (l : Records) (room : ℕ) → (writer_verdict l room).number ≡ 0 → writer_verdict l room ≡ accepted
unfolding writer_verdict
accepted_whole l room e =
    let cs = writer_checks l room in
    let ns = writer_numbered l room in
    all_checks_accepted 22 cs ns ((all_checks_pass 22 cs ns).0 e)
