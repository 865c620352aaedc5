-- Refusal 6 at one process record of a list.
use Rattle.std.proofs.Common.{◌≡◌, ℕ, ◌+◌, ◌-◌, ◌/◌, ◌<◌, List, length, arith, sym, ◌∙◌, Some, None, Err}
use Rattle.laws.specs.Counts.{sum_none, sum_next}
use Rattle.types.specs.declared.Process.{Process}
use Rattle.rules.specs.Answers.{RecordCheck}
use Rattle.rules.specs.Block.{process_at}
use Rattle.rules.specs.Refusals.{process_record_check, accepted, first_record}
use Rattle.accepted.specs.InOrder.{scan_next, scan_stop}
use Rattle.refusals.specs.declared.Refused.{Refused}
use Rattle.refusals.specs.declared.RecordRefusal.{RecordRefusal}
use Rattle.refusals.specs.Answers.{check_of, refused_at, verdict_of}
use Rattle.refusals.proofs.Placed.{none_at, some_at}
use Rattle.block_writer.specs.Lists.{process_in, sections_before_in, check_in, process_refusal}

pub sections_none : (ws : List ℕ) → 0 ≡ sections_before_in ws 0
unfolding sections_before_in
sections_none ws = sym (sum_none _)

pub sections_next : (ws : List ℕ) (n : ℕ) → sections_before_in ws (n + 1) ≡ sections_before_in ws n + (process_in ws n).sections
unfolding sections_before_in
sections_next ws n = sum_next n _

pub offset_fits : (x : Process) (i p before s : ℕ) {r : RecordCheck} → r ≡ process_record_check x i p before s → i < 16 → r.offset < 0x1_0000_0000
unfolding process_record_check process_at
offset_fits x i p before s e h = rw e (omega arith)

-- the check of record i of p, where it was given the record and the sum before it
module _ (ws : List ℕ) (s i : ℕ) {p : ℕ} (all : p ≡ length ws / 4) (h : i < p) {before : ℕ} {x : Process} (r : RecordRefusal) (is : x ≡ process_in ws i)
    (sum : before ≡ sections_before_in ws i) (e : check_of r ≡ process_record_check x i p before s) where
  checked : check_of r ≡ check_in ws s i
  unfolding check_in
  checked = rw (← all, ← is, ← sum) e

  pub stops : (e : Refused) → r.offset < 0x1_0000_0000 → Some e ≡ refused_at r i → first_record (check_in ws s) i (p - i) accepted ≡ process_refusal ws s
      → verdict_of (Err e) ≡ process_refusal ws s
  unfolding verdict_of
  stops e near given rest =
      let told = some_at r i e near given in
      sym told.1 ∙ scan_stop (check_in ws s) accepted i p (check_of r) h checked told.0 ∙ rest

  pub goes_on : None ≡ refused_at r i → first_record (check_in ws s) i (p - i) accepted ≡ process_refusal ws s
      → first_record (check_in ws s) (i + 1) (p - (i + 1)) accepted ≡ process_refusal ws s
  goes_on given rest = scan_next (check_in ws s) accepted i p (check_of r) h checked (none_at r i given) ∙ rest
