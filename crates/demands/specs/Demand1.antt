-- DEMAND 1: "Whatever bytes arrive as block, flash and RAM, the loader ends with success or with one refusal of document 01, exactly
-- when 01 says. A refusal returns number, place and zero counts and leaves RAM untouched."
-- 02, A5: it returns the byte offset of its record in the block too. 02, A6: 13 is one of the refusals, after 1.
use Rattle.std.specs.Prelude.{◌≡◌, refl, ◌≢◌, ◌↔◌, ◌≤◌}
use Rattle.std.proofs.Common.{ne_eqb}
use Rattle.types.specs.declared.Area.{Area}
use Rattle.rules.specs.Answers.{Verdict, Answer}
use Rattle.rules.specs.Lent.{Image, Memory, memory_area}
use Rattle.rules.specs.Refusals.{refused, checks, verdict}
use Rattle.rules.specs.Load.{boots, refusal_answer, answer_on, answer, ram_after}
use Rattle.laws.specs.Choice.{choose_no}
use Rattle.laws.specs.Lists.{Every}
use Rattle.accepted.specs.Checks.{Passes, FirstCause, verdict_passes, verdict_refuses}
use Rattle.accepted.specs.Located.{Located, verdict_located}
use Rattle.accepted.specs.NoCause.{answer_verdict}

-- number 0 exactly where no cause holds
pub boots_where_no_cause_holds : (x : Image) (ram : Area) → ((verdict x ram).number ≡ 0) ↔ Every Passes (checks x ram)
boots_where_no_cause_holds x ram = verdict_passes x ram

-- else the number is one of 1 to 13, its cause holds of the record at its place and offset, and no earlier cause in 01's order does
pub refusal_is_first_cause : (x : Image) (ram : Area) → (verdict x ram).number ≢ 0
    → (1 ≤ (verdict x ram).number) × ((verdict x ram).number ≤ 13) × FirstCause (checks x ram) (verdict x ram)
refusal_is_first_cause x ram = verdict_refuses x ram

-- place and offset are those of the refused record; on success and for every number but 6 to 11 they are 0
pub place_and_offset : (x : Image) (ram : Area) → Located x.block (verdict x ram)
place_and_offset x ram = verdict_located x ram

-- number, place and offset of the answer are the verdict's, on success and in a refusal
pub answer_tells_verdict : (x : Image) (r : Memory) → refused (answer x r).number (answer x r).place (answer x r).offset ≡ verdict x (memory_area r)
unfolding answer
answer_tells_verdict x r = answer_verdict x (memory_area r)

-- a refusal's answer has its number, its place, its offset and three zero counts
pub record ZeroCounts (v : Verdict) (a : Answer) : Type 0 where
  pub number : a.number ≡ v.number
  pub place : a.place ≡ v.place
  pub taken : a.taken ≡ 0
  pub free : a.free ≡ 0
  pub tracker : a.tracker ≡ 0
  pub offset : a.offset ≡ v.offset

pub refusal_answer_lem : (x : Image) (r : Memory) → (verdict x (memory_area r)).number ≢ 0 → ZeroCounts (verdict x (memory_area r)) (answer x r)
unfolding answer answer_on refusal_answer
refusal_answer_lem x r h =
    let e : answer x r ≡ refusal_answer (verdict x (memory_area r)) = choose_no _ _ (ne_eqb _ 0 h) in
    rw e (record { number = refl; place = refl; taken = refl; free = refl; tracker = refl; offset = refl })

-- RAM after a refusal is RAM before
pub refusal_leaves_ram : (x : Image) (r : Memory) → (verdict x (memory_area r)).number ≢ 0 → ram_after x r ≡ r.bytes
unfolding ram_after boots
refusal_leaves_ram x r h = choose_no _ _ (ne_eqb _ 0 h)
