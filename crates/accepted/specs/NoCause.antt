-- Where a block boots, no cause of a refusal holds: each by its name.
use Rattle.std.specs.Prelude.{◌≡◌, refl, List, Bool, true, false, ℕ, suc, ◌<◌, length, eqb}
use Rattle.std.proofs.Math.Path.{sym}
use Rattle.std.proofs.Common.{arith, eqb-true}
use Rattle.notation.specs.Choice.{choose}
use Rattle.types.specs.declared.Area.{Area}
use Rattle.rules.specs.Answers.{Answer}
use Rattle.rules.specs.Lent.{Image, Memory, memory_area, pages_in}
use Rattle.rules.specs.Block.{process_count, section_count, region_count}
use Rattle.rules.specs.Refusals.{ram_unfit, flash_unfit, block_too_short, format_unknown, counts_out_of_bounds, layout_not_tight, process_unfit, section_unfit, section_misplaced, section_past_flash}
use Rattle.rules.specs.Refusals.{entry_point_outside, region_unfit, ram_too_small, process_record_check, process_check, section_refusal, section_check, entry_point_check, region_check, refused, accepted, lent_checks, header_checks, process_checks, block_checks, content_checks, checks, verdict}
use Rattle.rules.specs.Load.{boots, boot_answer, refusal_answer, answer_on}
use Rattle.laws.specs.Choice.{by_choose}
use Rattle.laws.specs.Lists.{Every}
use Rattle.accepted.specs.Checks.{Passes, verdict_passes, verdict_accepted}

-- 1 to 13
pub record NoCause (x : Image) (ram : Area) : Type 0 where
  pub ram_fit : ram_unfit ram ≡ false
  pub flash_fit : flash_unfit (memory_area x.flash) ram ≡ false
  pub block_long : block_too_short x.block ≡ false
  pub format_known : format_unknown x.block ≡ false
  pub counts_in_bounds : counts_out_of_bounds x.block ≡ false
  pub layout_tight : layout_not_tight x.block ≡ false
  pub process_fit : (i : ℕ) → i < process_count x.block → process_unfit x.block i ≡ false
  pub section_fit : (n : ℕ) → n < section_count x.block → section_unfit x.block n ≡ false
  pub section_placed : (n : ℕ) → n < section_count x.block → section_misplaced x.block n ≡ false
  pub section_in_flash : (n : ℕ) → n < section_count x.block → section_past_flash x.block (length x.flash.bytes) n ≡ false
  pub entry_point_inside : (i : ℕ) → i < process_count x.block → entry_point_outside x.block i ≡ false
  pub region_fit : (i : ℕ) → i < region_count x.block → region_unfit x.block (memory_area x.flash) ram i ≡ false
  pub room : ram_too_small x (pages_in ram).pages ≡ false

-- a number that is given where a test passes is not given
not_given : (c : Bool) (n m : ℕ) → choose c (suc n) m ≡ 0 → (c ≡ false) × (m ≡ 0)
unfolding choose
not_given true n m e = absurd (omega arith)
not_given false n m e = (refl, e)

none_of_7_8_9 : (b : List ℕ) (flash n : ℕ) → section_refusal b flash n ≡ 0
    → (section_unfit b n ≡ false) × (section_misplaced b n ≡ false) × (section_past_flash b flash n ≡ false)
unfolding section_refusal
none_of_7_8_9 b flash n e =
    let seven = not_given _ 6 _ e in
    let eight = not_given _ 7 _ seven.1 in
    (seven.0, eight.0, (not_given _ 8 0 eight.1).0)

-- the list of checks, taken apart: the one place that goes by position
from_checks : (x : Image) (ram : Area) → Every Passes (checks x ram) → NoCause x ram
unfolding checks lent_checks header_checks process_checks block_checks content_checks process_unfit process_record_check process_check section_check entry_point_check region_check
from_checks x ram (one, (thirteen, (two, (three, (four, (five, (six, (sections, (ten, (eleven, (twelve, end))))))))))) = record {
  ram_fit = one;
  flash_fit = thirteen;
  block_long = two;
  format_known = three;
  counts_in_bounds = four;
  layout_tight = five;
  process_fit = λ i h. (not_given _ 5 0 (six i h)).0;
  section_fit = λ n h. (none_of_7_8_9 x.block _ n (sections n h)).0;
  section_placed = λ n h. (none_of_7_8_9 x.block _ n (sections n h)).1;
  section_in_flash = λ n h. (none_of_7_8_9 x.block _ n (sections n h)).2;
  entry_point_inside = λ i h. (not_given _ 9 0 (ten i h)).0;
  region_fit = λ i h. (not_given _ 10 0 (eleven i h)).0;
  room = twelve;
}

pub no_cause : (x : Image) (ram : Area) → (verdict x ram).number ≡ 0 → NoCause x ram
no_cause x ram e = from_checks x ram ((verdict_passes x ram).0 e)

pub booted : (x : Image) (r : Memory) → boots x r ≡ true → NoCause x (memory_area r)
unfolding boots
booted x r e = no_cause x (memory_area r) (eqb-true (verdict x (memory_area r)).number 0 e)

-- number, place and offset of an answer are those of the verdict
module _ (x : Image) (ram : Area) where
  pub answer_number : (answer_on x ram).number ≡ (verdict x ram).number
  unfolding answer_on boot_answer refusal_answer
  answer_number = by_choose (λ (a : Answer). a.number ≡ (verdict x ram).number) (eqb (verdict x ram).number 0) _ _
      (λ e. sym (eqb-true (verdict x ram).number 0 e)) (λ _. refl)

  pub answer_verdict : refused (answer_on x ram).number (answer_on x ram).place (answer_on x ram).offset ≡ verdict x ram
  unfolding answer_on boot_answer refusal_answer refused accepted
  answer_verdict = by_choose (λ (a : Answer). refused a.number a.place a.offset ≡ verdict x ram) (eqb (verdict x ram).number 0) _ _
      (λ e. sym (verdict_accepted x ram (eqb-true (verdict x ram).number 0 e))) (λ _. refl)
