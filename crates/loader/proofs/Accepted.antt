-- What the answer says of RAM.
use Rattle.std.proofs.Common.{◌≡◌, refl, sym, ap, ◌∙◌, ◌≢◌, List, ℕ, ◌/◌, eq-eqb, ne_eqb}
use Rattle.rules.specs.Answers.{Answer}
use Rattle.rules.specs.Lent.{Image, Memory, memory_area, pages_in}
use Rattle.rules.specs.InPlace.{xip_of}
use Rattle.rules.specs.Order.{pages_needed}
use Rattle.rules.specs.Refusals.{verdict}
use Rattle.rules.specs.Load.{loaded, boots, ram_after, boot_answer, answer_on, answer}
use Rattle.laws.specs.Choice.{choose_yes, choose_no}
use Rattle.accepted.specs.NoCause.{no_cause, answer_number}
use Rattle.accepted.specs.InPlace.{in_flash}
use Rattle.accepted.specs.Fits.{Accepted, accepted}
use Rattle.loader.specs.LeafEntries.{FlashNumbers}

module _ (x : Image) (r : Memory) (full : Answer) (e : full ≡ answer_on x (memory_area r)) where
  number_is : full.number ≡ (verdict x (memory_area r)).number
  number_is = ap (λ (a : Answer). a.number) e ∙ answer_number x (memory_area r)

  pub full_answer : full ≡ answer x r
  unfolding answer
  full_answer = e

  pub ram_kept : full.number ≢ 0 → r.bytes ≡ ram_after x r
  unfolding ram_after boots
  ram_kept n = sym (choose_no _ _ (ne_eqb _ 0 (λ z. n (number_is ∙ z))))

  pub ram_loaded : {bytes : List ℕ} → full.number ≡ 0 → bytes ≡ loaded x r → bytes ≡ ram_after x r
  unfolding ram_after boots
  ram_loaded z l = l ∙ sym (choose_yes _ _ (eq-eqb _ 0 (sym number_is ∙ z)))

  pub ram_accepted : full.number ≡ 0 → Accepted x.block (xip_of x) (memory_area r)
  ram_accepted z = accepted x (memory_area r) (verdict x (memory_area r)) refl (sym number_is ∙ z)

  pub taken_needed : full.number ≡ 0 → full.taken ≡ pages_needed x.block (xip_of x) (pages_in (memory_area r)).pages
  unfolding answer_on boot_answer
  taken_needed z = ap (λ (a : Answer). a.taken) (e ∙ choose_yes _ _ (eq-eqb _ 0 (sym number_is ∙ z)))

  pub flash_numbers : full.number ≡ 0 → FlashNumbers x.block (xip_of x) (x.flash.start / 4096)
  flash_numbers z = record {
    number = λ q j i lo hi hj e h. (in_flash x (memory_area r) (no_cause x (memory_area r) (sym number_is ∙ z)) q j i lo hi hj e h).number;
  }
