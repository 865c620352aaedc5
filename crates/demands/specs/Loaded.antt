-- RAM as the load leaves it, byte by byte and use by use.
use Rattle.std.specs.Prelude.{◌≡◌, refl, true, ℕ, ◌+◌, ◌*◌, ◌/◌, ◌%◌, ◌<◌, get_or}
use Rattle.std.proofs.Common.{◌∙◌}
use mathlib.Core.List.{List}
use Rattle.std.proofs.Math.Option.{some}
use native.Mathlib.Omega.{arith}
use Rattle.std.proofs.Math.ListN.{length}
use Rattle.rules.specs.Lent.{Image, Memory, memory_area, area_of, pages_in}
use Rattle.rules.specs.Block.{section_record}
use Rattle.rules.specs.Space.{section_page}
use Rattle.rules.specs.Order.{Use, use_of, ram_page}
use Rattle.rules.specs.Load.{page_byte, loaded, boots, ram_after}
use Rattle.rules.specs.InPlace.{xip_of}
use Rattle.laws.specs.Choice.{choose_yes, by_choose}
use Rattle.laws.specs.Lists.{tab_length, tab_get}
use Rattle.order_laws.specs.Uses.{InRam}
use Rattle.accepted.specs.NoCause.{NoCause, booted}
use Rattle.accepted.specs.InPlace.{InFlash, in_flash}
use Rattle.accepted.specs.Fits.{Whole, whole}
use Rattle.demands.specs.Mappings.{Flashed}

module _ (x : Image) (r : Memory) where
  abbrev N : ℕ
  N = (pages_in (memory_area r)).pages

  pub loaded_length : length (loaded x r) ≡ length r.bytes
  unfolding loaded
  loaded_length = tab_length _ _

  -- byte o of RAM page k
  pub loaded_byte : (k o : ℕ) → o < 4096 → 4096 * k + o < length r.bytes
      → get_or (loaded x r) (4096 * k + o) 0 ≡ page_byte x (xip_of x) (pages_in (memory_area r)) (use_of x.block (xip_of x) N k) (get_or r.bytes (4096 * k + o) 0) o
  unfolding loaded
  loaded_byte k o h l =
      let d : (4096 * k + o) / 4096 ≡ k = omega arith in
      let m : (4096 * k + o) % 4096 ≡ o = omega arith in
      tab_get _ _ _ 0 l ∙ rw (d, m)

  -- byte o of the page of a use
  pub loaded_use : Whole (memory_area r) → (u : Use) → InRam x.block (xip_of x) N u → (o : ℕ) → o < 4096
      → get_or (loaded x r) (4096 * ram_page x.block (xip_of x) N u + o) 0
      ≡ page_byte x (xip_of x) (pages_in (memory_area r)) (some u) (get_or r.bytes (4096 * ram_page x.block (xip_of x) N u + o) 0) o
  loaded_use whole u p o h =
      loaded_byte (ram_page x.block (xip_of x) N u) o h (omega (arith, p.inside, whole.length_whole)) ∙ rw p.used

  pub after_boot : boots x r ≡ true → ram_after x r ≡ loaded x r
  unfolding ram_after
  after_boot e = choose_yes _ _ e

  -- RAM keeps its length
  pub after_length : length (ram_after x r) ≡ length r.bytes
  unfolding ram_after
  after_length = by_choose (λ (l : List ℕ). length l ≡ length r.bytes) (boots x r) (loaded x r) r.bytes (λ _. loaded_length) (λ _. refl)

-- FLASH after a boot: the pages of sections that are used in place
pub flashed : (x : Image) (r : Memory) → boots x r ≡ true → (q j i : ℕ) → Flashed x.block (xip_of x) (section_page q j i)
    → InFlash x (area_of (4096 * (pages_in (memory_area r)).base) (length (loaded x r))) (section_record x.block q j) i
flashed x r boot q j i f =
    let ok : NoCause x (memory_area r) = booted x r boot in
    rw ((whole x (memory_area r) ok).start_whole, loaded_length x r) (in_flash x (memory_area r) ok q j i f.0 f.1 f.2 f.3 f.4)
