-- What the checks have shown before anything is written.
use Rattle.std.specs.Prelude.{◌≡◌, List, Bool, ℕ, ◌+◌, ◌*◌, ◌/◌, ◌%◌, ◌≤◌}
use Rattle.std.proofs.Common.{sym, ap, ◌∙◌}
use native.Mathlib.Omega.{arith}
use borrow.Author.Tests.{eqb-true, ltb-false, not-false}
use Rattle.types.specs.declared.Area.{Area}
use Rattle.types.specs.declared.PageRange.{PageRange}
use Rattle.rules.specs.Answers.{Verdict}
use Rattle.rules.specs.Lent.{Image, pages_in}
use Rattle.rules.specs.Block.{process_count}
use Rattle.rules.specs.InPlace.{xip_of}
use Rattle.rules.specs.Order.{pages_needed}
use Rattle.rules.specs.Refusals.{verdict, ram_unfit, outside, counts_outside, counts_out_of_bounds, ram_too_small}
use Rattle.laws.specs.Choice.{any_none}
use Rattle.accepted.specs.NoCause.{NoCause, no_cause}
use Rattle.accepted.specs.Sections.{Rising, rising}

-- an area is whole pages
pub record Whole (a : Area) : Type 0 where
  pub start_whole : 4096 * (a.start / 4096) ≡ a.start
  pub length_whole : 4096 * (a.length / 4096) ≡ a.length

-- RAM has these pages, ends within 32 bits, and has the pages that the block needs; the block has 1 to 16 processes, and the sections of
-- each rise
pub record Fits (b : List ℕ) (xip : ℕ → Bool) (ram : PageRange) : Type 0 where
  pub some_process : 1 ≤ process_count b
  pub few_processes : process_count b ≤ 16
  pub sections_rise : Rising b
  pub few_pages : ram.pages ≤ 4096
  pub end : ram.base + ram.pages ≤ 0x10_0000
  pub enough : pages_needed b xip ram.pages ≤ ram.pages

module _ (x : Image) (ram : Area) (ok : NoCause x ram) where
  pub whole : Whole ram
  unfolding ram_unfit
  whole =
      let l : ram.length % 4096 ≡ 0 = eqb-true _ _ (not-false _ (any_none _ ok.ram_fit 0)) in
      let s : ram.start % 4096 ≡ 0 = eqb-true _ _ (not-false _ (any_none _ ok.ram_fit 2)) in
      record { start_whole = omega arith; length_whole = omega arith }

  pub fits : Fits x.block (xip_of x) (pages_in ram)
  unfolding ram_unfit counts_out_of_bounds counts_outside outside ram_too_small
  fits =
      let e : ram.start + ram.length ≤ 0x1_0000_0000 = ltb-false 0x1_0000_0000 _ (any_none _ ok.ram_fit 3) in
      record {
        some_process = ltb-false _ _ (any_none _ (any_none _ ok.counts_in_bounds 0) 0);
        few_processes = ltb-false _ _ (any_none _ (any_none _ ok.counts_in_bounds 0) 1);
        sections_rise = rising x ram ok;
        few_pages = ltb-false _ _ (any_none _ ok.ram_fit 1);
        end = omega arith;
        enough = ltb-false _ _ ok.room;
      }

-- both, of RAM that lies here
pub record Accepted (b : List ℕ) (xip : ℕ → Bool) (ram : Area) : Type 0 where
  pub whole_pages : Whole ram
  pub room : Fits b xip (pages_in ram)

pub accepted : (x : Image) (ram : Area) (v : Verdict) → v ≡ verdict x ram → v.number ≡ 0 → Accepted x.block (xip_of x) ram
accepted x ram v e z =
    let ok : NoCause x ram = no_cause x ram (ap (λ (v : Verdict). v.number) (sym e) ∙ z) in
    record { whole_pages = whole x ram ok; room = fits x ram ok }
