-- The block of lists that draw neither 21 nor 6 draws none of 2 to 6.
use Rattle.std.specs.Prelude.{◌≡◌, false, ℕ, length}
use Rattle.std.proofs.Math.Path.{refl}
use Rattle.std.proofs.Math.Bool.{true}
use Rattle.std.proofs.Common.{arith}
use Rattle.std.proofs.Math.Dec.{eqb}
use borrow.Author.Tests.{eq-eqb, le-ltb}
use Rattle.notation.specs.Choice.{any}
use Rattle.laws.specs.Choice.{any_none}
use Rattle.laws.specs.Lists.{Every, ◌and◌}
use Rattle.rules.specs.Block.{sections_at, regions_at, tight_length}
use Rattle.rules.specs.Block.{sections_from, regions_from, length_for}
use Rattle.rules.specs.Refusals.{block_too_short, format_unknown, counts_out_of_bounds, layout_not_tight}
use Rattle.rules.specs.Refusals.{header_checks, process_checks, block_checks, well_formed}
use Rattle.rules.specs.Writer.{Records, processes_in, sections_in, regions_in, block_of, lists_unfit}
use Rattle.accepted.specs.Checks.{Passes, all_checks_pass}
use Rattle.round_trips.specs.Accepting.{block_numbered}
use Rattle.round_trips.specs.WrittenBlock.{WordLists, Bounded, bounded, block_length, format_read, length_read, processes_read, process_offset_read, sections_read, section_offset_read, regions_read, region_offset_read}

module _ (l : Records) (ws : WordLists l) (lists : lists_unfit l ≡ false) (fit : Every Passes (process_checks (block_of l))) where
  ok : Bounded l
  ok = bounded l lists

  long_enough : block_too_short (block_of l) ≡ false
  unfolding block_too_short
  long_enough = le-ltb (length (block_of l)) 32 (omega (arith, block_length l ok))

  format_known : format_unknown (block_of l) ≡ false
  unfolding format_unknown
  format_known = rw (format_read l ok ws)

  counts_bounded : counts_out_of_bounds (block_of l) ≡ false
  unfolding counts_out_of_bounds lists_unfit
  counts_bounded = rw (processes_read l ok ws, sections_read l ok ws, regions_read l ok ws) (any_none _ lists 3)

  layout_tight : layout_not_tight (block_of l) ≡ false
  unfolding layout_not_tight sections_at regions_at tight_length any
  layout_tight =
      let same : (n : ℕ) → eqb n n ≡ true = λ n. eq-eqb n n refl in
      rw (
        process_offset_read l ok ws,
        section_offset_read l ok ws,
        region_offset_read l ok ws,
        length_read l ok ws,
        block_length l ok,
        processes_read l ok ws,
        sections_read l ok ws,
        regions_read l ok ws,
        same (sections_from (processes_in l)),
        same (regions_from (processes_in l) (sections_in l)),
        same (length_for (processes_in l) (sections_in l) (regions_in l)),
      )

  block_passes : Every Passes (block_checks (block_of l))
  unfolding block_checks header_checks
  block_passes = long_enough and format_known and counts_bounded and layout_tight and fit

  pub block_well_formed : well_formed (block_of l) ≡ true
  unfolding well_formed
  block_well_formed = eq-eqb _ 0 ((all_checks_pass 12 (block_checks (block_of l)) (block_numbered (block_of l))).1 block_passes)
