use Rattle.std.proofs.Common.{refl, arith}
use Rattle.stores.proofs.Written.{written_none}
use Rattle.page_allocator.proofs.PageAt.{page_inside}
use Rattle.loader.proofs.ProcessWords.{root_next, tables_fit, root_fits, satp_is, process_turn, list_end}
use Rattle.loader.proofs.process_list.list_processes.Goals as goal

pub loop-i-init : goal.loop-i-init
loop-i-init c = record { at_place = c.requires.0; done = written_none _ _ _ _ refl }

pub put_process-requires : goal.put_process-requires
put_process-requires c =
    let fits = c.args.plan.now.fits in
    omega (arith, page_inside _ _ _ c.page_at.ensures fits.end, root_fits fits _ (omega (arith, c.process_count-i-end.ensures)) c.loop-i.invariant.at_place, fits.end, fits.few_processes)

pub overflow_add-place : goal.overflow_add-place
overflow_add-place c =
    let fits = c.args.plan.now.fits in
    omega (arith, tables_fit fits _ (omega (arith, c.process_count-i-end.ensures)) c.loop-i.invariant.at_place c.table_count-place.ensures, fits.few_pages)

pub loop-i-preserved : goal.loop-i-preserved
loop-i-preserved c =
    let fits = c.args.plan.now.fits in
    let count = c.process_count-i-end.ensures in
    record {
      at_place = root_next fits _ c.loop-i.invariant.at_place c.table_count-place.ensures;
      done = process_turn _ _ _ c.loop-i.invariant.done
          (omega (arith, count, fits.few_processes, c.requires.1))
          (satp_is fits _ (omega (arith, count)) c.loop-i.invariant.at_place (page_inside _ _ _ c.page_at.ensures fits.end)) c.put_process.ensures;
    }

pub returns : goal.returns
returns c = list_end _ _ _ _ c.loop-i.invariant.done (omega (arith, c.process_count-i-end.ensures)) c.clear.ensures
