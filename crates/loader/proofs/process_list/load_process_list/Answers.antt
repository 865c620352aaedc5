use Rattle.std.proofs.Common.{arith}
use Rattle.loader.proofs.ProcessWords.{list_fits, first_root, page_long, list_page}
use Rattle.loader.proofs.process_list.load_process_list.Goals as goal

pub slice_bounds-page-end : goal.slice_bounds-page-end
slice_bounds-page-end c = omega (arith, list_fits c.args.plan.now.fits c.requires.0 c.allocate-got.ensures.0 c.requires.1)

pub list_processes-requires : goal.list_processes-requires
list_processes-requires c =
    let fits = c.args.plan.now.fits in
    (first_root fits c.requires.0, page_long _ _ (list_fits fits c.requires.0 c.allocate-got.ensures.0 c.requires.1))

pub returns : goal.returns
returns c =
    let page = c.allocate-got.ensures in
    (page.1, list_page _ _ _ _ _ _ (list_fits c.args.plan.now.fits c.requires.0 page.0 c.requires.1) page.0 c.list_processes.ensures)
