use Rattle.std.proofs.Common.{refl, arith}
use Rattle.order_laws.specs.Places.{user_pages_none}
use Rattle.stores.proofs.Written.{written_none}
use Rattle.loader.specs.Planned.{in_flash}
use Rattle.loader.proofs.TrackerBytes.{users_fit, user_fits, track_turn, track_end, first_page}
use Rattle.loader.proofs.tracker.track_owners.Goals as goal

pub overflow_sub-end : goal.overflow_sub-end
overflow_sub-end c =
    let plan = c.args.plan.now in
    omega (arith, users_fit 0 plan.fits plan.needed_is (omega arith), plan.fits.enough)

pub loop-i-init : goal.loop-i-init
loop-i-init c =
    let plan = c.args.plan.now in
    record { at_end = omega (arith, user_pages_none plan.block.bytes.now (in_flash plan)); done = written_none _ _ _ _ refl }

pub overflow_cast-start : goal.overflow_cast-start
overflow_cast-start c =
    let plan = c.args.plan.now in
    omega (arith, user_fits _ plan.fits plan.needed_is (omega (arith, c.process_count-i-end.ensures)) c.process_pages.ensures.0, plan.fits.few_pages)

pub overflow_sub-start : goal.overflow_sub-start
overflow_sub-start c =
    let plan = c.args.plan.now in
    omega (arith, user_fits _ plan.fits plan.needed_is (omega (arith, c.process_count-i-end.ensures)) c.process_pages.ensures.0)

pub loop-i-preserved : goal.loop-i-preserved
loop-i-preserved c =
    let plan = c.args.plan.now in
    let turn = track_turn plan.fits plan.needed_is (omega (arith, c.process_count-i-end.ensures)) c.loop-i.invariant.at_end c.loop-i.invariant.done c.process_pages.ensures.0 refl c.fill-in-loop-i.ensures in
    record { at_end = turn.0; done = turn.1 }

pub returns : goal.returns
returns c =
    let plan = c.args.plan.now in
    first_page _ _ _ 0 _ refl (track_end _ plan.fits plan.needed_is c.clear.ensures c.fill.ensures c.loop-i.invariant.at_end (omega (arith, c.process_count-i-end.ensures)) c.loop-i.invariant.done)
