use Rattle.std.proofs.Common.{◌+◌, arith}
use Rattle.rules.specs.Order.{table_uses}
use Rattle.order_places.proofs.Capped.{uncapped}
use Rattle.writing.specs.Loaded.{any_gather_none, any_gather_next}
use Rattle.loader.proofs.LeafEntries.{walkable}
use Rattle.loader.proofs.TablePages.{kernel_at, next_place, tables_all}
use Rattle.loader.proofs.table_pages.load_tables.Goals as goal

pub loop-i-init : goal.loop-i-init
loop-i-init c =
    let fits = c.args.plan.now.fits in
    record {
      at_place = uncapped _ _ c.section_place-place.ensures (omega (arith, (walkable fits 1 (omega arith) fits.some_process).room));
      done = any_gather_none _ _ _;
    }

pub load_process_tables-next-requires : goal.load_process_tables-next-requires
load_process_tables-next-requires c = (
  kernel_at _ _ _ _ c.args.plan.now.fits c.requires c.allocate-root.ensures.1 c.allocate-leaf.ensures.0 c.physical-kernel_leaf.ensures,
  next_place _ _ _ _ _ c.requires c.loop-i.invariant.done,
)

pub loop-i-preserved : goal.loop-i-preserved
loop-i-preserved c = record {
  at_place = c.next_section_place-place.ensures;
  done = any_gather_next (λ i. table_uses _ (i + 1)) _ c.loop-i.invariant.done c.load_process_tables-next.ensures;
}

pub returns : goal.returns
returns c = tables_all _ _ _ _ _ (omega (arith, c.process_count-i-end.ensures)) c.loop-i.invariant.done
