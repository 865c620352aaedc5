use Rattle.std.proofs.Common.{◌≡◌, ◌-◌}
use Rattle.order_laws.specs.Places.{user_pages}
use Rattle.stores.proofs.Written.{Written}
use Rattle.loader.specs.Planned.{in_flash}
use Rattle.loader.proofs.TrackerBytes.{tracker_byte}
use Rattle.loader.proofs.tracker.track_owners.Given as goal

abbrev pub invariant-loop-i : goal.invariant-loop-i
invariant-loop-i l = record {
  at_end : l.end ≡ l.pages - 4 - user_pages l.plan.block.bytes.now (in_flash l.plan) l.i;
  done : Written (tracker_byte l.plan.block.bytes.now (in_flash l.plan) l.pages) l.end (l.pages - 4) l.initial.page l.page;
}
