use Rattle.notation.specs.Lists.{tab}
use Rattle.rules.specs.Space.{tracker_page}
use Rattle.rules.specs.Order.{holds}
use Rattle.loader.specs.Planned.{Loads}
use Rattle.loader.proofs.tracker.load_tracker.Given as goal

abbrev pub invariant-loop-i : goal.invariant-loop-i
invariant-loop-i l = Loads l.plan (tab l.i (λ i. holds (tracker_page i))) l.initial.ram l.initial.next.left l.ram l.next.left
