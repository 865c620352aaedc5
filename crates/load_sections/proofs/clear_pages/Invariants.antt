use Rattle.std.proofs.Common.{◌-◌, ◌≤◌}
use Rattle.load_sections.specs.Pages.{WrotePages}
use Rattle.load_sections.proofs.clear_pages.Given as goal

abbrev pub invariant-loop-next : goal.invariant-loop-next
invariant-loop-next l = (l.end ≤ l.next.left) × (l.next.left ≤ l.initial.next.left) × WrotePages (λ i o. 0) (l.initial.next.left - l.next.left) l.initial.ram l.initial.next.left l.ram l.next.left

abbrev pub decreases-loop-next : goal.decreases-loop-next
decreases-loop-next l = l.next.left - l.end
