use Rattle.std.proofs.Common.{◌≡◌, ◌-◌, ◌≤◌}
use Rattle.order_laws.specs.Places.{user_pages}
use Rattle.xip_sections.specs.Marks.{marked}
use Rattle.report.proofs.kernel_pages.Given as goal

-- the range is empty where there is no process: then i is not at most its end
abbrev pub invariant-loop-i : goal.invariant-loop-i
invariant-loop-i l = (l.i - 1 ≤ l.i-end - 1) × (l.left ≡ l.taken - user_pages l.block.bytes.now (marked l.block.xip.now) (l.i - 1))
