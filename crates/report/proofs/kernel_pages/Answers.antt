use Rattle.std.proofs.Common.{◌≡◌, ◌-◌, arith, ◌∙◌}
use Rattle.rules.specs.Block.{process_count}
use Rattle.xip_sections.specs.Marks.{marked}
use Rattle.report.proofs.Owned.{users_none, users_next}
use Rattle.report.proofs.kernel_pages.Goals as goal

pub loop-i-init : goal.loop-i-init
loop-i-init c = (omega arith, c.from-left.ensures ∙ users_none c.args.block.now.bytes.now (marked c.args.block.now.xip.now) _)

pub loop-i-preserved : goal.loop-i-preserved
loop-i-preserved c = (omega arith, users_next _ _ _ _ c.loop-i.auto.i c.loop-i.invariant.1 c.process_pages.ensures.0 c.saturating_sub-left.ensures)

pub returns : goal.returns
returns c =
    let all : c.loop-i.i - 1 ≡ process_count c.args.block.now.bytes.now - 1 = omega (arith, c.process_count-i-end.ensures, c.loop-i.invariant.0) in
    rw all at c.loop-i.invariant.1
