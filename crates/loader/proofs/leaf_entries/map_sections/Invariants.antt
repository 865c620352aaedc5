use Rattle.std.proofs.Common.{◌≡◌, ◌/◌, ◌≤◌, length}
use Rattle.rules.specs.Block.{sections_of}
use Rattle.loader.specs.Planned.{in_flash}
use Rattle.loader.proofs.LeafEntries.{Mapped}
use Rattle.loader.proofs.leaf_entries.map_sections.Given as goal

abbrev pub invariant-loop-j : goal.invariant-loop-j
invariant-loop-j l = record {
  inside : l.j ≤ sections_of l.leaf.share.plan.now.block.bytes.now l.leaf.share.q;
  size : length l.entries ≡ length l.initial.entries;
  mapped : Mapped l.leaf.share.plan.now.block.bytes.now (in_flash l.leaf.share.plan.now) (l.leaf.share.plan.now.flash_start / 4096) l.leaf.share.plan.now.range l.leaf.share.q l.leaf.slot l.j l.place l.entries;
}
