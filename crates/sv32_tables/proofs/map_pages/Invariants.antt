use Rattle.std.proofs.Common.{◌+◌, ◌-◌, ◌%◌, ◌≤◌, max}
use Rattle.rules.specs.Entries.{page_entry}
use Rattle.stores.proofs.Written.{Written}
use Rattle.sv32_tables.specs.Filled.{nth_page}
use Rattle.sv32_tables.proofs.map_pages.Given as goal

-- so far the pages below index i are mapped
abbrev pub invariant-loop-i : goal.invariant-loop-i
invariant-loop-i l = record {
  to_end : l.i ≤ max (l.start - l.base) l.i-end;
  done : Written (λ k. page_entry (nth_page l.run.first.0 l.run.rises (l.base + k - l.start) % 0x40_0000) l.rights) (l.start - l.base) l.i l.initial.entries l.entries;
}
