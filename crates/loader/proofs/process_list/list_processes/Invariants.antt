use Rattle.std.proofs.Common.{◌≡◌, ◌+◌, ◌*◌}
use Rattle.rules.specs.Load.{satp_word}
use Rattle.stores.proofs.Written.{Written}
use Rattle.loader.specs.Planned.{in_flash, root_at}
use Rattle.loader.proofs.ProcessWords.{list_byte}
use Rattle.loader.proofs.process_list.list_processes.Given as goal

abbrev pub invariant-loop-i : goal.invariant-loop-i
invariant-loop-i l = record {
  at_place : l.place ≡ root_at l.plan (l.i + 1);
  done : Written (list_byte l.plan.block.bytes.now (satp_word l.plan.block.bytes.now (in_flash l.plan) l.plan.range)) 0 (12 * l.i) l.initial.page l.page;
}
