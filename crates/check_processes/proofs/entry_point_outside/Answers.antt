use Rattle.std.proofs.Common.{◌≡◌, true, false, ◌+◌, refl, rules, tests, arith}
use Rattle.std.proofs.lemmas.Iterator.{cases_from_any, YieldsList-from_range}
use Rattle.rules.specs.Block.{sections_of, section_record}
use Rattle.check_processes.proofs.EntryPoints.{enters, outside_by_any}
use Rattle.check_processes.proofs.entry_point_outside.Goals as goal

pub returns : goal.returns
unfolding section_record
returns c =
    let range = YieldsList-from_range 0 c.read_process_record-process.result.sections (sections_of c.args.block.now (c.args.i + 1)) refl (omega (arith, c.read_process_record-process.ensures.sections_of_is)) in
    outside_by_any c.args.block.now c.args.i _
    (cases_from_any _ _ _ (λ j. enters c.args.block.now c.args.i j ≡ true) (λ j. enters c.args.block.now c.args.i j ≡ false) c.any.ensures.ran range
    (λ x q k. search (rules, tests)) (λ x q k. search (rules, tests)))
