use Rattle.std.proofs.Common.{ℕ, min, rules, tests, arith, ◌∙◌}
use Rattle.std.proofs.lemmas.Iterator.{YieldsList-from_range, YieldsList-from_map}
use Rattle.std.proofs.lemmas.Iterator.Consumers.{sum_from_yields_List, fits_from_yields_list}
use Rattle.rules.specs.Block.{section_record}
use Rattle.rules.specs.Order.{pages_taken}
use Rattle.xip_sections.specs.Marks.{marked}
use Rattle.laws.specs.Sums.{sum_of_range}
use Rattle.order_laws.specs.Places.{process_pages, pages_before}
use Rattle.order_places.proofs.ProcessPages.{sum_few}
use Rattle.order_places.proofs.process_pages.Goals as goal

pub sum-requires-clause-fits : goal.sum-requires-clause-fits
unfolding pages_taken section_record
sum-requires-clause-fits c =
    let pages = λ (j : ℕ). pages_taken c.args.block.now.bytes.now (marked c.args.block.now.xip.now) (section_record c.args.block.now.bytes.now c.args.q j) in
    let n = c.read_process-process.result.sections in
    fits_from_yields_list c.map.result _
    (YieldsList-from_map _ (λ j. min (pages j) 0x20_0000) (YieldsList-from_range 0 n n c.map.ensures.source (omega arith)) c.map.ensures.closure (λ x r q k. search (rules, tests)))
    (rw sum_of_range (omega (arith, sum_few pages n)))

pub returns : goal.returns
unfolding pages_taken section_record process_pages pages_before
returns c =
    let pages = λ (j : ℕ). pages_taken c.args.block.now.bytes.now (marked c.args.block.now.xip.now) (section_record c.args.block.now.bytes.now c.args.q j) in
    let n = c.read_process-process.result.sections in
    let items = YieldsList-from_range 0 n n c.map.ensures.source (omega arith) in
    let is = sum_from_yields_List c.map.result _ c.sum.ensures.ran (YieldsList-from_map _ pages items c.map.ensures.closure (λ x r q k. search (rules, tests)))
    ∙ sum_of_range _ n in
    let few = sum_from_yields_List c.map.result _ c.sum.ensures.ran
    (YieldsList-from_map _ (λ j. min (pages j) 0x20_0000) items c.map.ensures.closure (λ x r q k. search (rules, tests)))
    ∙ sum_of_range _ n in
    (rw c.read_process-process.ensures.sections_of_is at is, omega (arith, few, sum_few pages n))
