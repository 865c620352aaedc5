use Rattle.std.proofs.Common.{ℕ, ◌+◌, rules, tests, arith, ◌∙◌}
use Rattle.std.proofs.lemmas.Iterator.{YieldsList-from_range, YieldsList-from_map}
use Rattle.std.proofs.lemmas.Iterator.Consumers.{sum_from_yields_List, fits_from_yields_list}
use Rattle.rules.specs.Block.{sections_of}
use Rattle.rules.specs.Refusals.{sections_before}
use Rattle.laws.specs.Sums.{sum_of_range, sum_at_most}
use Rattle.block_records.proofs.Sections.{word_small}
use Rattle.check_processes.proofs.sections_before.Goals as goal

pub sum-requires-clause-fits : goal.sum-requires-clause-fits
unfolding sections_of
sum-requires-clause-fits c =
    let count = λ (i : ℕ). sections_of c.args.block.now (i + 1) in
    let all = sum_at_most count (λ i. word_small _ _ c.type_inv.block) c.args.n in
    fits_from_yields_list c.map.result _
    (YieldsList-from_map _ count (YieldsList-from_range 0 c.args.n c.args.n c.map.ensures.source (omega arith)) c.map.ensures.closure (λ x r q k. search (rules, tests)))
    (rw sum_of_range (omega (arith, all)))

pub returns : goal.returns
unfolding sections_of sections_before
returns c =
    let count = λ (i : ℕ). sections_of c.args.block.now (i + 1) in
    let is = sum_from_yields_List c.map.result _ c.sum.ensures.ran
    (YieldsList-from_map _ count (YieldsList-from_range 0 c.args.n c.args.n c.map.ensures.source (omega arith)) c.map.ensures.closure (λ x r q k. search (rules, tests)))
    ∙ sum_of_range _ c.args.n in
    (is, rw is (sum_at_most _ (λ i. word_small _ _ c.type_inv.block) c.args.n))
