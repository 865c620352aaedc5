use Rattle.std.proofs.Common.{rules, tests, arith}
use Rattle.std.proofs.lemmas.Iterator.Search.{find_from_yields_List}
use Rattle.rules.specs.Block.{has_section}
use Rattle.laws.specs.Searches.{YieldsList-from_rev_range}
use Rattle.section_owners.proofs.Owners.{owner_found}
use Rattle.section_owners.proofs.owner_of.Goals as goal

pub returns : goal.returns
returns c =
    owner_found _ _ _ _ c.find.result c.process_count.ensures
    (find_from_yields_List (has_section c.args.block.now c.args.n) _ _ _ c.find.ensures.ran (YieldsList-from_rev_range 0 c.process_count.result c.process_count.result c.rev.ensures.source (omega arith)) (λ x b q k. search (rules, tests)))
    c.map_or.ensures
    (λ i k. search rules)
