use Rattle.std.proofs.Common.{◌∙◌, sym, rules, tests, length-drop, arith}
use Rattle.std.proofs.Math.ListN.{drop_of_length-le}
use Rattle.std.proofs.lemmas.Iterator.{YieldsList-from_slice}
use Rattle.std.proofs.lemmas.Iterator.Search.{position_from_yields_List}
use Rattle.std.proofs.lemmas.List.{take_all}
use Rattle.record_fields.proofs.Fields.{plain}
use Rattle.record_fields.proofs.Pieces.{count_before_some, count_before_none}
use Rattle.record_fields.proofs.past_gap.Goals as goal

pub returns-in-Some : goal.returns-in-Some
returns-in-Some c =
    let p = position_from_yields_List plain _ _ c.position.result c.position.ensures.ran (YieldsList-from_slice c.args.text.now (cc)) (λ x b q k. search (rules, tests)) in
    let n = count_before_some plain _ _ (sym p ∙ c.in-Some.is) in
    take_all _ _ (omega (arith, length-drop c.in-Some.start c.args.text.now)) ∙ rw n

pub returns-in-None : goal.returns-in-None
returns-in-None c =
    let p = position_from_yields_List plain _ _ c.position.result c.position.ensures.ran (YieldsList-from_slice c.args.text.now (cc)) (λ x b q k. search (rules, tests)) in
    sym (drop_of_length-le c.args.text.now (count_before_none plain _ (sym p ∙ c.in-None.is)))
