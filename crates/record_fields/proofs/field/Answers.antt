use Rattle.std.proofs.Common.{◌≡◌, ◌∙◌, sym, drop, length-drop, rules, tests, arith}
use Rattle.std.proofs.lemmas.Iterator.{YieldsList-from_slice}
use Rattle.std.proofs.lemmas.Iterator.Search.{position_from_yields_List}
use Rattle.std.proofs.lemmas.List.{take_all}
use Rattle.record_fields.specs.Fields.{separator, hash, fields}
use Rattle.record_fields.proofs.Fields.{field_first, field_next, field_none, field_here}
use Rattle.record_fields.proofs.Pieces.{count_before_some, count_before_none}
use Rattle.record_fields.proofs.field.Goals as goal

pub loop-init : goal.loop-init
unfolding hash
loop-init c = field_first _ _ (rw c.before-2.ensures at c.past_gap-rest.ensures)

pub returns-in-None : goal.returns-in-None
unfolding fields
returns-in-None c =
    let p = position_from_yields_List separator _ _ c.position.result c.position.ensures.ran (YieldsList-from_slice c.loop.rest.now (cc)) (λ x b q k. search (rules, tests)) in
    field_none _ _ _ _ c.loop.invariant (count_before_none separator _ (sym p ∙ c.in-None.is)) c.loop-test.true

pub loop-preserved : goal.loop-preserved
loop-preserved c =
    let p = position_from_yields_List separator _ _ c.position.result c.position.ensures.ran (YieldsList-from_slice c.loop.rest.now (cc)) (λ x b q k. search (rules, tests)) in
    let d = take_all _ (drop c.in-Some.end c.loop.rest.now) (omega (arith, length-drop c.in-Some.end c.loop.rest.now)) in
    field_next _ _ _ _ _ _ c.loop.invariant (count_before_some separator _ _ (sym p ∙ c.in-Some.is)) d c.past_gap-rest-in-Some.ensures

pub returns : goal.returns
unfolding fields
returns c =
    let e : c.loop.counter ≡ c.args.n = omega arith in
    c.word.ensures ∙ rw (field_here _ _ _ c.loop.invariant, e)
