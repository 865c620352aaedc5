use Rattle.std.proofs.Common.{◌≡◌, ap, ◌∙◌, ◌<◌, None, min, length, length-append, length-take, get_or, get_or-take, take, append-nil, lt-ltb, le-ltb, arith}
use Rattle.std.proofs.lemmas.List.{get_or_default}
use Rattle.std.proofs.lemmas.Iterator.{YieldsList, YieldsList-from_slice, YieldsList-from_take}
use Rattle.std.proofs.lemmas.Iterator.Consumers.{YieldsList-at, YieldsList-turn, YieldsList-end}
use Rattle.notation.specs.Lists.{tab}
use Rattle.laws.specs.Choice.{choose_yes, choose_no}
use Rattle.text.specs.Puts.{Puts}
use Rattle.text.proofs.Appended.{puts_then}
use Rattle.write_report.specs.Lines.{shown_byte, shown}
use Rattle.write_report.proofs.Shown.{shown_none, shown_next}
use Rattle.write_report.proofs.put_shown.Given as given
use Rattle.write_report.proofs.put_shown.Goals as goal
use Rattle.write_report.proofs.put_shown.Goals.{After-next}

module _ (c : After-next) where
  first_bytes : YieldsList given.iterator-loop-c.next_gives (λ x. x.now) c.into_iter-c-iterator.result (take 40 c.args.field.now)
  first_bytes = YieldsList-at c.into_iter-c-iterator.ensures.into_iter_gives
      (YieldsList-from_take 40 (YieldsList-at c.take-c-items.ensures.source (YieldsList-from_slice c.args.field.now (cc))) c.take-c-items.ensures.count)

  -- all of them are put
  all_put : c.next.result ≡ None → Puts c.args.out.now (tab (min 40 (length c.args.field.now)) (λ k. shown_byte (get_or c.args.field.now k 0))) c.loop-c.out
  all_put e =
      let n : length c.loop-c.yielded ≡ min 40 (length c.args.field.now) = (YieldsList-end first_bytes c.loop-c.yielded _ c.loop-c.yielded_by _ _ e c.next.ensures.steps).1 ∙ length-take 40 c.args.field.now in
      rw n at c.loop-c.invariant

pub loop-c-init : goal.loop-c-init
loop-c-init c = shown_none c.args.field.now _

pub loop-c-preserved : goal.loop-c-preserved
loop-c-preserved c =
    let t = YieldsList-turn (first_bytes (goal.at.loop-c-preserved c).After-next) c.loop-c.yielded _ c.loop-c.yielded_by _ _ c.in-Some.c c.in-Some.is c.next.ensures.steps in
    let h : length c.loop-c.yielded < min 40 (length c.args.field.now) = omega (arith, t.0, length-take 40 c.args.field.now) in
    let e = t.1 ∙ get_or-take 40 c.args.field.now _ _ (omega arith) ∙ get_or_default c.args.field.now (length c.loop-c.yielded) c.in-Some.c.now 0 (omega arith) in
    rw length-append (shown_next c.args.field.now _ _ c.loop-c.invariant (c.shown_byte.ensures ∙ ap shown_byte e) c.put.ensures)

pub returns-then-field-gt40 : goal.returns-then-field-gt40
unfolding shown
returns-then-field-gt40 c = rw (choose_yes _ _ (lt-ltb _ _ c.if-field-gt40.true)) (puts_then (all_put (goal.at.returns-then-field-gt40 c).After-next c.in-None.is) c.put-then-field-gt40.ensures)

pub returns-else-field-gt40 : goal.returns-else-field-gt40
unfolding shown
returns-else-field-gt40 c = rw (choose_no _ _ (le-ltb _ _ c.if-field-gt40.false), append-nil) (all_put (goal.at.returns-else-field-gt40 c).After-next c.in-None.is)
