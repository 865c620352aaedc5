use Rattle.std.proofs.Common.{rules, tests, arith, refl, ap, ◌∙◌, ◌≡◌, ◌<◌, ℕ, List, length, length-append, get_or, Some, None, [], ◌∷◌}
use Rattle.std.specs.Slice.Iter.{split_inclusive_rest}
use Rattle.std.proofs.lemmas.Iterator.{YieldsList}
use Rattle.std.proofs.lemmas.Iterator.Consumers.{YieldsList-turn, YieldsList-end}
use Rattle.record_fields.specs.Fields.{before}
use Rattle.record_texts.specs.Texts.{line_feed, lines}
use Rattle.record_texts.proofs.Held.{keeps_all}
use Rattle.record_texts.proofs.Reading.{YieldsList-from_parts, few_lines, reading_none, reading_next, reading_fault, reading_end, Done}
use Rattle.record_texts.proofs.read_records.Given as given
use Rattle.record_texts.proofs.read_records.Goals as goal
use Rattle.record_texts.proofs.read_records.Goals.{After-next, in-None, in-Some+in-Err}

pub loop-line-init : goal.loop-line-init
loop-line-init c = (refl, refl, reading_none _ _ _ _)

-- what `next` gives: the line after those that are read, or none
module _ (c : After-next) where
  all_lines : YieldsList given.iterator-loop-line.next_gives (λ x. before line_feed x.now) c.into_iter-line-iterator.result (lines c.args.text.now)
  unfolding lines line_feed
  all_lines = YieldsList-from_parts _ line_feed _ (ap split_inclusive_rest c.into_iter-line-iterator.ensures.into_iter_gives ∙ c.split_inclusive-line-items.ensures.rest ∙ c.without_mark.ensures) c.split_inclusive-line-items.ensures.closure (λ x b q k. search (rules, tests))

  turn : (x : _) (line : List ℕ) → c.next.result ≡ Some x → line ≡ before line_feed x.now
      → (c.loop-line.lines < length (lines c.args.text.now)) × (line ≡ get_or (lines c.args.text.now) c.loop-line.lines line)
  turn x line e l = rw (c.loop-line.invariant.0, l) (YieldsList-turn all_lines c.loop-line.yielded _ c.loop-line.yielded_by _ _ x e c.next.ensures.steps)

  last : c.next.result ≡ None → c.loop-line.lines ≡ length (lines c.args.text.now)
  last e = c.loop-line.invariant.0 ∙ (YieldsList-end all_lines c.loop-line.yielded _ c.loop-line.yielded_by _ _ e c.next.ensures.steps).1

pub overflow_add-lines : goal.overflow_add-lines
unfolding line_feed
overflow_add-lines c = omega (arith, (turn (goal.at.overflow_add-lines c).After-next _ _ c.in-Some.is c.before-in-loop-line.ensures).0, few_lines c.args.text.now)

pub loop-line-preserved : goal.loop-line-preserved
unfolding line_feed
loop-line-preserved c =
    let t = turn (goal.at.loop-line-preserved c).After-next _ _ c.in-Some.is c.before-in-loop-line.ensures in
    let p = c.put_record.ensures in (
      omega (arith, c.loop-line.invariant.0, length-append c.loop-line.yielded (c.in-Some.line ∷ [])),
      c.loop-line.invariant.1,
      reading_next _ _ _ _ c.loop-line.invariant.2 t.0 _ t.1 _ c.in-Ok.ensures refl p.0 p.1 p.2,
    )

pub returns : goal.returns
unfolding line_feed
returns c =
    let d : Done c.args.text.now c.new-processes.result c.new-sections.result c.new-regions.result c.loop-line.lines c.match-next.fault c.loop-line.processes c.loop-line.sections c.loop-line.regions = elim c.match-next.branch [
      | in-None w ↦ rw (w.fault-is, c.loop-line.invariant.1) (reading_end _ _ _ _ c.loop-line.invariant.2 (last (goal.at.returns c).After-next w.in-None.is))
      | in-Some+in-Err w ↦
          let t = turn (goal.at.returns c).After-next _ _ w.in-Some.is w.before-in-loop-line.ensures in
          rw w.fault-is (reading_fault _ _ _ _ c.loop-line.invariant.2 t.0 _ t.1 _ w.in-Err.ensures refl)
    ] in
    let p = keeps_all c.new-processes.ensures.same_words c.new-processes.ensures.none d.2 in
    let s = keeps_all c.new-sections.ensures.same_words c.new-sections.ensures.none d.3 in
    let r = keeps_all c.new-regions.ensures.same_words c.new-regions.ensures.none d.4 in
    (d.0, d.1, search rules, search rules, search rules)
