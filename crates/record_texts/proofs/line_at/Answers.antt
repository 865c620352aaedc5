use Rattle.std.proofs.Common.{rules, refl, ◌∙◌, tests}
use Rattle.std.specs.List.{slice_split}
use Rattle.std.proofs.lemmas.Iterator.Consumers.{nth_from_yields_List}
use Rattle.std.proofs.lemmas.Iterator.Splits.{YieldsList-from_slice_split}
use Rattle.record_fields.proofs.Pieces.{now_or}
use Rattle.record_texts.specs.Texts.{line_feed, lines}
use Rattle.record_texts.proofs.Reading.{parts_get}
use Rattle.record_texts.proofs.line_at.Goals as goal

pub returns : goal.returns
unfolding lines line_feed
returns c =
    let all = nth_from_yields_List c.nth.result _ c.args.n c.nth.ensures.ran
    (YieldsList-from_slice_split _ line_feed _ c.split.ensures.rest c.split.ensures.done c.split.ensures.closure (λ x b q k. search (rules, tests))) in
    rw c.unwrap_or.ensures (now_or _ _ (slice_split line_feed c.without_mark.result.now) c.args.n refl all ∙ rw (parts_get, c.without_mark.ensures))
