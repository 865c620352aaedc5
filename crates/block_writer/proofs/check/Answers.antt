use Rattle.std.proofs.Common.{◌≡◌, false, sym, ◌∙◌}
use Rattle.rules.specs.Refusals.{refused}
use Rattle.rules.specs.Writer.{lists_unfit}
use Rattle.round_trips.specs.WrittenBlock.{bounded}
use Rattle.refusals.specs.Answers.{verdict_of}
use Rattle.block_writer.specs.Lists.{records_lent, Few}
use Rattle.block_writer.proofs.Answering.{refusal_6, few, verdict_21, verdict_22, verdict_6}
use Rattle.block_writer.proofs.check.Goals as goal
use Rattle.block_writer.proofs.check.Goals.{Else-unfit}

-- past 21
not_21 : (c : Else-unfit) → lists_unfit (records_lent c.args.lists) ≡ false
not_21 c = sym c.unfit.ensures ∙ c.if-unfit.false

few_words : (c : Else-unfit) → Few (records_lent c.args.lists)
few_words c = few (records_lent c.args.lists) (not_21 c)

pub returns-then-unfit : goal.returns-then-unfit
unfolding refused verdict_of
returns-then-unfit c = rw c.whole.ensures (verdict_21 _ _ (sym c.unfit.ensures ∙ c.if-unfit.true))

pub block_length-requires : goal.block_length-requires
block_length-requires c = few_words (goal.at.block_length-requires c).Else-unfit

pub returns-then-room-block_length : goal.returns-then-room-block_length
unfolding refused verdict_of
returns-then-room-block_length c =
    rw c.whole-then-room-block_length.ensures (verdict_22 _ _ (not_21 (goal.at.returns-then-room-block_length c).Else-unfit) (rw c.block_length.ensures at c.if-room-block_length.true))

pub check_process_records-requires : goal.check_process_records-requires
check_process_records-requires c = few_words (goal.at.check_process_records-requires c).Else-unfit

pub returns : goal.returns
returns c =
    let o = (goal.at.returns c).Else-unfit in
    let l = records_lent c.args.lists in
    c.check_process_records.ensures ∙ refusal_6 l (bounded l (not_21 o)) c.requires ∙ verdict_6 l _ (not_21 o) (rw c.block_length.ensures at c.if-room-block_length.false)
