use Rattle.std.proofs.Common.{arith, ◌∙◌}
use Rattle.std.proofs.lemmas.Result.{err_from_is_err_and}
use Rattle.refusals.specs.Answers.{verdict_of}
use Rattle.block_writer.proofs.Answering.{word_lists, refuses, few_accepted, room_accepted, writes}
use Rattle.block_writer.proofs.write_block.Goals as goal

pub check-requires : goal.check-requires
check-requires c = word_lists _ (λ i. omega (arith, c.type_inv.processes i)) (λ i. omega (arith, c.type_inv.sections i)) (λ i. omega (arith, c.type_inv.regions i))

pub returns-in_err-check-clause-answer : goal.returns-in_err-check-clause-answer
unfolding verdict_of
returns-in_err-check-clause-answer c =
    let p = err_from_is_err_and c.from_residual.result c.from_residual.ensures.1 in rw (p.1, p.2) (refuses _ c.args.buffer.now _ c.in_err-check.ensures).0

pub returns-in_err-check-clause-buffer : goal.returns-in_err-check-clause-buffer
unfolding verdict_of
returns-in_err-check-clause-buffer c = (refuses _ _ _ c.in_err-check.ensures).1

pub store_block-requires-clause-few : goal.store_block-requires-clause-few
unfolding verdict_of
store_block-requires-clause-few c = few_accepted _ c.args.buffer.now c.in_ok-check.ensures

pub store_block-requires-clause-room : goal.store_block-requires-clause-room
unfolding verdict_of
store_block-requires-clause-room c = room_accepted _ _ c.in_ok-check.ensures

pub returns-clause-answer : goal.returns-clause-answer
unfolding verdict_of
returns-clause-answer c = rw c.store_block.ensures.length (writes _ _ c.in_ok-check.ensures).0

pub returns-clause-buffer : goal.returns-clause-buffer
unfolding verdict_of
returns-clause-buffer c = c.store_block.ensures.stored ∙ (writes _ _ c.in_ok-check.ensures).1
