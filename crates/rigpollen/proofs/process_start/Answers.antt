use Rattle.std.proofs.lemmas.Result.{err_from_is_err_and}
use Rattle.lent.specs.Lent.{image}
use Rattle.refusals.specs.Answers.{verdict_of}
use Rattle.rigpollen.proofs.Started.{process_refused, no_process, process_told}
use Rattle.rigpollen.proofs.process_start.Goals as goal

pub returns-in_err-check : goal.returns-in_err-check
unfolding verdict_of
returns-in_err-check c =
    let p = err_from_is_err_and c.from_residual.result c.from_residual.ensures.1 in
    rw (p.1, p.2) (process_refused (image c.args.image) c.args.ram c.args.q _ c.in_err-check.ensures)

pub returns-in_err-root : goal.returns-in_err-root
unfolding verdict_of
returns-in_err-root c =
    let p = err_from_is_err_and c.from_residual-in_err-root.result c.from_residual-in_err-root.ensures.1 in
    rw (p.1, p.2) (no_process (image c.args.image) c.args.ram c.args.q c.in_ok-check.ensures _ c.find_root.ensures c.in_err-root.ensures.value)

pub returns : goal.returns
unfolding verdict_of
returns c =
    process_told (image c.args.image) c.args.ram c.args.q c.in_ok-check.ensures c.in_ok-root.root c.find_root.ensures c.in_ok-root.ensures.value c.start_words.ensures
