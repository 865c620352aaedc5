use Rattle.std.proofs.Common.{refl}
use Rattle.rules.specs.Lent.{memory_of}
use Rattle.rules.specs.Load.{answer}
use Rattle.report.proofs.load_listing.Goals as goal

pub list-requires : goal.list-requires
unfolding answer
list-requires c = c.load-answer.ensures.answer

pub returns : goal.returns
returns c = (c.load-answer.ensures.ram, c.list.ensures (memory_of c.args.start c.args.ram.now) refl)
