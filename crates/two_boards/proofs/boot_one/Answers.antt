use Rattle.std.proofs.Common.{rules}
use Rattle.rules.specs.Lent.{memory_of}
use Rattle.lent.specs.Lent.{image}
use Rattle.two_boards.proofs.FromTheorems.{one_board}
use Rattle.two_boards.proofs.boot_one.Goals as goal

pub returns : goal.returns
returns c =
    one_board (image c.args.image) (memory_of _ c.args.ram.now) _ _ _ _ _ _ (search rules) c.find_root-root.ensures
    c.load-answer.ensures.answer c.load-answer.ensures.ram c.seen_at-seen.ensures
