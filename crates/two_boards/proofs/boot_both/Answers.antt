use Rattle.two_boards.proofs.FromTheorems.{two_boards}
use Rattle.std.proofs.Common.{rules}
use Rattle.two_boards.proofs.boot_both.Goals as goal

pub returns : goal.returns
returns c =
    two_boards _ _ _ _ _ _ _ _ _ (search rules) c.boot_one-first.ensures c.boot_one-second.ensures
