use Rattle.two_boards.proofs.FromTheorems.{seen_by_way}
use Rattle.two_boards.proofs.seen_at.Goals as goal

pub returns-in-Some : goal.returns-in-Some
returns-in-Some c = seen_by_way _ _ _ _ _ c.in-Some.is c.seen_from.ensures
