use Rattle.std.proofs.Common.{rules}
use Rattle.text.proofs.Appended.{appended_at}
use Rattle.refusal_line.proofs.put_refused.Goals as goal

pub returns : goal.returns
returns c = appended_at _ _ _ _ _ c.min-end.ensures (search rules)
