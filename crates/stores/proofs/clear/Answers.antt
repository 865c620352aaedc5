use Rattle.stores.proofs.Written.{all_filled}
use Rattle.stores.proofs.clear.Goals as goal

pub returns : goal.returns
returns c = all_filled 0 _ (c.fill.ensures.after (λ y h. h))
