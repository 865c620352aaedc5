use Rattle.std.proofs.Common.{◌≡◌, refl, true, false}
use Rattle.notation.specs.Choice.{choose}
use Rattle.laws.specs.Choice.{by_test}
use Rattle.rules.specs.Space.{kernel_read, kernel_write}
use Rattle.loader.proofs.leaf_entries.kernel_rights.Goals as goal

pub returns : goal.returns
unfolding choose kernel_read kernel_write
returns c =
    by_test (λ w. record { read = true; write = w; execute = false; user = false } ≡ choose w kernel_write kernel_read) c.args.write (λ _. refl) (λ _. refl)
