-- How many bytes the program's buffers have.
use Rattle.std.specs.Prelude.{◌≡◌, refl}
use Rattle.worked_examples.specs.declared.TheConstants.{RAM}

-- RAM: sixteen pages
pub ram_bytes : RAM ≡ 65536
ram_bytes = refl
