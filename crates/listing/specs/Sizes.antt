-- How many bytes the program's buffers have.
use Rattle.std.specs.Prelude.{◌≡◌, refl}
use Rattle.listing.specs.declared.TheConstants.{RAM, FLASH}

-- RAM: sixteen pages
pub ram_bytes : RAM ≡ 65536
ram_bytes = refl

-- a flash file at most
pub flash_bytes : FLASH ≡ 262144
flash_bytes = refl
