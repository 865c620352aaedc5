-- How many bytes the program's buffers have.
use Rattle.std.specs.Prelude.{◌≡◌, refl}
use Rattle.flash_board.specs.declared.TheConstants.{RAM, FLASH}

-- RAM: twenty pages
pub ram_bytes : RAM ≡ 81920
ram_bytes = refl

-- the image
pub flash_bytes : FLASH ≡ 8256
flash_bytes = refl
