-- How many bytes the program's buffers have.
use Rattle.std.specs.Prelude.{◌≡◌, refl}
use Rattle.write_block.specs.declared.TheConstants.{TEXT}

-- a text of records at most
pub text_bytes : TEXT ≡ 262144
text_bytes = refl
