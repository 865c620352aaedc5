-- The pages of a section that was read.
use Rattle.std.specs.Prelude.{◌≡◌, ◌&&◌, List, ℕ, ◌+◌, ◌-◌, ◌*◌, ◌%◌, get_or, leb, ltb}
use Rattle.notation.specs.Choice.{choose}
use Rattle.rules.specs.Lent.{image_of}
use Rattle.rules.specs.Block.{address, size, flash_offset_of, is_no_copy}
use Rattle.rules.specs.Contents.{section_page_byte}
use Rattle.block_records.specs.declared.Section.{Section}

-- byte k of page i of the section r, where f is flash: `section_page_byte`, by what was read of the record
unfoldable pub page_of : Section → List ℕ → ℕ → ℕ → ℕ
page_of r f i k =
    let at = 4096 * i + k in
    let offset = r.address % 4096 in
    choose r.no_copy 0 (choose (leb offset at && ltb at (offset + r.size)) (get_or f (r.flash_offset + (at - offset)) 0) 0)

-- it is that of section record n, where r has these four of its values
pub page_of_record : (b : List ℕ) (n : ℕ) (r : Section) (start : ℕ) (f : List ℕ) (i k : ℕ)
    → r.no_copy ≡ is_no_copy b n → r.address ≡ address b n → r.size ≡ size b n → r.flash_offset ≡ flash_offset_of b n
    → page_of r f i k ≡ section_page_byte (image_of b start f) n i k
unfolding page_of section_page_byte
page_of_record b n r start f i k c a s o = rw (c, a, s, o)
