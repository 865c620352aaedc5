-- 02, A6: the sections that are used in place (02: straight from flash), and take no RAM. `b` is the block's bytes, `flash` the image's.
use Rattle.std.specs.Prelude.{Bool, not, List, [], ◌∷◌, ℕ, ◌+◌, ◌-◌, ◌*◌, ◌/◌, ◌%◌, length, get_or, leb, ltb, eqb}
use Rattle.notation.specs.Choice.{all}
use Rattle.notation.specs.Lists.{exists}
use Rattle.rules.specs.Lent.{Image}
use Rattle.rules.specs.Block.{section_count, kind, owner_of, address, size, flash_offset_of, is_no_copy, writable}

-- the flash pages of section record n are those of the image, counted from its start, that hold a byte of it, as 7 leaves it one
-- (`in_place_exactly` in accepted/InPlace): where the first of them starts, and where the last ends
unfoldable pub flash_from : List ℕ → ℕ → ℕ
flash_from b n = 4096 * (flash_offset_of b n / 4096)

unfoldable pub flash_to : List ℕ → ℕ → ℕ
flash_to b n = 4096 * ((flash_offset_of b n + size b n - 1) / 4096 + 1)

-- the bytes from index `from` on, up to index `to`, are all 0
unfoldable pub zero_between : List ℕ → ℕ → ℕ → Bool
zero_between l from to = not (exists (λ k. not (eqb (get_or l (from + k) 0) 0)) (to - from))

-- section record n, one of the block's s, is used in place: it is of a user process of kind 1 and has neither NOCOPY nor writable, its
-- flash offset and its virtual address agree modulo 4,096, all its flash pages lie wholly in the image, and the bytes of those pages
-- outside the section, before it and after it, are zero. Otherwise it is copied
unfoldable pub in_place : List ℕ → List ℕ → ℕ → Bool
in_place b flash n = all
    (ltb n (section_count b)
    ∷ ltb 1 (owner_of b n)
    ∷ eqb (kind b (owner_of b n)) 1
    ∷ not (is_no_copy b n)
    ∷ not (writable b n)
    ∷ eqb (flash_offset_of b n % 4096) (address b n % 4096)
    ∷ leb (flash_to b n) (length flash)
    ∷ zero_between flash (flash_from b n) (flash_offset_of b n)
    ∷ zero_between flash (flash_offset_of b n + size b n) (flash_to b n)
    ∷ [])

-- the same of an image
abbrev pub xip_of : Image → ℕ → Bool
xip_of x = in_place x.block x.flash.bytes

-- all definitions of this file, to be unfolded as one
unfoldable pub in_place_rules : Unit {0}
unfolding flash_from flash_to zero_between in_place
in_place_rules = tt
