use Rattle.std.proofs.Common.{◌∙◌}
use Rattle.rules.specs.Block.{address, size, flash_offset_of, flags}
use Rattle.block_records.proofs.Sections.{section_is, first_word}
use Rattle.block_records.proofs.read_section.Goals as goal

pub returns : goal.returns
unfolding address size flash_offset_of flags
returns c =
    section_is
    (first_word _ _ _ _ c.section_offset.ensures c.four_words.ensures.first)
    (c.four_words.ensures.second ∙ c.section_offset.ensures 4)
    (c.four_words.ensures.third ∙ c.section_offset.ensures 8)
    (c.four_words.ensures.fourth ∙ c.section_offset.ensures 12)
    c.bit.ensures
    c.bit-2.ensures
    c.bit-3.ensures
    (rw (c.from.ensures, c.from-2.ensures))
    c.saturating_sub.ensures
    c.type_inv.block
