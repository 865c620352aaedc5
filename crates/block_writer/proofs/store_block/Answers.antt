use Rattle.std.proofs.Common.{refl}
use Rattle.rules.specs.Writer.{header_words}
use Rattle.block_writer.specs.Lists.{records_lent}
use Rattle.block_writer.proofs.Storing.{begun_none, begun_more, all_stored}
use Rattle.block_writer.proofs.store_block.Goals as goal

pub returns-clause-stored : goal.returns-clause-stored
unfolding header_words
returns-clause-stored c =
    let l = records_lent c.args.lists in
    let b₁ = begun_more c.header.result 32 (begun_none c.args.buffer.now) (rw c.header.ensures) c.put_words.ensures in
    let b₂ = begun_more l.processes _ b₁ refl c.put_words-2.ensures in
    let b₃ = begun_more l.sections _ b₂ refl c.put_words-3.ensures in
    let b₄ = begun_more l.regions _ b₃ refl c.put_words-4.ensures in
    all_stored l b₄ (rw (c.header.ensures, c.counts.ensures))
