use Rattle.slices.proofs.Parts.{word_joined}
use Rattle.slices.proofs.first_words.Goals as goal

pub returns : goal.returns
returns c =
    let l = c.args.s.now in
    record {
      first = word_joined l 0 c.from_le_bytes.ensures;
      second = word_joined l 4 c.from_le_bytes-2.ensures;
      third = word_joined l 8 c.from_le_bytes-3.ensures;
      fourth = word_joined l 12 c.from_le_bytes-4.ensures;
    }
