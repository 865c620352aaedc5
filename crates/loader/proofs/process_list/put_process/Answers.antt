use Rattle.loader.specs.StartWords.{start_words}
use Rattle.loader.proofs.ProcessWords.{three_words, satp_small}
use Rattle.loader.proofs.process_list.put_process.Goals as goal

pub returns : goal.returns
unfolding start_words
returns c =
    let words = c.start_words.ensures in
    three_words _ _ c.put_word.ensures c.put_word-2.ensures c.put_word-3.ensures (satp_small _ _ _ c.requires.1 c.requires.2 (rw words)) (rw words) (rw words)
