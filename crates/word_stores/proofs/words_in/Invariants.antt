use Rattle.std.specs.Prelude.{◌*◌}
use Rattle.stores.proofs.Written.{Written}
use Rattle.word_stores.proofs.Words.{words_of}
use Rattle.word_stores.proofs.words_in.Given as goal

-- so far i words are stored
abbrev pub invariant-loop-i : goal.invariant-loop-i
invariant-loop-i l = Written (words_of l.words) 0 (4 * l.i) l.initial.to l.to
