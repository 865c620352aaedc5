-- Words kept in a lent slice.
use Rattle.std.specs.Prelude.{◌≡◌, List, ℕ}
use Rattle.text.specs.Text.{Appended}
use Rattle.record_texts.specs.declared.kept.Kept.{Kept}

-- `new` is `old` with the words put at its end, in the same slice
pub record Keeps (old : Kept) (words : List ℕ) (new : Kept) : Type 0 where
  pub same_slice : new.words.ghost_name ≡ old.words.ghost_name
  pub appended : Appended old.words.now old.end words new.words.now new.end
