-- Text put at the end of the text in a lent buffer.
use Rattle.std.specs.Prelude.{◌≡◌, List, ℕ}
use Rattle.text.specs.Text.{Appended}
use Rattle.text.specs.declared.Out.{Out}

-- `new` is `old` with the text t put at its end, in the same buffer
pub record Puts (old : Out) (t : List ℕ) (new : Out) : Type 0 where
  pub same_buffer : new.buffer.ghost_name ≡ old.buffer.ghost_name
  pub appended : Appended old.buffer.now old.end t new.buffer.now new.end
