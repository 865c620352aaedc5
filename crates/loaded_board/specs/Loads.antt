-- What a load makes a board of.
use Rattle.std.specs.Prelude.{◌≡◌, Result, Ok, Err}
use Rattle.rules.specs.Lent.{Image, Memory}
use Rattle.rules.specs.Load.{after}
use Rattle.lent.specs.Lent.{image, memory}
use Rattle.refusals.specs.declared.Boot.{Boot}
use Rattle.refusals.specs.declared.Refused.{Refused}
use Rattle.loaded_board.specs.declared.Board.{Board}

-- what the loader answered
abbrev pub load_answer : Result Board Refused → Result Boot Refused
load_answer (Ok b) = Ok b.boot
load_answer (Err e) = Err e

-- the board of an image, with RAM as the loader leaves it
pub record IsLoaded (x : Image) (r : Memory) (b : Board) : Type 0 where
  pub image_is : image b.image ≡ x
  pub ram_is : memory b.ram ≡ after x r
