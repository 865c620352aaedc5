use Rattle.std.proofs.Common.{◌≡◌, refl, ◌∙◌, Bool, true, false, arith}
use Rattle.std.specs.Int.{from_bool}
use Rattle.notation.specs.Choice.{choose}
use Rattle.stores.proofs.Written.{written_none, written_more, written_all}
use Rattle.xip_sections.specs.Marks.{mark_of, marks_of}
use Rattle.xip_sections.proofs.mark_sections.Goals as goal

pub loop-n-init : goal.loop-n-init
loop-n-init c = written_none _ _ _ _ refl

-- a test as a byte
from_bool_is : (b : Bool) → from_bool b ≡ choose b 1 0
unfolding choose
from_bool_is true = refl
from_bool_is false = refl

pub loop-n-preserved : goal.loop-n-preserved
unfolding mark_of
loop-n-preserved c = written_more c.loop-n.invariant _ refl (c.from.ensures ∙ rw c.in_place.ensures (from_bool_is _)) (omega arith)

pub returns : goal.returns
unfolding marks_of
returns c = written_all c.loop-n.invariant (omega arith)
