-- The answer by the pages alone, where section record n is used in place as `xip n` says.
use Rattle.std.specs.Prelude.{Bool, List, ℕ, length, eqb, ltb}
use Rattle.notation.specs.Choice.{choose}
use Rattle.types.specs.declared.Area.{Area}
use Rattle.rules.specs.Answers.{Answer}
use Rattle.rules.specs.Lent.{Image, memory_area, pages_in}
use Rattle.rules.specs.Order.{pages_needed}
use Rattle.rules.specs.Refusals.{refused, first_refusal}
use Rattle.rules.specs.Load.{refusal_answer, boot_answer}
use Rattle.xip_sections.specs.Marks.{marked, marks_of}
use Rattle.checks.specs.Scan.{checks_before12}

-- the answer where all but 12 are not given, on RAM of N pages
unfoldable pub room_answer : List ℕ → (ℕ → Bool) → ℕ → Answer
room_answer b xip N = choose (ltb N (pages_needed b xip N)) (refusal_answer (refused 12 0 0)) (boot_answer b xip N)

-- none but 12 is given
unfoldable pub passes_before12 : Image → Area → Bool
passes_before12 x ram = eqb (first_refusal (checks_before12 x.block (memory_area x.flash) ram)).number 0

-- the answer by k marks
unfoldable pub marked_answer : Image → Area → ℕ → Answer
marked_answer x ram k =
    choose (passes_before12 x ram) (room_answer x.block (marked (marks_of x.block x.flash.bytes k)) (pages_in ram).pages)
    (refusal_answer (first_refusal (checks_before12 x.block (memory_area x.flash) ram)))

-- the marks after the call
unfoldable pub marks_after : Image → Area → List ℕ → List ℕ
marks_after x ram xip = choose (passes_before12 x ram) (marks_of x.block x.flash.bytes (length xip)) xip
