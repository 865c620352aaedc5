use Rattle.std.proofs.Common.{arith}
use Rattle.refusals.specs.Answers.{answer_of}
use Rattle.checks.proofs.Needed.{too_small, place_needed, room_enough, tracker_few}
use Rattle.checks.proofs.Answers.{no_room, boot_answer_is}
use Rattle.checks.proofs.room_answer.Goals as goal

pub returns-then-pages-needed : goal.returns-then-pages-needed
unfolding answer_of
returns-then-pages-needed c = rw c.whole.ensures (no_room _ _ _ (too_small _ _ _ _ _ c.process_count-after_all.ensures c.root_place-needed.ensures c.if-pages-needed.true))

pub overflow_cast-tracker : goal.overflow_cast-tracker
overflow_cast-tracker c =
    omega (arith, tracker_few _ _ _ _ _ c.process_count-after_all.ensures c.root_place-needed.ensures c.requires.0 c.if-pages-needed.false, c.tracker_pages-tracker.ensures.0)

pub returns : goal.returns
unfolding answer_of
returns c =
    boot_answer_is _ _ _ _ _
    (room_enough _ _ _ _ _ c.process_count-after_all.ensures c.root_place-needed.ensures c.requires.0 c.if-pages-needed.false)
    (place_needed _ _ _ _ _ c.process_count-after_all.ensures c.root_place-needed.ensures c.requires.0 c.if-pages-needed.false)
    c.tracker_pages-tracker.ensures.0
