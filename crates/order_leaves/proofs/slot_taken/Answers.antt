use Rattle.std.proofs.Common.{◌≡◌, true, false, ℕ, ◌+◌, rules, tests, arith}
use Rattle.std.proofs.lemmas.Iterator.{cases_from_any}
use Rattle.laws.specs.Searches.{falling, YieldsList-from_rev_range, exists_by_any_below}
use Rattle.rules.specs.Order.{slots_of, in_slots}
use Rattle.order_leaves.specs.TakenSlots.{slot_taken}
use Rattle.order_leaves.proofs.slot_taken.Goals as goal

pub returns : goal.returns
unfolding slot_taken in_slots slots_of
returns c =
    let range = YieldsList-from_rev_range 0 c.args.k c.args.k c.rev.ensures.source (omega arith) in
    let here = λ (j : ℕ). in_slots c.args.m (slots_of c.args.block.now (c.args.first + j)) in
    exists_by_any_below here _ (falling 0 c.args.k)
    (cases_from_any _ _ _ (λ j. here j ≡ true) (λ j. here j ≡ false) c.any.ensures.ran range
    (λ x q k. search (rules, tests)) (λ x q k. search (rules, tests)))
