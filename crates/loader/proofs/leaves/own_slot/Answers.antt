use Rattle.std.proofs.Common.{sym, eq-eqb, ne_eqb}
use Rattle.laws.specs.Choice.{choose_yes, choose_no}
use Rattle.accepted.specs.Sections.{own_slot}
use Rattle.loader.proofs.leaves.own_slot.Goals as goal

pub returns-then-q-eq1 : goal.returns-then-q-eq1
unfolding own_slot
returns-then-q-eq1 c = sym (choose_yes _ _ (eq-eqb c.args.q 1 c.if-q-eq1.true))

pub returns-else-q-eq1 : goal.returns-else-q-eq1
unfolding own_slot
returns-else-q-eq1 c = sym (choose_no _ _ (ne_eqb c.args.q 1 c.if-q-eq1.false))
