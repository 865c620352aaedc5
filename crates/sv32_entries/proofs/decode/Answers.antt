use Rattle.std.proofs.Common.{◌%◌, ◌/◌, ◌≡◌, ◌≢◌, arith, refl, eq-eqb, ne_eqb}
use Rattle.notation.specs.Choice.{choose}
use Rattle.rules.specs.Entries.{decode}
use Rattle.sv32_entries.proofs.Flags.{valid_is_odd, access_is}
use Rattle.sv32_entries.proofs.decode.Goals as goal

pub returns-then-e-eq-RESERVED : goal.returns-then-e-eq-RESERVED
unfolding decode choose
returns-then-e-eq-RESERVED c = rw c.if-e-eq-RESERVED.true refl

pub returns-then-e-eq0 : goal.returns-then-e-eq0
unfolding decode choose
returns-then-e-eq0 c = let h : c.args.e % 2 ≡ 0 = omega (arith, valid_is_odd c.args.e) in simp (eq-eqb _ _ h, ne_eqb _ _ c.if-e-eq-RESERVED.false)

pub returns-then-e-eq0-2 : goal.returns-then-e-eq0-2
unfolding decode choose
returns-then-e-eq0-2 c =
    let h : c.args.e % 2 ≢ 0 = omega (arith, valid_is_odd c.args.e) in
    let a : c.args.e / 2 % 8 ≡ 0 = omega (arith, access_is c.args.e) in
    simp (ne_eqb _ _ h, eq-eqb _ _ a)

pub returns-else-e-eq0-2 : goal.returns-else-e-eq0-2
unfolding decode choose
returns-else-e-eq0-2 c =
    let h : c.args.e % 2 ≢ 0 = omega (arith, valid_is_odd c.args.e) in
    let a : c.args.e / 2 % 8 ≢ 0 = omega (arith, access_is c.args.e) in
    simp (ne_eqb _ _ h, ne_eqb _ _ a, c.rights_of.ensures)
