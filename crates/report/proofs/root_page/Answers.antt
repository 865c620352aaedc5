use Rattle.std.proofs.Common.{rules, ◌≡◌, Some, sym, ◌∙◌}
use Rattle.types.specs.declared.PhysPage.{PhysPage}
use Rattle.lent.specs.Lent.{image}
use Rattle.report.proofs.Owned.{root_is}
use Rattle.report.proofs.root_page.Goals as goal

some_same : (P P' : PhysPage) → Some P ≡ Some P' → P.0 ≡ P'.0
some_same P P' e = cc

pub unwrap-requires : goal.unwrap-requires
unwrap-requires c = rw (c.find_root.ensures ∙ root_is (image c.args.image) c.args.ram c.args.q c.requires.0 c.requires.1 c.requires.2) (search rules)

pub returns : goal.returns
returns c = some_same _ _ (sym c.unwrap.ensures ∙ c.find_root.ensures ∙ root_is (image c.args.image) c.args.ram c.args.q c.requires.0 c.requires.1 c.requires.2)
