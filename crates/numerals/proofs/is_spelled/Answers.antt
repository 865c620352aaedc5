use Rattle.std.proofs.Common.{rules, tests, ◌≡◌, sym, ◌∙◌}
use Rattle.std.specs.List.{list_all}
use Rattle.std.specs.Char.{is_digit}
use Rattle.std.proofs.lemmas.Iterator.{YieldsList-from_slice}
use Rattle.std.proofs.lemmas.Iterator.Search.{all_from_yields_List}
use Rattle.numerals.proofs.Digits.{radix_in, spelled_some}
use Rattle.numerals.proofs.is_spelled.Goals as goal

pub returns-then-not-is_empty : goal.returns-then-not-is_empty
returns-then-not-is_empty c =
    let all : c.all.result ≡ list_all (λ x. is_digit x c.radix-radix.result) c.args.text.now = all_from_yields_List (λ x. is_digit x c.radix-radix.result) _ _ c.all.result c.all.ensures.ran (YieldsList-from_slice c.args.text.now (cc)) (λ x b q k. search (rules, tests)) in
    all ∙ rw (← c.radix-radix.ensures) (spelled_some _ _ (radix_in _ _ c.radix-radix.ensures).1 (sym c.is_empty.ensures ∙ c.if-not-is_empty.true))
