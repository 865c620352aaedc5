use Rattle.std.proofs.Common.{◌≡◌, ℕ, ◌<◌, ◌≤◌, List, ◌++◌, length, take, drop, refl, arith, inl, inr, sym, ◌∙◌, ap, drop_at}
use Rattle.std.proofs.lemmas.List.{take-append-drop}
use Rattle.std.specs.Str.Pattern.{HasTextAt, LacksTextAt}
use Rattle.command_line.specs.declared.TheConstants.{AFTER}
use Rattle.command_line.proofs.words_in.Goals as goal

-- a line is what stands before a mark, the mark, and the rest
cut_at : (mark line words : List ℕ) (i j : ℕ) → HasTextAt mark line i j → words ≡ take i line → line ≡ words ++ (mark ++ drop j line)
cut_at mark line words i j mark_there before =
    sym (take-append-drop i line) ∙ ap (λ t. t ++ drop i line) (sym before) ∙ ap (λ t. words ++ t) mark_there.split

-- where no mark stands before index i, each stands there or later
first_from : (mark line : List ℕ) (i : ℕ) → ((k : ℕ) → k < i → LacksTextAt mark line k) → (xs ys : List ℕ) → line ≡ xs ++ (mark ++ ys) → i ≤ length xs
first_from mark line i lacks xs ys e =
    let there = ap (drop (length xs)) e ∙ drop_at xs (mark ++ ys) (length xs) refl in
    let no : length xs < i → ⊥ = λ h. lacks (length xs) h ys there in omega arith

pub returns-in-Some : goal.returns-in-Some
returns-in-Some c =
    let (i, j, (lacks, mark_there), before, _, _, long, _) = c.in-Some.ensures.cases in record {
      cut = inr (drop j c.args.line.now, cut_at _ _ _ i j mark_there before);
      first = λ xs ys e. let at_most = first_from AFTER.now c.args.line.now i lacks xs ys e in omega arith;
    }

pub returns-in-None : goal.returns-in-None
returns-in-None c = record {
  cut = inl refl;
  first = first_from AFTER.now c.args.line.now _ (λ k h. c.in-None.ensures.cases k (omega arith));
}
