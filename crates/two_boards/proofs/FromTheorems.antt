-- The promises of one call and of two, from the theorems.
use Rattle.std.proofs.Common.{◌≡◌, Option, Some, None, Result, sym, ap, ◌∙◌, true, ◌&&◌, List, eqb, eq-eqb, eqb-true, le-leb, ℕ, ◌≤◌, ◌<◌}
use Rattle.notation.specs.Choice.{choose}
use Rattle.types.specs.declared.PhysPage.{PhysPage}
use Rattle.rules.specs.Answers.{Answer}
use Rattle.types.specs.declared.View.{View}
use Rattle.rules.specs.Lent.{Image, Memory, memory_of, memory_area}
use Rattle.rules.specs.Block.{process_count}
use Rattle.rules.specs.Refusals.{verdict}
use Rattle.rules.specs.Load.{boots, ram_after, after, answer}
use Rattle.rules.specs.Sees.{seen_from, root_of, process_sees}
use Rattle.laws.specs.Choice.{and_both, choose_yes, choose_map}
use Rattle.accepted.specs.NoCause.{answer_number}
use Rattle.demands.specs.Demand2.{sees_what_the_rules_give, sees_exactly, stack_seen, flash_byte_seen, one_owner_one_virtual_page, pages_add_up}
use Rattle.demands.specs.Demand3.{SameOnBoth, boots_on_larger_ram, same_on_both}
use Rattle.refusals.specs.declared.Boot.{Boot}
use Rattle.refusals.specs.declared.Refused.{Refused}
use Rattle.refusals.specs.Answers.{answer_of}
use Rattle.order_roots.specs.Roots.{is_process, root_found}
use Rattle.two_boards.specs.declared.Board.{Board}
use Rattle.two_boards.specs.Promise.{seen_at, seen_after, OneBoard, TwoBoards}

is_process_lem : (b : List ℕ) (q : ℕ) → 1 ≤ q → q ≤ process_count b → is_process b q ≡ true
unfolding is_process
is_process_lem b q lo hi = rw (le-leb 1 q lo, le-leb q (process_count b) hi)

pub seen_by_way : (root : Option PhysPage) (P : PhysPage) (ram flash : Memory) (a : ℕ) {v : View} → root ≡ Some P → v ≡ seen_from ram flash P.0 a → v ≡ seen_at root ram flash a
seen_by_way root P ram flash a e s = rw e s

module _ (x : Image) (r : Memory) where
  -- the root that was found, and what is seen by way of it
  found_seen : (exit : List ℕ) (q a : ℕ) (root : Option PhysPage) → root ≡ root_found x (memory_area r) q → exit ≡ ram_after x r
      → seen_at root (memory_of r.start exit) x.flash a ≡ seen_after x r q a
  unfolding root_found seen_after boots process_sees root_of
  found_seen exit q a root e l =
      rw (e, l) (choose_map (λ (x' : Option PhysPage). seen_at x' (after x r) x.flash a) (eqb (verdict x (memory_area r)).number 0 && is_process x.block q) _ _)

  boots_number : boots x r ≡ true → (verdict x (memory_area r)).number ≡ 0
  unfolding boots
  boots_number e = eqb-true _ 0 e

  module _ (full : Answer) (ea : full ≡ answer x r) where
    number_of : full.number ≡ (verdict x (memory_area r)).number
    unfolding answer
    number_of = ap (λ (a : Answer). a.number) ea ∙ answer_number x (memory_area r)

    booted : full.number ≡ 0 → boots x r ≡ true
    unfolding boots
    booted z = eq-eqb _ 0 (sym number_of ∙ z)

pub one_board : (x : Image) (r : Memory) (exit : List ℕ) (q a : ℕ) (root : Option PhysPage) (full : Result Boot Refused) (seen : View) → a < 0x1_0000_0000
    → root ≡ root_found x (memory_area r) q → answer_of full ≡ answer x r → exit ≡ ram_after x r → seen ≡ seen_at root (memory_of r.start exit) x.flash a
    → OneBoard x r exit q a (record { answer = full; seen = seen })
unfolding seen_after
one_board x r exit q a root full seen h er ea ex es =
    let s : seen ≡ seen_after x r q a = es ∙ found_seen x r exit q a root er ex in
    record {
      answers = ea;
      leaves = ex;
      shows = s;
      demand_2 = λ z.
          let e : boots x r ≡ true = booted x r (answer_of full) ea z in
          let p : 1 ≤ q → q ≤ process_count x.block → seen ≡ process_sees x r q a
          = λ lo hi. s ∙ choose_yes _ _ (and_both e (is_process_lem x.block q lo hi)) in
          record {
            views = λ lo hi. p lo hi ∙ (sees_what_the_rules_give x r e q a lo hi h).0;
            exactly = λ lo hi. rw (p lo hi) (sees_exactly x r e q a lo hi h);
            stack = λ lo hi. rw (p lo hi) (stack_seen x r e q a lo hi h);
            flash_byte = λ lo hi. rw (p lo hi) (flash_byte_seen x r e q a lo hi h);
            one_owner = rw ex (one_owner_one_virtual_page x r e);
            in_ram_or_flash = rw ex (λ q' a' lo hi h'. (sees_what_the_rules_give x r e q' a' lo hi h').1);
            pages = rw ea (pages_add_up x r e);
          };
    }

pub two_boards : (x : Image) (r r' : Memory) (exit exit' : List ℕ) (q a : ℕ) (one two : Board) → a < 0x1_0000_0000
    → OneBoard x r exit q a one → OneBoard x r' exit' q a two → TwoBoards x r r' exit exit' q a (record { first = one; second = two })
unfolding seen_after choose
two_boards x r r' exit exit' q a one two h o t = record {
  first = o;
  second = t;
  demand_3 = λ z l no-1 no-11 no-13.
      let e : boots x r ≡ true = booted x r (answer_of one.answer) o.answers z in
      let n : (answer_of two.answer).number ≡ (verdict x (memory_area r')).number = number_of x r' (answer_of two.answer) t.answers in
      let e' : boots x r' ≡ true = boots_on_larger_ram x r r' e l (λ y. no-1 (n ∙ y)) (λ y. no-11 (n ∙ y)) (λ y. no-13 (n ∙ y)) in
      let s : SameOnBoth x r r' = same_on_both x r r' e e' l in (
        n ∙ boots_number x r' e',
        (λ lo hi. rw (o.shows, t.shows, e, e', is_process_lem x.block q lo hi) (s.views q a lo hi h)),
        rw (o.answers, t.answers) s.pages,
      );
}
