-- The root of a process, case by case.
use Rattle.std.proofs.lemmas.Bool.{lt-leb}
use Rattle.std.proofs.Common.{◌≡◌, refl, sym, ap, ◌∙◌, ◌≢◌, List, Bool, true, false, ◌&&◌, arith, eq-eqb, ne_eqb, le-leb, ℕ, ◌+◌, ◌-◌, ◌%◌, ◌≤◌, ◌<◌}
use Rattle.notation.specs.Choice.{choose}
use Rattle.rules.specs.Answers.{Answer}
use Rattle.types.specs.declared.Area.{Area}
use Rattle.types.specs.declared.PageRange.{PageRange}
use Rattle.rules.specs.Lent.{Image, pages_in}
use Rattle.rules.specs.Block.{process_count}
use Rattle.rules.specs.InPlace.{xip_of}
use Rattle.rules.specs.Order.{root_table, ram_page, tracker_pages}
use Rattle.rules.specs.Refusals.{verdict}
use Rattle.rules.specs.Load.{phys_page, answer_on}
use Rattle.laws.specs.Choice.{choose_yes, choose_no}
use Rattle.order_laws.specs.Places.{table_count, root_place, place_root, ram_page_at}
use Rattle.order_laws.specs.Room.{tables_room}
use Rattle.accepted.specs.NoCause.{answer_number}
use Rattle.accepted.specs.Fits.{Fits, accepted}
use Rattle.order_places.specs.Capped.{capped}
use Rattle.order_places.proofs.Capped.{uncapped}
use Rattle.page_allocator.proofs.PageAt.{page_inside}
use Rattle.types.specs.declared.PhysPage.{PhysPage}
use Rattle.std.specs.Prelude.{Option, Some, None}
use Rattle.order_roots.specs.Roots.{is_process, root_found}

pub root_refused : (x : Image) (ram : Area) (q : ℕ) (a : Answer) → a ≡ answer_on x ram → a.number ≢ 0 → None ≡ root_found x ram q
unfolding root_found
root_refused x ram q a e n =
    sym (choose_no _ _ (ap (λ c. c && is_process x.block q) (ne_eqb _ 0 (λ z. n (ap (λ (a : Answer). a.number) e ∙ answer_number x ram ∙ z)))))

not_below : (b : List ℕ) (q : ℕ) → q ≡ 0 → is_process b q ≡ false
unfolding is_process
not_below b q e = rw (lt-leb 1 q (omega arith))

not_above : (b : List ℕ) (q : ℕ) → process_count b < q → is_process b q ≡ false
unfolding is_process
not_above b q h = rw (le-leb 1 q (omega arith), lt-leb q (process_count b) h)

never : (c : Bool) (x : Option PhysPage) → choose (c && false) x None ≡ None
never true x = choose_no _ _ refl
never false x = choose_no _ _ refl

no_process : (x : Image) (ram : Area) (q : ℕ) → is_process x.block q ≡ false → None ≡ root_found x ram q
unfolding root_found
no_process x ram q e = rw e (sym (never _ _))

pub root_below : (x : Image) (ram : Area) (q : ℕ) → q ≡ 0 → None ≡ root_found x ram q
root_below x ram q e = no_process x ram q (not_below x.block q e)

pub root_above : (x : Image) (ram : Area) (q p : ℕ) → p ≡ process_count x.block → p < q → None ≡ root_found x ram q
root_above x ram q p e h = no_process x ram q (not_above x.block q (omega arith))

-- the root's place is inside RAM
root_inside : (b : List ℕ) (xip : ℕ → Bool) (ram : PageRange) (q : ℕ) → Fits b xip ram → q ≢ 0 → q ≤ process_count b → root_place b xip (tracker_pages b ram.pages) q < ram.pages
unfolding table_count
root_inside b xip ram q f n h = omega (arith, tables_room b xip ram.pages q f.enough (omega arith) h)

pub root_at : (x : Image) (ram : Area) (q : ℕ) (a : Answer) (xip : ℕ → Bool) (place P : ℕ) → a ≡ answer_on x ram → a.number ≡ 0 → xip ≡ xip_of x
    → q ≢ 0 → q ≤ process_count x.block → place ≡ capped (root_place x.block xip (tracker_pages x.block (pages_in ram).pages) q)
    → P ≡ ((pages_in ram).base + ((pages_in ram).pages - 1 - place)) % 0x1_0000_0000
    → Some (record { 0 = P }) ≡ root_found x ram q
unfolding root_found is_process phys_page
root_at x ram q a xip place P e z right n h ep eP =
    let b : List ℕ = x.block in
    let N : ℕ = (pages_in ram).pages in
    let zero : (verdict x ram).number ≡ 0 = sym (answer_number x ram) ∙ ap (λ (a : Answer). a.number) (sym e) ∙ z in
    let f : Fits b (xip_of x) (pages_in ram) = (accepted x ram (verdict x ram) refl zero).room in
    let ep' : place ≡ capped (root_place b (xip_of x) (tracker_pages b N) q) = rw right at ep in
    let p : place ≡ root_place b (xip_of x) (tracker_pages b N) q = uncapped _ place ep' (omega (arith, root_inside b (xip_of x) (pages_in ram) q f n h, f.few_pages)) in
    let r : ram_page b (xip_of x) N (root_table q) ≡ N - 1 - root_place b (xip_of x) (tracker_pages b N) q
    = ram_page_at b (xip_of x) N (root_table q) _ (place_root b (xip_of x) _ q (omega arith) h) in
    rw (eq-eqb (verdict x ram).number 0 zero, le-leb 1 q (omega arith), le-leb q (process_count b) h, r, ← p, ← page_inside (pages_in ram) place P eP f.end) (sym (choose_yes _ _ refl))

-- RAM has few pages
pub few_pages : (x : Image) (ram : Area) (a : Answer) → a ≡ answer_on x ram → a.number ≡ 0 → (pages_in ram).pages ≤ 4096
few_pages x ram a e z = (accepted x ram (verdict x ram) refl (sym (answer_number x ram) ∙ ap (λ (a : Answer). a.number) (sym e) ∙ z)).room.few_pages
