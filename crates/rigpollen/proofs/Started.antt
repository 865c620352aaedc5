-- What a process starts with: the three answers.
use Rattle.std.proofs.Common.{◌≡◌, ℕ, ◌%◌, ◌≤◌, List, [], refl, sym, ap, ◌∙◌, arith, Bool, true, false, leb, leb-true, eq-eqb, ne_eqb, Option, Some, None, Ok, Err}
use Rattle.std.specs.Option.{ok_or}
use Rattle.notation.specs.Choice.{choose}
use Rattle.types.specs.declared.Area.{Area}
use Rattle.types.specs.declared.PhysPage.{PhysPage}
use Rattle.rules.specs.Answers.{Verdict}
use Rattle.rules.specs.Lent.{Image, pages_in}
use Rattle.rules.specs.Block.{process_count}
use Rattle.rules.specs.InPlace.{xip_of}
use Rattle.rules.specs.Order.{root_table, ram_page}
use Rattle.rules.specs.Refusals.{refused, accepted as accepted_verdict, verdict}
use Rattle.rules.specs.Entries.{satp_of}
use Rattle.rules.specs.Contents.{process_word}
use Rattle.rules.specs.Load.{phys_page, satp_word}
use Rattle.laws.specs.Choice.{and_right}
use Rattle.accepted.specs.Fits.{Fits, accepted}
use Rattle.refusals.specs.declared.Refused.{Refused}
use Rattle.refusals.specs.Numbers.{number_of}
use Rattle.refusals.specs.Answers.{refused_of}
use Rattle.refusals.proofs.Given.{number_given}
use Rattle.order_roots.specs.Roots.{is_process, root_found}
use Rattle.loader.specs.StartWords.{start_words}
use Rattle.rigpollen.specs.declared.NotStarted.{NotStarted}
use Rattle.rigpollen.specs.declared.NotStarted.TheVariants.{NoProcess}
use Rattle.rigpollen.specs.Words.{not_started_number, process_number, process_words}

nowhere : (c : Bool) (P : PhysPage) → choose c (Some P) None ≡ None → c ≡ false
unfolding choose
nowhere true P e = cc
nowhere false P e = refl

somewhere : (c : Bool) (P P' : PhysPage) → choose c (Some P) None ≡ Some P' → (c ≡ true) × (P ≡ P')
unfolding choose
somewhere true P P' e = (refl, cc)
somewhere false P P' e = cc

-- an error that stands for no root, and a root
no_root : {A : Type 0} (root : Option A) (e : NotStarted) → Err e ≡ ok_or root NoProcess → (root ≡ None) × (e ≡ NoProcess)
no_root None e k = (refl, cc)
no_root (Some P) e k = cc

some_root : {A : Type 0} (root : Option A) (P : A) → Ok P ≡ ok_or root NoProcess → root ≡ Some P
some_root None P k = cc
some_root (Some P') P k = cc

module _ (x : Image) (ram : Area) (q : ℕ) where
  abbrev page : PhysPage
  page = record { 0 = phys_page x.block (xip_of x) (pages_in ram) (root_table q) }

  pub process_refused : (e : Refused) → refused_of e ≡ verdict x ram → (number_of e.refusal ≡ process_number x ram q) × ([] ≡ process_words x ram q)
  unfolding process_number process_words choose refused
  process_refused e is = let n = ne_eqb (number_of e.refusal) 0 (number_given e.refusal) in rw (← is, n) (refl, rw n)

  module _ (is : accepted_verdict ≡ verdict x ram) where
    none : (verdict x ram).number ≡ 0
    unfolding accepted_verdict refused
    none = ap (λ (v : Verdict). v.number) (sym is)

    found : root_found x ram q ≡ choose (is_process x.block q) (Some page) None
    unfolding root_found
    found = rw (eq-eqb (verdict x ram).number 0 none)

    number_is : process_number x ram q ≡ choose (is_process x.block q) 0 31
    unfolding process_number choose
    number_is = rw (eq-eqb (verdict x ram).number 0 none)

    pub no_process : {root : Option PhysPage} (e : NotStarted) → root ≡ root_found x ram q → Err e ≡ ok_or root NoProcess
        → (not_started_number e ≡ process_number x ram q) × ([] ≡ process_words x ram q)
    unfolding process_words choose
    no_process {root} e f k =
        let missing : (root ≡ None) × (e ≡ NoProcess) = no_root root e k in
        let c : is_process x.block q ≡ false = nowhere _ page (sym (f ∙ found) ∙ missing.0) in
        let n : process_number x ram q ≡ 31 = number_is ∙ rw c in
        (rw (missing.1, n), rw n)

    -- the words are of 32 bits
    satp_word_is : is_process x.block q ≡ true
        → satp_of q (phys_page x.block (xip_of x) (pages_in ram) (root_table q)) % 0x1_0000_0000 ≡ satp_word x.block (xip_of x) (pages_in ram) q
    unfolding satp_of satp_word phys_page ram_page is_process
    satp_word_is c =
        let f : Fits x.block (xip_of x) (pages_in ram) = (accepted x ram (verdict x ram) refl none).room in
        let h : q ≤ process_count x.block = leb-true _ _ (and_right (leb 1 q) _ c) in
        omega (arith, f.few_processes, f.end)

    pub process_told : {root : Option PhysPage} {words : List ℕ} (P : PhysPage) → root ≡ root_found x ram q → Ok P ≡ ok_or root NoProcess → words ≡ start_words x.block q P.0
        → (0 ≡ process_number x ram q) × (words ≡ process_words x ram q)
    unfolding process_words start_words process_word choose
    process_told {root} P f k t =
        let s : (is_process x.block q ≡ true) × (page ≡ P) = somewhere (is_process x.block q) page P (sym (f ∙ found) ∙ some_root root P k) in
        let n : process_number x ram q ≡ 0 = number_is ∙ rw s.0 in
        let p : P.0 ≡ phys_page x.block (xip_of x) (pages_in ram) (root_table q) = sym (ap (λ (p : PhysPage). p.0) s.1) in
        (sym n, t ∙ rw (n, p, satp_word_is s.0))
