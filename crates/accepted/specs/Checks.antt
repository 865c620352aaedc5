-- The first refusal of a list of checks, and what is known of the others.
use Rattle.std.specs.Prelude.{◌≡◌, refl, ◌≢◌, ◌⊎◌, ◌↔◌, List, [], ◌∷◌, Bool, true, false, ℕ, zero, suc, ◌+◌, ◌≤◌, ◌<◌, eqb}
use Rattle.std.proofs.Common.{inl, inr, not-suc-le-zero, le_of_suc-le-suc, arith, eqb-true}
use Rattle.std.proofs.Math.Option.{some}
use Rattle.std.proofs.Math.Decide.{ℕ_discrete}
use Rattle.std.proofs.lemmas.Bool.{eqb-false}
use Rattle.notation.specs.Choice.{choose}
use Rattle.notation.specs.Lists.{lookup}
use Rattle.types.specs.declared.Area.{Area}
use Rattle.rules.specs.Answers.{RecordCheck, Verdict}
use Rattle.rules.specs.Lent.{Image}
use Rattle.rules.specs.Refusals.{Check, whole, records, refused, accepted, first_record, first_refusal, process_record_check, process_check, section_refusal, section_check, entry_point_check, region_check, lent_checks, header_checks, process_checks, block_checks, content_checks, checks, verdict}
use Rattle.laws.specs.Choice.{by_choose}
use Rattle.laws.specs.Lists.{Every, ◌and◌, every_at}

-- nothing is wrong at a check
abbrev pub Passes : Check → Type 0
Passes (whole n c) = c ≡ false
Passes (records n f) = (i : ℕ) → i < n → (f i).number ≡ 0

-- a check gives this refusal: its cause holds, of a record at its place and offset, and at no record before
abbrev pub Refuses : Check → Verdict → Type 0
Refuses (whole n c) v = (c ≡ true) × (v.number ≡ n) × (v.place ≡ 0) × (v.offset ≡ 0)
Refuses (records n f) v =
    (v.place < n) × ((f v.place).number ≡ v.number) × ((f v.place).offset ≡ v.offset) × ((i : ℕ) → i < v.place → (f i).number ≡ 0)

-- a refusal comes from the first check that does not pass
pub record FirstCause (cs : List Check) (v : Verdict) : Type 0 where
  pub step : ℕ
  pub check : Check
  pub there : lookup cs step ≡ some check
  pub earlier : (k : ℕ) → k < step → (c : Check) → lookup cs k ≡ some c → Passes c
  pub cause : Refuses check v

-- the numbers of a check are 1 to `top`
abbrev pub Numbered : ℕ → Check → Type 0
Numbered top (whole n c) = (1 ≤ n) × (n ≤ top)
Numbered top (records n f) = (i : ℕ) → (f i).number ≤ top

-- the verdict on a list of checks: all pass, or one is the first that does not
abbrev pub Decided : ℕ → List Check → Verdict → Type 0
Decided top cs v = (Every Passes cs × (v ≡ accepted)) ⊎ ((1 ≤ v.number) × (v.number ≤ top) × FirstCause cs v)

-- the first record with a refusal, or none has one
abbrev Scanned : (ℕ → RecordCheck) → ℕ → ℕ → Verdict → Verdict → Type 0
Scanned f k n rest v =
    (((i : ℕ) → k ≤ i → i < k + n → (f i).number ≡ 0) × (v ≡ rest))
    ⊎ ((at : ℕ) × (k ≤ at) × (at < k + n) × ((f at).number ≢ 0) × ((i : ℕ) → k ≤ i → i < at → (f i).number ≡ 0) × (v ≡ refused (f at).number at (f at).offset))

scanned : (f : ℕ → RecordCheck) (k n : ℕ) (rest : Verdict) → Scanned f k n rest (first_record f k n rest)
unfolding first_record
scanned f k zero rest = inl ((λ i l h. absurd (omega arith)), refl)
scanned f k (suc n) rest =
    by_choose (Scanned f k (suc n) rest) (eqb (f k).number 0) _ _
    (λ e. later (eqb-true (f k).number 0 e) (scanned f (suc k) n rest))
    (λ e. inr (k, omega arith, omega arith, eqb-false (f k).number 0 e, (λ i l h. absurd (omega arith)), refl))
  where
    later : (f k).number ≡ 0 → {v : Verdict} → Scanned f (suc k) n rest v → Scanned f k (suc n) rest v
    later z (inl s) = inl ((λ i l h. elim (ℕ_discrete i k) [ yes e ↦ rw e z | no e ↦ s.0 i (omega arith) (omega arith) ]), s.1)
    later z (inr s) = inr (
      s.0,
      omega arith,
      omega arith,
      s.3,
      (λ i l h. elim (ℕ_discrete i k) [ yes e ↦ rw e z | no e ↦ s.4 i (omega arith) h ]),
      s.5,
    )

-- a check that passes, before the others
pass : {top : ℕ} {c : Check} {cs : List Check} {v : Verdict} → Passes c → Decided top cs v → Decided top (c ∷ cs) v
unfolding lookup
pass p (inl d) = inl ((p, d.0), d.1)
pass {c = c} {cs} p (inr d) =
    inr (
      d.0,
      d.1,
      record {
        step = suc d.2.step;
        check = d.2.check;
        there = d.2.there;
        earlier = λ k. elim k as (λ k. k < suc d.2.step → (c' : Check) → lookup (c ∷ cs) k ≡ some c' → Passes c') [
          | zero ↦ λ h c' e. same_check c c' e p
          | suc k ↦ λ h c' e. d.2.earlier k (le_of_suc-le-suc h) c' e
        ];
        cause = d.2.cause;
      },
    )
  where
    same_check : (c c' : Check) → some c ≡ some c' → Passes c → Passes c'
    same_check c c' e p = let q : c ≡ c' = cc in rw q at p

pub decided : (top : ℕ) (cs : List Check) → Every (Numbered top) cs → Decided top cs (first_refusal cs)
unfolding first_refusal lookup refused
decided top [] ns = inl (tt, refl)
decided top (whole n c ∷ cs) ns =
    by_choose (Decided top (whole n c ∷ cs)) c _ _
    (λ e. inr (
      ns.0.0,
      ns.0.1,
      record {
        step = 0;
        check = whole n c;
        there = refl;
        earlier = λ k h. absurd (not-suc-le-zero h);
        cause = (e, refl, refl, refl);
      },
    ))
    (λ e. pass {top = top} e (decided top cs ns.1))
decided top (records n f ∷ cs) ns = go (first_record f 0 n (first_refusal cs)) (scanned f 0 n (first_refusal cs)) (decided top cs ns.1)
  where
    go : (v : Verdict) → Scanned f 0 n (first_refusal cs) v → Decided top cs (first_refusal cs) → Decided top (records n f ∷ cs) v
    go v (inl s) d = rw s.1 (pass {top = top} (λ i h. s.0 i (omega arith) (omega arith)) d)
    go v (inr s) d = rw s.5 (inr (
      omega (arith, s.3),
      ns.0 s.0,
      record {
        step = 0;
        check = records n f;
        there = refl;
        earlier = λ k h. absurd (not-suc-le-zero h);
        cause = (omega (arith, s.2), refl, refl, λ i h. s.4 i (omega arith) h);
      },
    ))

pub one_number : (c : Bool) (n top : ℕ) → n ≤ top → choose c n 0 ≤ top
one_number c n top h = by_choose (λ m. m ≤ top) c n 0 (λ _. h) (λ _. omega arith)

section_number : (b : List ℕ) (flash n : ℕ) → section_refusal b flash n ≤ 13
unfolding section_refusal
section_number b flash n =
    by_choose (λ m. m ≤ 13) _ 7 _ (λ _. omega arith) (λ _. by_choose (λ m. m ≤ 13) _ 8 _ (λ _. omega arith) (λ _. one_number _ 9 13 (omega arith)))

pub numbered : (x : Image) (ram : Area) → Every (Numbered 13) (checks x ram)
unfolding checks lent_checks header_checks process_checks block_checks content_checks process_record_check process_check section_check entry_point_check region_check
numbered x ram =
    (omega arith) and (omega arith) and (omega arith) and (omega arith) and (omega arith) and (omega arith) and (λ i. one_number _ 6 13 (omega arith))
    and section_number x.block _ and (λ i. one_number _ 10 13 (omega arith)) and (λ i. one_number _ 11 13 (omega arith)) and (omega arith) and tt

-- a check does not pass and refuse at once
pub not_both : (c : Check) (v : Verdict) → 1 ≤ v.number → Passes c → Refuses c v → ⊥
not_both (whole n c) v h p r = let z : ◌≡◌ {A = ℕ} 0 1 = cc in omega arith
not_both (records n f) v h p r = omega (arith, p v.place r.0, r.1)

-- nor do all pass where one refuses
never : (top : ℕ) (cs : List Check) (v : Verdict) → (1 ≤ v.number) × (v.number ≤ top) × FirstCause cs v → Every Passes cs → ⊥
never top cs v d ps = not_both d.2.check v d.0 (every_at Passes cs d.2.step ps d.2.there) d.2.cause

all_pass : (top : ℕ) (cs : List Check) (v : Verdict) → Decided top cs v → (v.number ≡ 0) ↔ Every Passes cs
unfolding accepted refused
all_pass top cs v (inl d) = ((λ _. d.0), (λ _. rw d.1))
all_pass top cs v (inr d) = ((λ e. absurd (omega (arith, d.0))), (λ ps. absurd (never top cs v d ps)))

first_cause : (cs : List Check) (v : Verdict) → Decided 13 cs v → v.number ≢ 0 → (1 ≤ v.number) × (v.number ≤ 13) × FirstCause cs v
unfolding accepted refused
first_cause cs v (inl d) h = absurd (h (rw d.1))
first_cause cs v (inr d) h = d

-- number 0 exactly where every check of a list passes
pub all_checks_pass : (top : ℕ) (cs : List Check) → Every (Numbered top) cs → ((first_refusal cs).number ≡ 0) ↔ Every Passes cs
all_checks_pass top cs ns = all_pass top cs _ (decided top cs ns)

all_accepted : (top : ℕ) (cs : List Check) (v : Verdict) → Decided top cs v → Every Passes cs → v ≡ accepted
all_accepted top cs v (inl d) ps = d.1
all_accepted top cs v (inr d) ps = absurd (never top cs v d ps)

-- and then place and offset are 0 too
pub all_checks_accepted : (top : ℕ) (cs : List Check) → Every (Numbered top) cs → Every Passes cs → first_refusal cs ≡ accepted
all_checks_accepted top cs ns = all_accepted top cs _ (decided top cs ns)

-- THE VERDICT: number 0, and then place and offset 0, exactly where every check passes; else the first cause
pub verdict_passes : (x : Image) (ram : Area) → ((verdict x ram).number ≡ 0) ↔ Every Passes (checks x ram)
unfolding verdict
verdict_passes x ram = all_checks_pass 13 (checks x ram) (numbered x ram)

pub verdict_accepted : (x : Image) (ram : Area) → (verdict x ram).number ≡ 0 → verdict x ram ≡ accepted
unfolding verdict
verdict_accepted x ram e = all_checks_accepted 13 (checks x ram) (numbered x ram) ((verdict_passes x ram).0 e)

pub verdict_refuses : (x : Image) (ram : Area) → (verdict x ram).number ≢ 0
    → (1 ≤ (verdict x ram).number) × ((verdict x ram).number ≤ 13) × FirstCause (checks x ram) (verdict x ram)
unfolding verdict
verdict_refuses x ram = first_cause _ _ (decided 13 (checks x ram) (numbered x ram))
