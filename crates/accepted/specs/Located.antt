-- 02, A5: where in the block a refusal's record is.
use Rattle.std.specs.Prelude.{◌≡◌, refl, Bool, List, ℕ, ◌+◌, ◌*◌, ◌≤◌, ◌<◌}
use Rattle.std.proofs.Common.{sym, inl, inr, arith}
use Rattle.notation.specs.Choice.{choose}
use Rattle.types.specs.declared.Area.{Area}
use Rattle.rules.specs.Answers.{Verdict}
use Rattle.rules.specs.Lent.{Image}
use Rattle.rules.specs.Block.{process_count, section_count, region_count, sections_at, regions_at, process_at, section_at, region_at}
use Rattle.rules.specs.Refusals.{Check, whole, records, process_record_check, process_check, section_refusal, section_check, entry_point_check, region_check, refused, accepted, first_refusal}
use Rattle.rules.specs.Refusals.{lent_checks, header_checks, process_checks, block_checks, content_checks, checks, verdict}
use Rattle.laws.specs.Choice.{by_choose}
use Rattle.laws.specs.Lists.{Every, ◌and◌, every_at}
use Rattle.accepted.specs.Checks.{Refuses, Numbered, Decided, decided, numbered}

-- place and offset of a verdict on block b: the refused record and where it is, and 0 for every number but 6 to 11
pub record Located (b : List ℕ) (v : Verdict) : Type 0 where
  pub to_5 : v.number ≤ 5 → (v.place ≡ 0) × (v.offset ≡ 0)
  pub at_6 : v.number ≡ 6 → (v.place < process_count b) × (v.offset ≡ 32 + 16 * v.place)
  pub at_7_to_9 : 7 ≤ v.number → v.number ≤ 9 → (v.place < section_count b) × (v.offset ≡ 32 + 16 * process_count b + 16 * v.place)
  pub at_10 : v.number ≡ 10 → (v.place < process_count b) × (v.offset ≡ 32 + 16 * v.place)
  pub at_11 : v.number ≡ 11 → (v.place < region_count b) × (v.offset ≡ 32 + 16 * process_count b + 16 * section_count b + 8 * v.place)
  pub from_12 : 12 ≤ v.number → (v.place ≡ 0) × (v.offset ≡ 0)

-- a check gives no refusal but such ones
abbrev pub Locates : List ℕ → Check → Type 0
Locates b c = (v : Verdict) → 1 ≤ v.number → Refuses c v → Located b v

-- the number of a test that is given is its number
the_number : (c : Bool) (n m : ℕ) → choose c n 0 ≡ m → 1 ≤ m → m ≡ n
the_number c n m e h = by_choose (λ z. z ≡ m → m ≡ n) c n 0 (λ _ y. sym y) (λ _ y. absurd (omega arith)) e

section_numbers : (b : List ℕ) (flash n m : ℕ) → section_refusal b flash n ≡ m → 1 ≤ m → (7 ≤ m) × (m ≤ 9)
unfolding section_refusal
section_numbers b flash n m e h =
    by_choose (λ z. z ≡ m → (7 ≤ m) × (m ≤ 9)) _ 7 _ (λ _ y. (omega arith, omega arith))
    (λ _. by_choose (λ z. z ≡ m → (7 ≤ m) × (m ≤ 9)) _ 8 _ (λ _ y. (omega arith, omega arith))
    (λ _ y. let nine : m ≡ 9 = the_number _ 9 m y h in (omega arith, omega arith))) e

module _ (b : List ℕ) where
  pub whole_located : (n : ℕ) (c : Bool) (outside : (6 ≤ n → n ≤ 11 → ⊥)) → Locates b (whole n c)
  whole_located n c outside v h r =
      let here : 6 ≤ v.number → v.number ≤ 11 → ⊥ = rw r.1 outside in
      record {
        to_5 = λ _. (r.2, r.3);
        at_6 = λ e. absurd (here (omega arith) (omega arith));
        at_7_to_9 = λ l m. absurd (here (omega arith) (omega arith));
        at_10 = λ e. absurd (here (omega arith) (omega arith));
        at_11 = λ e. absurd (here (omega arith) (omega arith));
        from_12 = λ _. (r.2, r.3);
      }

  pub process_located : Locates b (records (process_count b) (process_check b))
  unfolding process_record_check process_check process_at
  process_located v h r =
      let six : v.number ≡ 6 = the_number _ 6 _ r.1 h in
      record {
        to_5 = λ l. absurd (omega arith);
        at_6 = λ _. (r.0, omega (arith, r.2));
        at_7_to_9 = λ l m. absurd (omega arith);
        at_10 = λ e. absurd (omega arith);
        at_11 = λ e. absurd (omega arith);
        from_12 = λ l. absurd (omega arith);
      }

  pub section_located : (flash : ℕ) → Locates b (records (section_count b) (section_check b flash))
  unfolding section_check section_at sections_at
  section_located flash v h r =
      let between : (7 ≤ v.number) × (v.number ≤ 9) = section_numbers b flash v.place v.number r.1 h in
      record {
        to_5 = λ l. absurd (omega (arith, between.0));
        at_6 = λ e. absurd (omega (arith, between.0));
        at_7_to_9 = λ _ _. (r.0, omega (arith, r.2));
        at_10 = λ e. absurd (omega (arith, between.1));
        at_11 = λ e. absurd (omega (arith, between.1));
        from_12 = λ l. absurd (omega (arith, between.1));
      }

  pub entry_point_located : Locates b (records (process_count b) (entry_point_check b))
  unfolding entry_point_check process_at
  entry_point_located v h r =
      let ten : v.number ≡ 10 = the_number _ 10 _ r.1 h in
      record {
        to_5 = λ l. absurd (omega arith);
        at_6 = λ e. absurd (omega arith);
        at_7_to_9 = λ l m. absurd (omega arith);
        at_10 = λ _. (r.0, omega (arith, r.2));
        at_11 = λ e. absurd (omega arith);
        from_12 = λ l. absurd (omega arith);
      }

  pub region_located : (flash ram : Area) → Locates b (records (region_count b) (region_check b flash ram))
  unfolding region_check region_at regions_at
  region_located flash ram v h r =
      let eleven : v.number ≡ 11 = the_number _ 11 _ r.1 h in
      record {
        to_5 = λ l. absurd (omega arith);
        at_6 = λ e. absurd (omega arith);
        at_7_to_9 = λ l m. absurd (omega arith);
        at_10 = λ e. absurd (omega arith);
        at_11 = λ _. (r.0, omega (arith, r.2));
        from_12 = λ l. absurd (omega arith);
      }

  accepted_located : Located b accepted
  unfolding accepted refused
  accepted_located = record {
    to_5 = λ _. (refl, refl);
    at_6 = λ e. absurd (omega arith);
    at_7_to_9 = λ l m. absurd (omega arith);
    at_10 = λ e. absurd (omega arith);
    at_11 = λ e. absurd (omega arith);
    from_12 = λ l. absurd (omega arith);
  }

  -- THE LAW: so is the verdict on a list of such checks
  pub all_located : (top : ℕ) (cs : List Check) → Every (Numbered top) cs → Every (Locates b) cs → Located b (first_refusal cs)
  all_located top cs ns ls = go (first_refusal cs) (decided top cs ns)
    where
      go : (v : Verdict) → Decided top cs v → Located b v
      go v (inl d) = rw d.1 accepted_located
      go v (inr d) = every_at (Locates b) cs d.2.step ls d.2.there v d.0 d.2.cause

pub verdict_located : (x : Image) (ram : Area) → Located x.block (verdict x ram)
unfolding verdict checks lent_checks header_checks process_checks block_checks content_checks
verdict_located x ram =
    let b : List ℕ = x.block in
    all_located b 13 (checks x ram) (numbered x ram)
    (whole_located b 1 _ (λ l m. omega arith)
    and whole_located b 13 _ (λ l m. omega arith)
    and whole_located b 2 _ (λ l m. omega arith)
    and whole_located b 3 _ (λ l m. omega arith)
    and whole_located b 4 _ (λ l m. omega arith)
    and whole_located b 5 _ (λ l m. omega arith)
    and process_located b
    and section_located b _
    and entry_point_located b
    and region_located b _ ram
    and whole_located b 12 _ (λ l m. omega arith)
    and tt)
