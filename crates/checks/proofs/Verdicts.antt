-- Laws of the verdict.
use Rattle.std.proofs.Common.{◌≡◌, refl, sym, ap, ◌∙◌, List, [], ◌∷◌, ◌++◌, arith, ltb-false, eq-eqb, ne_eqb, ℕ, ◌/◌, ◌≤◌, ◌<◌, Ok, Err}
use Rattle.notation.specs.Choice.{choose}
use Rattle.laws.specs.Choice.{any_none, choose_yes, choose_no}
use Rattle.laws.specs.Lists.{Every, ◌and◌, every_append}
use Rattle.types.specs.declared.Area.{Area}
use Rattle.rules.specs.Answers.{RecordCheck, Verdict}
use Rattle.rules.specs.Lent.{Image, memory_area, pages_in}
use Rattle.rules.specs.Block.{process_count, section_count, region_count, sections_at, regions_at, process_at, section_at, region_at}
use Rattle.rules.specs.Refusals.{whole, records, ram_unfit, outside, counts_outside, counts_out_of_bounds, ram_too_small, process_record_check, process_check, section_check, entry_point_check, region_check, refused, accepted, first_record, first_refusal}
use Rattle.rules.specs.Refusals.{lent_checks, header_checks, process_checks, block_checks, content_checks, checks, verdict}
use Rattle.accepted.specs.InOrder.{first_of, first_none, NotZero, first_of_both, step, one_whole, whole_not_given}
use Rattle.refusals.specs.declared.Refused.{Refused}
use Rattle.refusals.specs.declared.RecordRefusal.{RecordRefusal}
use Rattle.refusals.specs.Answers.{check_of, verdict_of}
use Rattle.refusals.proofs.Given.{number_given}
use Rattle.checks.specs.Scan.{Counted, record_checks, checks_before12}

-- STEPS THAT END IN `?`: of two verdicts in order, an error of the first is both, and without one the second is
module _ (v w : Verdict) where
  pub stops : (e : Refused) → verdict_of (Err e) ≡ v → verdict_of (Err e) ≡ first_of v w
  unfolding verdict_of refused
  stops e h = h ∙ sym (choose_no w v (ne_eqb v.number 0 (λ z. number_given e.refusal (ap (λ (k : Verdict). k.number) h ∙ z))))

  pub goes_on : (u : Unit) → verdict_of (Ok u) ≡ v → first_of v w ≡ w
  unfolding verdict_of accepted refused
  goes_on u h = choose_yes w v (eq-eqb v.number 0 (ap (λ (k : Verdict). k.number) (sym h)))

module _ (b : List ℕ) (flash ram : Area) where
  -- the verdicts of 6, of 7 to 9, of 10 and of 11, each alone
  abbrev pub of_processes : Verdict
  of_processes = first_record (process_check b) 0 (process_count b) accepted

  abbrev pub of_sections : Verdict
  of_sections = first_record (section_check b flash.length) 0 (section_count b) accepted

  abbrev pub of_entry_points : Verdict
  of_entry_points = first_record (entry_point_check b) 0 (process_count b) accepted

  abbrev pub of_regions : Verdict
  of_regions = first_record (region_check b flash ram) 0 (region_count b) accepted

  pub records_then : first_refusal (record_checks b flash ram) ≡ first_of of_processes (first_of of_sections (first_of of_entry_points of_regions))
  unfolding record_checks first_refusal
  records_then =
      let processes = records (process_count b) (process_check b) in
      let sections = records (section_count b) (section_check b flash.length) in
      let entry_points = records (process_count b) (entry_point_check b) in
      let regions = records (region_count b) (region_check b flash ram) ∷ [] in
      step processes (sections ∷ entry_points ∷ regions) _ tt (step sections (entry_points ∷ regions) _ tt (step entry_points regions _ tt refl))

  module _ (u : Unit) (six : verdict_of (Ok u) ≡ of_processes) where
    pub past_processes : first_refusal (record_checks b flash ram) ≡ first_of of_sections (first_of of_entry_points of_regions)
    past_processes = records_then ∙ goes_on of_processes (first_of of_sections (first_of of_entry_points of_regions)) u six

    module _ (nine : verdict_of (Ok u) ≡ of_sections) where
      pub past_sections : first_refusal (record_checks b flash ram) ≡ first_of of_entry_points of_regions
      past_sections = past_processes ∙ goes_on of_sections (first_of of_entry_points of_regions) u nine

      pub past_entry_points : verdict_of (Ok u) ≡ of_entry_points → first_refusal (record_checks b flash ram) ≡ of_regions
      past_entry_points ten = past_sections ∙ goes_on of_entry_points of_regions u ten

  lent_numbered : Every NotZero (lent_checks flash ram)
  unfolding lent_checks
  lent_numbered = (omega arith) and (omega arith) and tt

  header_numbered : Every NotZero (header_checks b)
  unfolding header_checks
  header_numbered = (omega arith) and (omega arith) and (omega arith) and (omega arith) and tt

  records_numbered : Every NotZero (record_checks b flash ram)
  unfolding record_checks
  records_numbered = tt and tt and tt and tt and tt

  pub before_12_then : first_refusal (checks_before12 b flash ram)
      ≡ first_of (first_refusal (lent_checks flash ram)) (first_of (first_refusal (header_checks b)) (first_refusal (record_checks b flash ram)))
  unfolding checks_before12
  before_12_then = rw (first_of_both (lent_checks flash ram) (header_checks b ++ record_checks b flash ram) lent_numbered, first_of_both (header_checks b) (record_checks b flash ram) header_numbered)

  pub before_12_numbered : Every NotZero (checks_before12 b flash ram)
  unfolding checks_before12
  before_12_numbered = every_append NotZero (lent_checks flash ram) _ lent_numbered (every_append NotZero (header_checks b) _ header_numbered records_numbered)

  -- none but 12 is given: each of the three passes
  pub before_12_pass : (v : Verdict) → v ≡ first_refusal (checks_before12 b flash ram) → v.number ≡ 0
      → ((first_refusal (lent_checks flash ram)).number ≡ 0) × ((first_refusal (header_checks b)).number ≡ 0) × ((first_refusal (record_checks b flash ram)).number ≡ 0)
  before_12_pass v e z =
      let all = first_none _ _ (ap (λ (v : Verdict). v.number) (sym (e ∙ before_12_then)) ∙ z) in
      let rest = first_none _ _ all.1 in
      (all.0, rest.0, rest.1)

module _ (x : Image) (ram : Area) where
  abbrev flash : Area
  flash = memory_area x.flash

  -- 12, and the verdict on it alone
  abbrev pub room : Verdict
  room = choose (ram_too_small x (pages_in ram).pages) (refused 12 0 0) accepted

  parted : checks x ram ≡ checks_before12 x.block flash ram ++ (whole 12 (ram_too_small x (pages_in ram).pages) ∷ [])
  unfolding checks lent_checks header_checks process_checks block_checks content_checks checks_before12 record_checks
  parted = refl

  pub verdict_then : verdict x ram ≡ first_of (first_refusal (checks_before12 x.block flash ram)) room
  unfolding verdict
  verdict_then = rw (parted, first_of_both (checks_before12 x.block flash ram) (whole 12 (ram_too_small x (pages_in ram).pages) ∷ []) (before_12_numbered x.block flash ram), one_whole 12 _)

-- WHAT REFUSALS 1 AND 4 LEAVE, as far as later sums need it
pub few_pages : (flash ram : Area) → (first_refusal (lent_checks flash ram)).number ≡ 0 → ram.length / 4096 ≤ 4096
unfolding lent_checks first_refusal ram_unfit
few_pages flash ram z = ltb-false _ _ (any_none _ (whole_not_given _ 0 _ z).0 1)

pub counted : (b : List ℕ) → (first_refusal (header_checks b)).number ≡ 0 → Counted b
unfolding header_checks first_refusal counts_out_of_bounds counts_outside outside
counted b z =
    let two = whole_not_given _ 1 _ z in
    let three = whole_not_given _ 2 _ two.1 in
    let four = whole_not_given _ 3 _ three.1 in
    record {
      few_processes = ltb-false _ _ (any_none _ (any_none _ four.0 0) 1);
      few_sections = ltb-false _ _ (any_none _ (any_none _ four.0 1) 1);
      few_regions = ltb-false _ _ (any_none _ (any_none _ four.0 2) 1);
    }

-- and so where a record is
pub near : (r : RecordRefusal) (x : RecordCheck) → check_of r ≡ x → x.offset < 0x1_0000_0000 → r.offset < 0x1_0000_0000
near r x e h = rw (ap (λ (y : RecordCheck). y.offset) e) h

module _ (b : List ℕ) (c : Counted b) (i : ℕ) where
  pub process_near : i < process_count b → (process_check b i).offset < 0x1_0000_0000
  unfolding process_record_check process_check process_at
  process_near h = omega (arith, c.few_processes)

  pub section_near : (flash : ℕ) → i < section_count b → (section_check b flash i).offset < 0x1_0000_0000
  unfolding section_check section_at sections_at
  section_near flash h = omega (arith, c.few_processes, c.few_sections)

  pub entry_point_near : i < process_count b → (entry_point_check b i).offset < 0x1_0000_0000
  unfolding entry_point_check process_at
  entry_point_near h = omega (arith, c.few_processes)

  pub region_near : (flash ram : Area) → i < region_count b → (region_check b flash ram i).offset < 0x1_0000_0000
  unfolding region_check region_at regions_at sections_at
  region_near flash ram h = omega (arith, c.few_processes, c.few_sections, c.few_regions)

-- the check of a record of any kind has an offset of 32 bits
pub offset_fits : (b : List ℕ) (flash ram : Area) (i : ℕ) → Counted b
    → (i < process_count b → (process_check b i).offset < 0x1_0000_0000)
    × (i < section_count b → (section_check b flash.length i).offset < 0x1_0000_0000)
    × (i < process_count b → (entry_point_check b i).offset < 0x1_0000_0000)
    × (i < region_count b → (region_check b flash ram i).offset < 0x1_0000_0000)
offset_fits b flash ram i c = (process_near b c i, section_near b c i flash.length, entry_point_near b c i, region_near b c i flash ram)
