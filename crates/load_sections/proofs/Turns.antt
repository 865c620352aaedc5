-- What each loop holds, turn by turn: `Wrote`, for the pages so far.
use Rattle.std.proofs.Common.{◌≡◌, refl, sym, ◌∙◌, Bool, true, List, ℕ, ◌+◌, ◌-◌, arith}
use Rattle.notation.specs.Choice.{choose}
use Rattle.notation.specs.Lists.{gather}
use Rattle.laws.specs.Choice.{choose_yes}
use Rattle.rules.specs.Block.{process_count, sections_of, section_record, first_section_of}
use Rattle.rules.specs.Space.{section_page}
use Rattle.rules.specs.Order.{Use, holds, pages_taken, section_pages, section_uses, all_sections}
use Rattle.writing.specs.Pages.{put, put_length}
use Rattle.writing.specs.Uses.{Wrote, wrote_page, wrote_then, wrote_tab_none, wrote_tab_next}
use Rattle.writing.specs.Loaded.{section_content, section_content_lem}
use Rattle.block_records.specs.declared.Section.{Section}
use Rattle.block_records.specs.Read.{IsSection}
use Rattle.load_page.specs.Pages.{page_of, page_of_record}
use Rattle.load_sections.specs.Pages.{WrotePages}

-- PAGES, whatever they are used for
module _ {f : ℕ → ℕ → ℕ} where
  pub pages_none : (r : List ℕ) (n i : ℕ) → i ≡ 0 → WrotePages f i r n r n
  pages_none r n i e = record { long = refl; left = omega arith; uses = λ c u s. rw e (wrote_tab_none c u r n) }

  pub pages_next : {i : ℕ} {r₀ : List ℕ} {n₀ : ℕ} {r : List ℕ} {n : ℕ} {r' : List ℕ} {n' k : ℕ} → WrotePages f i r₀ n₀ r n
      → n' ≡ n - 1 → k ≡ n - 1 → r' ≡ put r k (f i) → WrotePages f (i + 1) r₀ n₀ r' n'
  pages_next {i} {r = r} w l k p = record {
    long = rw (p, put_length r _ (f i)) w.long;
    left = omega (arith, w.left);
    uses = λ c u s. wrote_tab_next c u i (w.uses c u s) (wrote_page (u i) (f i) l k p (s i));
  }

  pub pages_all : (i count : ℕ) {r₀ : List ℕ} {n₀ : ℕ} {r : List ℕ} {n : ℕ} → WrotePages f i r₀ n₀ r n → i ≡ count → WrotePages f count r₀ n₀ r n
  pages_all i count w e = rw e at w

-- pages of zeros that a section without a copy has
pub pages_cleared : (s : Section) (f : List ℕ) (count : ℕ) {r₀ : List ℕ} {n₀ : ℕ} {r : List ℕ} {n : ℕ} → s.no_copy ≡ true
    → WrotePages (λ i o. 0) count r₀ n₀ r n → WrotePages (page_of s f) count r₀ n₀ r n
unfolding page_of
pages_cleared s f count c w = record { long = w.long; left = w.left; uses = λ d u e. w.uses d u (λ i o h. sym (choose_yes _ _ c) ∙ e i o h) }

-- page i of section j of process q
abbrev pub page_use : ℕ → ℕ → ℕ → Use
page_use q j i = holds (section_page q j i)

module _ (b flash : List ℕ) (xip : ℕ → Bool) {r₀ : List ℕ} {n₀ : ℕ} {r : List ℕ} {n : ℕ} where
  -- a section's pages, as its record has them
  pub section_end_is : (q j m taken : ℕ) (s : Section) → IsSection b m s → m ≡ first_section_of b q + j → taken ≡ choose (xip m) 0 s.pages
      → WrotePages (page_of s flash) taken r₀ n₀ r n
      → Wrote (section_content b flash) (section_pages b xip q j) r₀ n₀ r n
  unfolding section_pages section_record pages_taken
  section_end_is q j m taken s is e t w =
      rw (← e, ← is.page_count_is, ← t) (w.uses (section_content b flash) (page_use q j) (λ i o _. page_of_record b m s 0 flash i o is.no_copy_is is.address_is is.size_is is.flash_offset ∙ rw e (sym (section_content_lem b flash 0 q j i o))))

  pub process_end : (q j : ℕ) → Wrote (section_content b flash) (gather j (section_pages b xip q)) r₀ n₀ r n → j ≡ sections_of b q
      → Wrote (section_content b flash) (section_uses b xip q) r₀ n₀ r n
  unfolding section_uses
  process_end q j w e = rw (← e) w

  pub sections_end : (i : ℕ) {r' : List ℕ} {n' : ℕ} → Wrote (section_content b flash) (gather i (λ i. section_uses b xip (i + 2))) r₀ n₀ r n
      → i ≡ process_count b - 1 → Wrote (section_content b flash) (section_uses b xip 1) r n r' n'
      → Wrote (section_content b flash) (all_sections b xip) r₀ n₀ r' n'
  unfolding all_sections
  sections_end i w e v = rw (← e) (wrote_then w v)
