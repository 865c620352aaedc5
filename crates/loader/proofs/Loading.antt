-- All pages, part by part.
use Rattle.std.proofs.Common.{◌≡◌, refl, ◌∙◌, Bool, List, [], ◌∷◌, ◌++◌, append_assoc, ℕ, ◌+◌, ◌-◌, ◌*◌, ◌/◌, ◌≤◌, arith, length, get_or}
use Rattle.types.specs.declared.PageRange.{PageRange}
use Rattle.rules.specs.Lent.{Image, Memory, memory_area, pages_in}
use Rattle.rules.specs.Space.{process_list, block_copy}
use Rattle.rules.specs.InPlace.{xip_of}
use Rattle.rules.specs.Order.{holds, all_sections, tracker_uses, all_tables, below_top, uses, tracker_pages, pages_needed}
use Rattle.rules.specs.Contents.{process_list_byte, data_byte}
use Rattle.rules.specs.Load.{satp_word, page_byte, loaded}
use Rattle.order_laws.specs.Places.{tracker_place, root_place, tracker_uses_length, all_sections_length, tables_before_none}
use Rattle.writing.specs.Pages.{put}
use Rattle.writing.specs.Uses.{Wrote, wrote_page, wrote_then}
use Rattle.writing.specs.Loaded.{content, below_top_length, written_is_loaded, section_content, wrote_sections, WroteAny}
use Rattle.accepted.specs.Fits.{Accepted}

-- PLACES AFTER EACH PART
pub needed_four : (b : List ℕ) (xip : ℕ → Bool) (N : ℕ) → 4 ≤ pages_needed b xip N
unfolding pages_needed uses
needed_four b xip N = omega (arith, below_top_length b xip (tracker_pages b N))

module _ (b flash : List ℕ) (xip : ℕ → Bool) (start : ℕ) (ram : PageRange) {r₀ r₁ r₂ : List ℕ} {n₁ n₂ : ℕ}
    (w₁ : Wrote (section_content b flash) (all_sections b xip) r₀ (ram.pages - 4) r₁ n₁)
    (w₂ : WroteAny b xip start ram (tracker_uses (tracker_pages b ram.pages)) r₁ n₁ r₂ n₂) where
  pub list_place : n₂ ≡ ram.pages - (tracker_place b xip + tracker_pages b ram.pages)
  list_place = omega (arith, all_sections_length b xip, w₁.left, w₂.left, tracker_uses_length (tracker_pages b ram.pages))

  pub list_room : ram.pages ≡ length r₀ / 4096 → 4096 * n₂ ≤ length r₂
  list_room e = omega (arith, list_place, w₁.long, w₂.long)

  pub tables_place : {n₃ n₄ : ℕ} → n₃ ≡ n₂ - 1 → n₄ ≡ n₃ - 1 → n₄ ≡ ram.pages - root_place b xip (tracker_pages b ram.pages) 1
  unfolding root_place
  tables_place e₃ e₄ = omega (arith, list_place, tables_before_none b)

-- ALL PARTS
joined : (b : List ℕ) (xip : ℕ → Bool) (T : ℕ)
    → (((all_sections b xip ++ tracker_uses T) ++ (holds process_list ∷ [])) ++ (holds block_copy ∷ [])) ++ all_tables b ≡ below_top b xip T
unfolding below_top
joined b xip T = simp append_assoc

module _ (x : Image) (r : Memory) (xip : ℕ → Bool) (right : xip ≡ xip_of x) (ok : Accepted x.block xip (memory_area r)) {r₁ r₂ r₃ r₄ r₅ : List ℕ} {n₁ n₂ n₃ n₄ n₅ : ℕ}
    (w₁ : Wrote (section_content x.block x.flash.bytes) (all_sections x.block xip) r.bytes ((pages_in (memory_area r)).pages - 4) r₁ n₁)
    (w₂ : WroteAny x.block xip x.flash.start (pages_in (memory_area r)) (tracker_uses (tracker_pages x.block (pages_in (memory_area r)).pages)) r₁ n₁ r₂ n₂)
    (l₃ : n₃ ≡ n₂ - 1)
    (p₃ : r₃ ≡ put r₂ (n₂ - 1) (process_list_byte x.block (satp_word x.block xip (pages_in (memory_area r)))))
    (l₄ : n₄ ≡ n₃ - 1)
    (p₄ : r₄ ≡ put r₃ (n₃ - 1) (λ o. get_or x.block o 0))
    (w₅ : WroteAny x.block xip x.flash.start (pages_in (memory_area r)) (all_tables x.block) r₄ n₄ r₅ n₅) where
  abbrev ram : PageRange
  ram = pages_in (memory_area r)

  all_written : Wrote (content x xip ram) (below_top x.block xip (tracker_pages x.block ram.pages)) r.bytes (ram.pages - 4) r₅ n₅
  unfolding content page_byte data_byte
  all_written =
      let list : Wrote (content x xip ram) (holds process_list ∷ []) r₂ n₂ r₃ n₃ = wrote_page (holds process_list) _ l₃ refl p₃ (λ o _. refl) in
      let copy : Wrote (content x xip ram) (holds block_copy ∷ []) r₃ n₃ r₄ n₄ = wrote_page (holds block_copy) _ l₄ refl p₄ (λ o _. refl) in
      rw (joined x.block xip (tracker_pages x.block ram.pages)) at
      (wrote_then (wrote_then (wrote_then (wrote_then (wrote_sections x xip ram w₁) (w₂.wrote x.flash.bytes)) list) copy) (w₅.wrote x.flash.bytes))

  pub pages_end : r₅ ≡ loaded x r
  pages_end = rw right at all_written.bytes ∙ written_is_loaded x r ok.whole_pages (rw right at ok.room.enough)
